-- The texts of fields: nothing is left to print where fields or values are spent.
use Rattle.std.proofs.Common.{◌≡◌, List, [], ◌∷◌, ◌++◌, ◌⊎◌, refl}
use Rattle.reg_base.specs.declared.value.Cell.{Cell}
use Rattle.cfg_model.specs.declared.kind.Field.{Field}
use Rattle.desk_words.specs.declared.request.FieldText.{FieldText}
use Rattle.desk_model.specs.Fields.{field_texts}
use Rattle.desk_plans.proofs.ShownLemmas.{spent}

field_texts-nil : (fields : List Field) → field_texts fields [] ≡ []
field_texts-nil [] = refl
field_texts-nil (field ∷ fields) = refl

-- all values have their texts
pub field_texts-spent : (front : List FieldText) (fields : List Field) (cells : List Cell)
    (all : List FieldText) → (fields ≡ []) ⊎ (cells ≡ []) →
    front ++ field_texts fields cells ≡ all → front ≡ all
field_texts-spent = spent field_texts (λ _. refl) field_texts-nil
