-- Sets and sums as texts: nothing is left to show where spaces, sets or sums are spent.
use Rattle.std.proofs.Common.{◌≡◌, ℕ, ℤ, List, [], ◌∷◌, ◌++◌, map, ◌⊎◌, ⊎_elim, refl, sym, ap}
use Rattle.std.proofs.Common.{◌∙◌, append-nil}
use Rattle.reg_base.specs.declared.records.Rec.{Rec}
use Rattle.reg_base.specs.declared.records.Posting.{Posting}
use Rattle.reg_base.specs.declared.records.Sets.{Sets}
use Rattle.cfg_model.specs.declared.config.Config.{Config}
use Rattle.cfg_model.specs.declared.register.Register.{Register}
use Rattle.cfg_model.specs.declared.register.Resource.{Resource}
use Rattle.cfg_model.specs.declared.ledger.Chart.{Chart}
use Rattle.desk_words.specs.declared.request.RecordText.{RecordText}
use Rattle.desk_words.specs.declared.request.SetText.{SetText}
use Rattle.desk_words.specs.RowTexts.{sum_texts}
use Rattle.desk_model.specs.Shown.{shown_record, shown_entry, shown_set}
use Rattle.desk_model.specs.Shown.{shown_registers, shown_ledgers}
use Rattle.desk_plans.specs.ShownSets.{shown_spaces}

-- registers are shown as spaces are
pub shown_registers-spaces : (registers : List Register) (sets : List (List Rec)) →
    shown_spaces (λ x. x.name) shown_record registers sets ≡ shown_registers registers sets
shown_registers-spaces [] sets = refl
shown_registers-spaces (register ∷ registers) [] = refl
shown_registers-spaces (register ∷ registers) (set ∷ sets) =
    ap (λ others. shown_set register.name (map (shown_record register) set) ++ others)
    (shown_registers-spaces registers sets)

-- ledgers are shown as spaces are
pub shown_ledgers-spaces : (charts : List Chart) (sets : List (List Posting)) →
    shown_spaces (λ x. x.name) shown_entry charts sets ≡ shown_ledgers charts sets
shown_ledgers-spaces [] sets = refl
shown_ledgers-spaces (chart ∷ charts) [] = refl
shown_ledgers-spaces (chart ∷ charts) (set ∷ sets) =
    ap (λ others. shown_set chart.name (map (shown_entry chart) set) ++ others)
    (shown_ledgers-spaces charts sets)

-- the sets of registers, and those of ledgers behind them
pub sets-shown : (config : Config) (sets : Sets) (start first both : List SetText)
    (registers : List Register) (records : List (List Rec)) (charts : List Chart)
    (entries : List (List Posting)) → start ≡ [] →
    registers ≡ config.registers → records ≡ sets.registers →
    charts ≡ config.ledgers → entries ≡ sets.ledgers →
    first ≡ start ++ shown_spaces (λ x. x.name) shown_record registers records →
    both ≡ first ++ shown_spaces (λ x. x.name) shown_entry charts entries →
    both ≡ shown_registers config.registers sets.registers
    ++ shown_ledgers config.ledgers sets.ledgers
sets-shown config sets start first both registers records charts entries a b c d e f g =
    rw (
      g,
      f,
      a,
      b,
      c,
      d,
      e,
      shown_registers-spaces config.registers sets.registers,
      shown_ledgers-spaces config.ledgers sets.ledgers,
    ) refl

-- where one of two lists is spent, a walk over both has nothing left to give
pub spent : {A B X : Type 0} (walk : List A → List B → List X) →
    ((ys : List B) → walk [] ys ≡ []) → ((xs : List A) → walk xs [] ≡ []) →
    (front : List X) (xs : List A) (ys : List B) (all : List X) → (xs ≡ []) ⊎ (ys ≡ []) →
    front ++ walk xs ys ≡ all → front ≡ all
spent walk first second front xs ys all ended so_far =
    let none : walk xs ys ≡ [] =
    ⊎_elim (λ e. ap (λ zs. walk zs ys) e ∙ first ys) (λ e. ap (walk xs) e ∙ second xs) ended in
    sym (append-nil front) ∙ rw none at so_far

shown_spaces-nil : {S R : Type 0} (name : S → List ℕ) (text : S → R → RecordText)
    (spaces : List S) → shown_spaces name text spaces [] ≡ []
shown_spaces-nil name text [] = refl
shown_spaces-nil name text (space ∷ spaces) = refl

-- all sets are shown
pub shown_spaces-spent : {S R : Type 0} (name : S → List ℕ) (text : S → R → RecordText) →
    (front : _) (spaces : List S) (sets : List (List R)) (all : _) →
    (spaces ≡ []) ⊎ (sets ≡ []) →
    front ++ shown_spaces name text spaces sets ≡ all → front ≡ all
shown_spaces-spent name text =
    spent (shown_spaces name text) (λ _. refl) (shown_spaces-nil name text)

sum_texts-nil : (resources : List Resource) →
    sum_texts (map (λ x. x.scale) resources) [] ≡ []
sum_texts-nil [] = refl
sum_texts-nil (resource ∷ resources) = refl

-- all sums have their texts
pub resource_sums-spent : (front : List (List ℕ)) (resources : List Resource) (sums : List ℤ)
    (all : List (List ℕ)) → (resources ≡ []) ⊎ (sums ≡ []) →
    front ++ sum_texts (map (λ x. x.scale) resources) sums ≡ all → front ≡ all
resource_sums-spent =
    spent (λ resources sums. sum_texts (map (λ x. x.scale) resources) sums) (λ _. refl)
    sum_texts-nil
