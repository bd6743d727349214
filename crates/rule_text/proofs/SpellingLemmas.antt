-- Bytes that are no text are no name and no code.
use Rattle.std.proofs.Common.{◌≡◌, ℕ, Bool, true, false, List, Some, None, cond, refl}
use Rattle.std.specs.Str.{IsUtf8}
use Rattle.std.proofs.lemmas.Str.{IsUtf8-from_ascii}
use Rattle.reg_base.specs.Codes.{is_code, is_name}
use Rattle.reg_base.proofs.ForAbove.{IsAscii-code, IsAscii-name}
use Rattle.rule_text.specs.Tokens.{spelling_of}
use Rattle.rule_text.specs.declared.token.Spelling.TheVariants.{Named, Other}

none_unless : {X : Type 0} (x none : X) (test : Bool) (text : List ℕ) → (test ≡ true → IsUtf8 text)
    → (IsUtf8 text → ⊥)
    → none ≡ cond test x none
none_unless x none true text is not = absurd (not (is refl))
none_unless x none false text is not = refl

pub no_name : (text : List ℕ) → (IsUtf8 text → ⊥) → Other ≡ spelling_of text
no_name text not =
    none_unless (Named text) Other (is_name text) text (λ h. IsUtf8-from_ascii text
    (IsAscii-name text h)) not

pub no_code : (text : List ℕ) → (IsUtf8 text → ⊥) → None ≡ cond (is_code text) (Some text) None
no_code text not =
    none_unless (Some text) None (is_code text) text (λ h. IsUtf8-from_ascii text
    (IsAscii-code text h)) not
