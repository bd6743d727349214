-- The compact text of a plain value stands on one line: it has no line feed.
use Rattle.std.proofs.Common.{◌≡◌, ℕ, zero, suc, pos, negsuc, ◌<◌, ◌==◌, ◌||◌, ◌&&◌, not, Bool}
use Rattle.std.proofs.Common.{true}
use Rattle.std.proofs.Common.{false, List, [], ◌∷◌, ◌++◌, inl, inr, refl, ap₂, ◌∙◌, arith}
use Rattle.std.specs.List.{list_any}
use Rattle.std.specs.Fmt.{decimal}
use Rattle.std.specs.Str.Parse.{AllDigits}
use Rattle.std.specs.Char.{digit_value}
use Rattle.std.proofs.lemmas.Bool.{and_parts, cases_lt, cases_eq}
use Rattle.std.proofs.lemmas.Bool.Decides.{nat_tests}
use Rattle.std.proofs.lemmas.Fmt.{decimal_is_IsNumeral}
use Rattle.std.proofs.lemmas.List.Folds.{list_any-append}
use Rattle.json.specs.Print.{escape_byte, escape, quoted}
use Rattle.json.proofs.Printed.Strings.{escape_byte_plain}
use Rattle.serde_json.specs.Data.{Data, null, boolean, number, string, array, object, unsigned}
use Rattle.serde_json.specs.Data.{negative, float, Items, no_items, item, Members, no_members}
use Rattle.serde_json.specs.Data.{member}
use Rattle.serde_json.specs.Written.{comma_if, compact_text, items_text, members_text}
use Rattle.json_laws.specs.Plain.{IsPlain, ItemsArePlain, MembersArePlain}

-- whether a line feed stands in a text
abbrev pub has_feed : List ℕ → Bool
has_feed text = list_any (λ b. b == 10) text

-- one text behind another
has_feed-append : (front back : List ℕ) → has_feed front ≡ false → has_feed back ≡ false
    → has_feed (front ++ back) ≡ false
has_feed-append front back a b =
    list_any-append (λ byte. byte == 10) front back ∙ ap₂ (λ p q. p || q) a b

-- what stands for the bytes below n has none
abbrev free_below : ℕ → Bool
free_below zero = true
free_below (suc n) = not (has_feed (escape_byte n)) && free_below n

not-true : (b : Bool) → not b ≡ true → b ≡ false
not-true true h = cc
not-true false h = refl

has_feed-below : (n : ℕ) → free_below n ≡ true → (x : ℕ) → x < n → has_feed (escape_byte x) ≡ false
has_feed-below zero free x h = absurd (omega arith)
has_feed-below (suc n) free x h =
    let parts = and_parts _ _ free in
    elim (cases_eq x n) [
      | inl same ↦ rw same (not-true _ parts.0)
      | inr other ↦ has_feed-below n parts.1 x (omega arith)
    ]

free_below-128 : free_below 128 ≡ true
unfolding escape_byte
free_below-128 = refl

has_feed-byte : (x : ℕ) → has_feed (escape_byte x) ≡ false
has_feed-byte x =
    elim (cases_lt x 128) [
      | inl small ↦ has_feed-below 128 free_below-128 x small
      | inr big ↦
          let other : (x == 10) ≡ false = grind (arith, nat_tests) in
          rw (escape_byte_plain x (λ e. omega arith) (λ e. omega arith) (omega arith), other) refl
    ]

has_feed-escape : (text : List ℕ) → has_feed (escape text) ≡ false
has_feed-escape [] = refl
has_feed-escape (x ∷ text) =
    has_feed-append (escape_byte x) (escape text) (has_feed-byte x) (has_feed-escape text)

has_feed-quoted : (text : List ℕ) → has_feed (quoted text) ≡ false
has_feed-quoted text = has_feed-append (escape text) (34 ∷ []) (has_feed-escape text) refl

has_feed-digits : (digits : List ℕ) → AllDigits 10 digits → has_feed digits ≡ false
has_feed-digits [] all = refl
has_feed-digits (d ∷ digits) all =
    let digit : digit_value d < 10 = all.0 in
    let other : (d == 10) ≡ false = grind (arith, nat_tests) in
    rw other (has_feed-digits digits all.1)

has_feed-decimal : (n : ℕ) → n < 18_446_744_073_709_551_616 → has_feed (decimal n) ≡ false
has_feed-decimal n small = has_feed-digits (decimal n) (decimal_is_IsNumeral n small).0.1

has_feed-comma_if : (later : Bool) → has_feed (comma_if later) ≡ false
has_feed-comma_if true = refl
has_feed-comma_if false = refl

mutual
  pub has_feed-compact_text : (d : Data) → IsPlain d → has_feed (compact_text d) ≡ false
  has_feed-compact_text null h = refl
  has_feed-compact_text (boolean true) h = refl
  has_feed-compact_text (boolean false) h = refl
  has_feed-compact_text (number (unsigned n)) h = has_feed-decimal n h
  has_feed-compact_text (number (negative (pos n))) h = absurd h
  has_feed-compact_text (number (negative (negsuc n))) h = has_feed-decimal (suc n) (omega arith)
  has_feed-compact_text (number (float x)) h = absurd h
  has_feed-compact_text (string s) h = has_feed-quoted s
  has_feed-compact_text (array ds) h = has_feed-items_text false ds h
  has_feed-compact_text (object ms) h = has_feed-members_text false ms h

  has_feed-items_text : (later : Bool) (ds : Items) → ItemsArePlain ds
      → has_feed (items_text later ds) ≡ false
  has_feed-items_text later no_items h = refl
  has_feed-items_text later (item d ds) h =
      has_feed-append (comma_if later) _ (has_feed-comma_if later)
      (has_feed-append (compact_text d) _ (has_feed-compact_text d h.0)
      (has_feed-items_text true ds h.1))

  has_feed-members_text : (later : Bool) (ms : Members) → MembersArePlain ms
      → has_feed (members_text later ms) ≡ false
  has_feed-members_text later no_members h = refl
  has_feed-members_text later (member k d ms) h =
      has_feed-append (comma_if later) _ (has_feed-comma_if later)
      (has_feed-append (quoted k) _ (has_feed-quoted k)
      (has_feed-append (compact_text d) _ (has_feed-compact_text d h.1)
      (has_feed-members_text true ms h.2)))
