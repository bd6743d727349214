-- Private: what a short text keeps, and the bytes that it stands for.
use Rattle.std.specs.Prelude.{◌≡◌, ℕ, ◌-◌, ◌≤◌, List, ◌++◌, length, take, drop, replicate}
use Rattle.std.specs.Str.{IsAscii}
use Rattle.std.proofs.Common.{ap, ◌∙◌, sym, arith}
use Rattle.std.proofs.lemmas.List.{length-take-le, take-append-drop}
use Rattle.reg_base.specs.declared.short_text.ShortText.TheInside.{Inside}

-- the bytes up to the length
abbrev pub short_text_bytes : Inside → List ℕ
short_text_bytes a = take a.len a.bytes

-- there is room for 32 bytes, those behind the length are zeros, and all are ASCII
pub record IsShortText (a : Inside) : Type 0 where
  pub room : length a.bytes ≡ 32
  pub fits : a.len ≤ 32
  pub blank : drop a.len a.bytes ≡ replicate (32 - a.len) 0
  pub ascii : IsAscii (take a.len a.bytes)

-- what is kept for such bytes
abbrev pub inside_of : List ℕ → Inside
inside_of bytes = record { bytes = bytes ++ replicate (32 - length bytes) 0; len = length bytes }

-- what is kept, by its parts
abbrev kept : List ℕ → ℕ → Inside
kept bytes len = record { bytes = bytes; len = len }

-- equal parts make the same
kept-same : (a b : List ℕ) (m n : ℕ) → a ≡ b → m ≡ n → kept a m ≡ kept b n
kept-same a b m n p q = ap (λ x. kept x m) p ∙ ap (kept b) q

-- the bytes give back what was kept
pub inside_of-short_text_bytes : (a : Inside) → IsShortText a → inside_of (short_text_bytes a) ≡ a
inside_of-short_text_bytes a h =
    let same_len = length-take-le a.len a.bytes (omega (arith, h.room, h.fits)) in
    let back : replicate (32 - length (take a.len a.bytes)) 0 ≡ drop a.len a.bytes =
    rw same_len (sym h.blank) in
    kept-same _ _ _ _
    (ap (λ x. take a.len a.bytes ++ x) back ∙ take-append-drop a.len a.bytes) same_len
