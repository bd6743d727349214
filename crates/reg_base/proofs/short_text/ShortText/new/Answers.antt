use Rattle.std.proofs.Common.{ℕ, ◌≤◌, List, ◌++◌, length, drop, replicate, arith, ◌∙◌}
use Rattle.std.proofs.Common.{length-append, length-drop}
use Rattle.std.proofs.lemmas.List.{drop-replicate, length-replicate}
use Rattle.std.proofs.Math.Seq.{take-append_seam, drop-append_seam}
use Rattle.std.specs.Str.{IsAscii}
use Rattle.reg_base.specs.declared.short_text.ShortText.TheInside.{Inside}
use Rattle.reg_base.specs.ShortTexts.{IsShortText}
use Rattle.reg_base.proofs.short_text.ShortText.new.Goals as goal

-- a text of up to 32 ASCII bytes with zeros behind it is what is kept
abbrev padded : List ℕ → Inside
padded text = record { bytes = text ++ drop (length text) (replicate 32 0); len = length text }

IsShortText-padded : (text : List ℕ) → length text ≤ 32 → IsAscii text → IsShortText (padded text)
IsShortText-padded text short ascii = record {
  room = simp (length-append, length-drop, length-replicate) (omega arith);
  fits = short;
  blank = drop-append_seam text _ ∙ drop-replicate (length text) 32 0;
  ascii = rw take-append_seam ascii;
}

pub invariant_of-result : goal.invariant_of-result
invariant_of-result c =
    rw c.copy_from_slice.ensures.after
    (rw c.as_bytes.ensures.value
    (IsShortText-padded c.args.text.now c.requires.short c.requires.ascii))
