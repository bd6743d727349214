-- Answers to lines, one after another, and lines that were given one after another.
use Rattle.std.proofs.Common.{◌≡◌, ℕ, ◌+◌, ◌≤◌, ◌<◌, Bool, true, false, List, [], ◌∷◌, ◌++◌, length}
use Rattle.std.proofs.Common.{take, refl, sym, ap, ◌∙◌, inl, inr, arith, append_assoc, append-nil}
use Rattle.std.proofs.Common.{length-append}
use Rattle.std.specs.Prelude.{nat_le, if◌then◌else◌}
use Rattle.std.proofs.Math.Seq.{take-append-add}
use Rattle.reg_io.specs.Lines.{lines_of, whole_lines_of}
use Rattle.reg_io.specs.LineStates.{IsFirstLine, HasNoWholeLine, IsBeyondRoom, EndsLine}
use Rattle.reg_base.specs.declared.line.Line.{Line}
use Rattle.desk_model.specs.State.{Desk}
use Rattle.desk_model.specs.Answers.{line_answer, line_desk, answers_to, desk_after}
use Rattle.desk_history.specs.Histories.{entries_to, line_entries}
use Rattle.desk_run.specs.Runs.{most_input_bytes, answerable_lines}
use Rattle.desk_run.specs.AnsweredLines.{AreGiven, EndsLines}
use borrow.Author.Tests.{leb-false}

-- the answers to lines and then one more
pub answers_to-more : (desk : Desk) (lines : List Line) (line : Line)
    → answers_to desk (lines ++ line ∷ [])
    ≡ answers_to desk lines ++ line_answer (desk_after desk lines) line
answers_to-more desk [] line = append-nil (line_answer desk line)
answers_to-more desk (first ∷ lines) line =
    ap (λ l. line_answer desk first ++ l)
    (answers_to-more (line_desk desk first) lines line)
    ∙ sym (append_assoc (line_answer desk first) _ _)

-- the desk after lines and then one more
pub desk_after-more : (desk : Desk) (lines : List Line) (line : Line)
    → desk_after desk (lines ++ line ∷ [])
    ≡ line_desk (desk_after desk lines) line
desk_after-more desk [] line = refl
desk_after-more desk (first ∷ lines) line =
    desk_after-more (line_desk desk first) lines line

-- the entries of lines and then one more
pub entries_to-more : (desk : Desk) (lines : List Line) (line : Line)
    → entries_to desk (lines ++ line ∷ [])
    ≡ entries_to desk lines ++ line_entries (desk_after desk lines) line
entries_to-more desk [] line = append-nil (line_entries desk line)
entries_to-more desk (first ∷ lines) line =
    ap (λ l. line_entries desk first ++ l) (entries_to-more (line_desk desk first) lines line)
    ∙ sym (append_assoc (line_entries desk first) _ _)

-- at first no line was given
pub AreGiven-none : (ended : Bool) (first : List ℕ)
    → AreGiven most_input_bytes ended [] first first
AreGiven-none ended first = record {
  bytes = [];
  taken = refl;
  room_is = refl;
  all = refl;
  whole = inl (λ more. refl);
}

-- no line is the first one of no bytes
no_line : (mid now : List ℕ) (line : Line) → mid ≡ [] → lines_of mid ≡ line ∷ lines_of now → ⊥
no_line [] now line e lines = cc
no_line (byte ∷ mid) now line e lines = absurd cc

EndsLines-more : (bytes more mid now : List ℕ) (ended_now ended : Bool) (lines : List Line)
    (line : Line)
    → EndsLines bytes mid ended_now lines → EndsLine more now ended line
    → lines_of mid ≡ line ∷ lines_of now
    → EndsLines (bytes ++ more) now ended (lines ++ line ∷ [])
EndsLines-more bytes more mid now ended_now ended lines line (inl whole) (inl next) first =
    inl (λ rest. ap (λ l. whole_lines_of l) (append_assoc bytes more rest)
    ∙ whole (more ++ rest) ∙ ap (λ l. lines ++ l) (next rest)
    ∙ sym (append_assoc lines (line ∷ []) (whole_lines_of rest)))
EndsLines-more bytes more mid now ended_now ended lines line (inl whole) (inr last) first =
    inr last
EndsLines-more bytes more mid now ended_now ended lines line (inr last) next first =
    absurd (no_line mid now line last.0 first)

-- one more line was given
pub AreGiven-more : (room room_next : ℕ) (ended_now ended : Bool) (lines : List Line) (line : Line)
    (first mid now : List ℕ)
    → AreGiven room ended_now lines first mid → IsFirstLine room room_next ended line mid now
    → AreGiven room_next ended (lines ++ line ∷ []) first now
AreGiven-more room room_next ended_now ended lines line first mid now given next = record {
  bytes = given.bytes ++ next.bytes;
  taken = given.taken ∙ ap (λ l. given.bytes ++ l) next.taken
      ∙ sym (append_assoc given.bytes next.bytes now);
  room_is = omega (arith, given.room_is, next.room, length-append given.bytes next.bytes);
  all = given.all ∙ ap (λ l. lines ++ l) next.lines
      ∙ sym (append_assoc lines (line ∷ []) (lines_of now));
  whole = EndsLines-more given.bytes next.bytes mid now ended_now ended lines line given.whole
      next.whole next.lines;
}

-- where nothing is ahead, all lines were given, and the bytes lie within the limit
pub AreGiven-end : (room : ℕ) (ended : Bool) (lines : List Line) (first now : List ℕ)
    → AreGiven room ended lines first now → now ≡ []
    → (lines_of first ≡ lines) × (length first ≤ most_input_bytes)
AreGiven-end room ended lines first now given none = (
  given.all ∙ ap (λ l. lines ++ lines_of l) none ∙ append-nil lines,
  omega (
    arith,
    given.room_is,
    ap length given.taken,
    length-append given.bytes now,
    ap length none,
  ),
)

-- the bytes within the limit are those of the lines and those within the room
take_limit : (bytes now first : List ℕ) (room : ℕ) → first ≡ bytes ++ now
    → most_input_bytes ≡ length bytes + room → take most_input_bytes first ≡ bytes ++ take room now
take_limit bytes now first room taken e =
    ap (λ l. take most_input_bytes l) taken ∙ ap (λ n. take n (bytes ++ now)) e
    ∙ take-append-add bytes now room

-- past the limit something is ahead, so that all lines were whole
whole_past : (room : ℕ) (ended : Bool) (lines : List Line) (first now : List ℕ)
    → (given : AreGiven room ended lines first now) → most_input_bytes < length first
    → EndsLines given.bytes now ended lines
    → whole_lines_of (take most_input_bytes first) ≡ lines ++ whole_lines_of (take room now)
whole_past room ended lines first now given past (inl whole) =
    ap (λ l. whole_lines_of l) (take_limit given.bytes now first room given.taken given.room_is)
    ∙ whole (take room now)
whole_past room ended lines first now given past (inr last) = absurd (omega (
  arith,
  past,
  given.room_is,
  ap length given.taken,
  length-append given.bytes now,
  ap length last.0,
))

answerable_by : (short : Bool) (room : ℕ) (ended : Bool) (lines : List Line) (first now : List ℕ)
    → nat_le (length first) most_input_bytes ≡ short
    → AreGiven room ended lines first now
    → (rest : List Line)
    × ((if short then lines_of first else whole_lines_of (take most_input_bytes first))
    ≡ lines ++ rest)
answerable_by true room ended lines first now e given = (lines_of now, given.all)
answerable_by false room ended lines first now e given = (
  whole_lines_of (take room now),
  whole_past room ended lines first now given (leb-false (length first) most_input_bytes e)
      given.whole,
)

-- the lines that were given are the first of those that may be answered
pub AreGiven-first : (room : ℕ) (ended : Bool) (lines : List Line) (first now : List ℕ)
    → AreGiven room ended lines first now
    → (rest : List Line) × (answerable_lines first ≡ lines ++ rest)
AreGiven-first room ended lines first now given =
    answerable_by (nat_le (length first) most_input_bytes) room ended lines first now refl given

-- where a read failed, the lines are the whole ones of the bytes taken
pub AreGiven-read : (room : ℕ) (ended : Bool) (lines : List Line) (first now left : List ℕ)
    → AreGiven room ended lines first now → HasNoWholeLine room now left → ended ≡ false
    → (bytes : List ℕ) × (first ≡ bytes ++ left) × (length bytes ≤ most_input_bytes)
    × (whole_lines_of bytes ≡ lines)
AreGiven-read room ended lines first now left given stop not_ended = (
  given.bytes ++ stop.part,
  given.taken ∙ ap (λ l. given.bytes ++ l) stop.taken
      ∙ sym (append_assoc given.bytes stop.part left),
  omega (arith, given.room_is, stop.within, length-append given.bytes stop.part),
  elim given.whole [
    | inl whole ↦ whole stop.part ∙ ap (λ l. lines ++ l) stop.none ∙ append-nil lines
    | inr last ↦ absurd (let told = last.1 in cc)
  ],
)

-- where the input is too long, the lines are the whole ones within the limit
pub AreGiven-beyond : (room : ℕ) (ended : Bool) (lines : List Line) (first now left : List ℕ)
    → AreGiven room ended lines first now → IsBeyondRoom room now left
    → (most_input_bytes < length first)
    × (whole_lines_of (take most_input_bytes first) ≡ lines)
AreGiven-beyond room ended lines first now left given stop =
    let past : most_input_bytes < length first = omega (
      arith,
      given.room_is,
      ap length given.taken,
      length-append given.bytes now,
      ap length stop.taken,
      length-append stop.part left,
      stop.beyond,
    ) in (
      past,
      whole_past room ended lines first now given past given.whole
          ∙ ap (λ l. lines ++ l) stop.none ∙ append-nil lines,
    )
