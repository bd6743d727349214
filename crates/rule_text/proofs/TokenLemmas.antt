-- One more token of a text.
use Rattle.std.proofs.Common.{◌≡◌, ℕ, zero, suc, ◌+◌, ◌-◌, ◌<◌, ◌≤◌, Bool, true, false, List, []}
use Rattle.std.proofs.Common.{◌∷◌, ◌++◌, drop, length, Some, slice_index, append_assoc, append-nil}
use Rattle.std.proofs.Common.{sym, cond, nat_lt, arith, lt-ltb, le-ltb}
use Rattle.std.specs.List.{prefix_len}
use Rattle.std.proofs.lemmas.Bool.Decides.{nat_tests}
use Rattle.rule_text.specs.Marks.{double_mark}
use Rattle.rule_text.specs.Tokens.{is_blank, pieces_from}
use Rattle.rule_text.specs.declared.mark.Mark.{Mark}

-- where none may follow any more, those in front are all
pub pieces_from-none : {X : Type 0} (begins : ℕ → List ℕ → X) (len_of : X → ℕ)
    → (front : List X) (most : ℕ) (text : List ℕ) (place : ℕ) → most ≡ 0
    → front ++ pieces_from begins len_of most text place ≡ front
unfolding pieces_from
pieces_from-none begins len_of front most text place none = rw none (append-nil front)

-- where the next piece begins
abbrev pub start_of : List ℕ → ℕ → ℕ
start_of text place = place + prefix_len is_blank (drop place text)

chosen : {X : Type 0} (test : Bool) (front : List X) (x : X) (xs : List X)
    → test ≡ true → front ++ cond test (x ∷ xs) [] ≡ (front ++ x ∷ []) ++ xs
chosen true front x xs h = sym (append_assoc front (x ∷ []) xs)
chosen false front x xs h = absurd (cc)

left_out : {X : Type 0} (test : Bool) (front : List X) (xs : List X)
    → test ≡ false → front ++ cond test xs [] ≡ front
left_out true front xs h = absurd (cc)
left_out false front xs h = append-nil front

next_first : {X : Type 0} (begins : ℕ → List ℕ → X) (len_of : X → ℕ)
    → (front : List X) (most : ℕ) (text : List ℕ) (place : ℕ)
    → nat_lt (start_of text place) (length text) ≡ true
    → front ++ pieces_from begins len_of (suc most) text place
    ≡ (front ++ begins (start_of text place) (drop (start_of text place) text) ∷ [])
    ++ pieces_from begins len_of most text (start_of text place
    + len_of (begins (start_of text place) (drop (start_of text place) text)))
unfolding pieces_from
next_first begins len_of front most text place h = chosen _ front _ _ h

none_first : {X : Type 0} (begins : ℕ → List ℕ → X) (len_of : X → ℕ)
    → (front : List X) (most : ℕ) (text : List ℕ) (place : ℕ)
    → nat_lt (start_of text place) (length text) ≡ false
    → front ++ pieces_from begins len_of (suc most) text place ≡ front
unfolding pieces_from
none_first begins len_of front most text place h = left_out _ front _ h

-- one more piece goes from those that are left to those in front
pub pieces_from-more : {X : Type 0} (begins : ℕ → List ℕ → X) (len_of : X → ℕ)
    → (front : List X) (most : ℕ) (text : List ℕ) (place start : ℕ)
    → start ≡ start_of text place → start < length text → 0 < most
    → front ++ pieces_from begins len_of most text place
    ≡ (front ++ begins start (drop start text) ∷ [])
    ++ pieces_from begins len_of (most - 1) text (start + len_of (begins start (drop start text)))
pieces_from-more begins len_of front zero text place start is below some = absurd (omega arith)
pieces_from-more begins len_of front (suc most) text place start is below some =
    let less : suc most - 1 ≡ most = omega arith in
    let test : nat_lt (start_of text place) (length text) ≡ true = lt-ltb _ _ (rw (sym is) below) in
    rw (less, is) (next_first begins len_of front most text place test)

-- behind the last piece there are only blanks
pub pieces_from-last : {X : Type 0} (begins : ℕ → List ℕ → X) (len_of : X → ℕ)
    → (front : List X) (most : ℕ) (text : List ℕ) (place start : ℕ)
    → start ≡ start_of text place → length text ≤ start → 0 < most
    → front ++ pieces_from begins len_of most text place ≡ front
pieces_from-last begins len_of front zero text place start is past some = absurd (omega arith)
pieces_from-last begins len_of front (suc most) text place start is past some =
    let test : nat_lt (start_of text place) (length text) ≡ false = le-ltb _ _ (rw (sym is) past) in
    none_first begins len_of front most text place test

-- a mark of two bytes stands in two bytes
pub two_bytes : (bytes : List ℕ) (mark : Mark)
    → double_mark (slice_index bytes 0) (slice_index bytes 1) ≡ Some mark → 2 ≤ length bytes
unfolding double_mark
two_bytes [] mark h = absurd (cc)
two_bytes (b ∷ []) mark h = grind (arith, nat_tests)
two_bytes (b ∷ c ∷ bytes) mark h = omega arith

pub ruleset steps = (pieces_from-none, pieces_from-more, pieces_from-last)

pub ruleset lengths = (two_bytes)
