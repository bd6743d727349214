-- Private: the labels of a list's elements, kept in a set.
use Rattle.std.specs.Prelude.{◌≡◌, ℕ, Bool, List}
use Rattle.std.specs.Borrow.{Bor}
use Rattle.std.specs.Cmp.Lexicographic.{slice_cmp}
use Rattle.std.specs.List.{list_any}
use Rattle.std.specs.Ordering.{is_eq, nat_cmp}
use Rattle.cfg_model.specs.Words.{is_one_of}

-- whether the label is among the keys of a set
abbrev pub has_label : List ℕ → List (Bor (List ℕ)) → Bool
has_label label keys = list_any (λ k. is_eq (slice_cmp nat_cmp label k.now)) keys

-- a set has these labels, and no other
abbrev pub HasLabels : List (Bor (List ℕ)) → List (List ℕ) → Type 0
HasLabels keys labels = (label : List ℕ) → has_label label keys ≡ is_one_of labels label
