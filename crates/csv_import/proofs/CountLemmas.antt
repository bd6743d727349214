-- Counts of outcomes: with one more, all together, and the line that tells them.
use Rattle.std.proofs.Common.{◌≡◌, ◌+◌, Bool, List, [], ◌∷◌, ◌++◌, length, filter, arith}
use Rattle.std.proofs.Common.{length-append, ap, ◌∙◌, refl}
use Rattle.std.proofs.lemmas.List.Elements.{filter-append}
use Rattle.csv_import.specs.Imports.{is_posted, is_there, is_refused, counts_line}
use Rattle.csv_import.specs.Posting.{AreCounts, counted, counts_text}
use Rattle.csv_import.specs.declared.counts.Counts.{Counts}
use Rattle.csv_import.specs.declared.outcome.Outcome.{Outcome}
use Rattle.csv_import.specs.declared.outcome.Outcome.TheVariants.{Posted, There, Refused}

-- how many outcomes pass a test, with one more
passing-more : (test : Outcome → Bool) (all : List Outcome) (outcome : Outcome)
    → length (filter test (all ++ outcome ∷ []))
    ≡ length (filter test all) + length (filter test (outcome ∷ []))
passing-more test all outcome =
    ap length (filter-append test all (outcome ∷ []))
    ∙ length-append (filter test all) (filter test (outcome ∷ []))

-- an outcome more is counted
pub AreCounts-more : (counts : Counts) (all : List Outcome) (outcome : Outcome)
    → AreCounts counts all → AreCounts (counted counts outcome) (all ++ outcome ∷ [])
AreCounts-more counts all (Posted doc) are = record {
  posted = omega (arith, are.posted, passing-more is_posted all (Posted doc));
  there = omega (arith, are.there, passing-more is_there all (Posted doc));
  refused = omega (arith, are.refused, passing-more is_refused all (Posted doc));
}
AreCounts-more counts all (There doc) are = record {
  posted = omega (arith, are.posted, passing-more is_posted all (There doc));
  there = omega (arith, are.there, passing-more is_there all (There doc));
  refused = omega (arith, are.refused, passing-more is_refused all (There doc));
}
AreCounts-more counts all (Refused code) are = record {
  posted = omega (arith, are.posted, passing-more is_posted all (Refused code));
  there = omega (arith, are.there, passing-more is_there all (Refused code));
  refused = omega (arith, are.refused, passing-more is_refused all (Refused code));
}

-- each outcome is of one of three sorts
all_passing : (all : List Outcome)
    → length (filter is_posted all) + length (filter is_there all)
    + length (filter is_refused all) ≡ length all
all_passing [] = refl
all_passing (Posted doc ∷ all) = omega (arith, all_passing all)
all_passing (There doc ∷ all) = omega (arith, all_passing all)
all_passing (Refused code ∷ all) = omega (arith, all_passing all)

-- the counts come to the number of outcomes
pub AreCounts-sum : (counts : Counts) (all : List Outcome) → AreCounts counts all
    → counts.posted + counts.there + counts.refused ≡ length all
AreCounts-sum counts all are =
    omega (arith, are.posted, are.there, are.refused, all_passing all)

-- the last line tells the counts of the outcomes
pub counts_text-are : (counts : Counts) (all : List Outcome) → AreCounts counts all
    → counts_text counts ≡ counts_line all
counts_text-are counts all are =
    λ i. counts_text (record {
      posted = are.posted i;
      there = are.there i;
      refused = are.refused i;
    })
