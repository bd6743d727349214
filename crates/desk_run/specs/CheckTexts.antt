-- The line that counts what a journal holds.
use Rattle.std.specs.Prelude.{ℕ, codes, List, [], ◌∷◌, ◌++◌}
use Rattle.reg_base.specs.Numbers.{number_text}
use Rattle.desk_core.specs.declared.counts.Counts.{Counts}

-- the committed documents, the records and entries of theirs that count, and the entries of the
-- journal, in one line
abbrev pub check_text : Counts → ℕ → List ℕ
check_text counts entries = codes "documents " ++ (number_text counts.documents
    ++ (codes " records " ++ (number_text counts.records
    ++ (codes " postings " ++ (number_text counts.postings
    ++ (codes " journal " ++ (number_text entries ++ 10 ∷ [])))))))
