-- Documents that are listed by their numbers are found again.
use Rattle.std.proofs.Common.{◌≡◌, ℕ, nat_le, ◌&&◌, Some, None, List, [], ◌∷◌, map, All}
use Rattle.std.proofs.Common.{◌++◌, filter, refl, ap, ◌∙◌}
use Rattle.std.proofs.Common.{◌<◌, ◌≤◌, true, false, length, Ok, Err, sym, arith}
use Rattle.std.specs.List.{AllByRecursion}
use Rattle.std.specs.List.Sorted.{IsStrictlySortedBy}
use Rattle.std.specs.Ordering.{nat_cmp, match_ordering, ordering_reverse}
use Rattle.std.specs.declared.cmp.Ordering.{Ordering}
use Rattle.std.specs.declared.cmp.Ordering.TheVariants.{Less, Equal, Greater}
use Rattle.std.proofs.lemmas.List.{length-map}
use Rattle.std.proofs.lemmas.Cmp.{nat_cmp_total, tied_itself}
use Rattle.std.proofs.lemmas.List.Elements.{All-from_recursion, recursion_from_All, All-filter}
use Rattle.std.proofs.lemmas.Map.Keys.{sorted_from_strictly_increasing}
use Rattle.reg_base.specs.declared.records.Document.{Document}
use Rattle.reg_base.specs.declared.records.DocRow.{DocRow}
use Rattle.reg_base.specs.Documents.{document_at, documents_between, document_cmp, AreInOrder}
use Rattle.reg_base.specs.declared.tables.Range.{Range}
use Rattle.reg_base.specs.declared.fault.TableFault.TheVariants.{TooManyRows}
use Rattle.reg_base.specs.Records.{put, in_order}
use Rattle.reg_base.specs.Results.{◌>>=◌, unless}
use Rattle.reg_base.specs.Turnovers.{limited_rows, row_limit}
use Rattle.cfg_model.specs.declared.config.Config.{Config}
use Rattle.desk_words.specs.declared.tables.DocumentsQuestion.{DocumentsQuestion}
use Rattle.desk_words.specs.declared.reply.Answer.TheVariants.{Documents}
use Rattle.desk_words.specs.declared.reply.Refusal.TheVariants.{Table}
use Rattle.desk_model.specs.Questions.{document_row, rows_between, range_of, answering, or_refused}
use Rattle.desk_model.specs.Questions.{question_documents}
use Rattle.desk_model.specs.Serial.{question_answer, answer_to}
use Rattle.desk_tables.specs.Listed.{row_if, rows_at}

-- ---- what holds of each element holds of each in order

module _ {X : Type 0} (R : X → X → Ordering) (P : X → Type 0) where
  placed-each : (r : Ordering) (x y : X) (ys : List X) → P x → AllByRecursion P (y ∷ ys)
      → AllByRecursion P (put R x ys)
      → AllByRecursion P (match_ordering r (x ∷ y ∷ ys) (x ∷ y ∷ ys) (y ∷ put R x ys))
  placed-each Less x y ys p all rest = (p, all)
  placed-each Equal x y ys p all rest = (p, all)
  placed-each Greater x y ys p all rest = (all.0, rest)

  each-put : (x : X) (ys : List X) → P x → AllByRecursion P ys → AllByRecursion P (put R x ys)
  each-put x [] p all = (p, tt)
  each-put x (y ∷ ys) p all = placed-each (R x y) x y ys p all (each-put x ys p all.1)

  each-in_order : (xs : List X) → AllByRecursion P xs → AllByRecursion P (in_order R xs)
  each-in_order [] all = tt
  each-in_order (x ∷ xs) all = each-put x (in_order R xs) all.0 (each-in_order xs all.1)

-- ---- documents by their numbers

-- the document is found by its number
abbrev IsFound : List Document → Document → Type 0
IsFound documents d = document_at d.doc.number documents ≡ Some d

-- a document that is found behind one of a lower number is found behind both
found-behind : (d e : Document) (ds : List Document) → nat_cmp d.doc.number e.doc.number ≡ Less
    → IsFound ds e → IsFound (d ∷ ds) e
found-behind d e ds above found =
    ap (λ r. match_ordering r None (Some d) (document_at e.doc.number ds))
    (nat_cmp_total.antisymm e.doc.number d.doc.number ∙ ap ordering_reverse above) ∙ found

found-each : (ds : List Document) → IsStrictlySortedBy nat_cmp (map (λ d. d.doc.number) ds)
    → AllByRecursion (IsFound ds) ds
unfolding IsStrictlySortedBy
found-each [] sorted = tt
found-each (d ∷ ds) sorted = (
  ap (λ r. match_ordering r None (Some d) (document_at d.doc.number ds))
      (tied_itself nat_cmp_total d.doc.number),
  behind ds sorted.0 (found-each ds sorted.1),
)
  where
    behind : (es : List Document)
        → AllByRecursion (λ n. nat_cmp d.doc.number n ≡ Less) (map (λ e. e.doc.number) es)
        → AllByRecursion (IsFound ds) es → AllByRecursion (IsFound (d ∷ ds)) es
    behind [] above found = tt
    behind (e ∷ es) above found =
        (found-behind d e ds above.0 found.0, behind es above.1 found.1)

-- each document of a range is found by its number
found-between : (from to : ℕ) (documents : List Document) → AreInOrder documents
    → AllByRecursion (IsFound documents) (documents_between from to documents)
found-between from to documents ordered =
    each-in_order document_cmp (IsFound documents) (filter _ documents)
    (recursion_from_All (IsFound documents) (filter _ documents)
    (All-filter (λ d. nat_le from d.doc.date && nat_le d.doc.date to) (IsFound documents) documents
    (All-from_recursion (IsFound documents) documents
    (found-each documents (sorted_from_strictly_increasing _ ordered)))))

rows-found : (config : Config) (documents ds : List Document)
    → AllByRecursion (IsFound documents) ds
    → rows_at config documents (map (λ d. d.doc.number) ds) ≡ map (document_row config) ds
rows-found config documents [] found = refl
rows-found config documents (d ∷ ds) found =
    ap (λ o. row_if config o ++ rows_at config documents (map (λ e. e.doc.number) ds)) found.0
    ∙ ap (λ rows. document_row config d ∷ rows) (rows-found config documents ds found.1)

-- the rows of the documents of a range, found by their numbers, are the rows of those documents
pub rows_at-between : (config : Config) (from to : ℕ) (documents : List Document)
    → AreInOrder documents
    → rows_at config documents (map (λ d. d.doc.number) (documents_between from to documents))
    ≡ map (document_row config) (documents_between from to documents)
rows_at-between config from to documents ordered =
    rows-found config documents (documents_between from to documents)
    (found-between from to documents ordered)

-- ---- the answer

module _ (config : Config) (documents : List Document) (q : DocumentsQuestion) (range : Range)
    (numbers : List ℕ) (range_is : range ≡ range_of q.dates None)
    (numbers_are : numbers
    ≡ map (λ d. d.doc.number) (documents_between range.from range.to documents)) where
  abbrev between : List Document
  between = documents_between range.from range.to documents

  -- as many rows as numbers
  as-many : length (rows_between config range documents) ≡ length numbers
  as-many = length-map between (document_row config)
      ∙ sym (ap length numbers_are ∙ length-map between (λ d. d.doc.number))

  answer-limited : question_answer documents (question_documents config q)
      ≡ or_refused (answering Documents (limited_rows (rows_between config range documents)))
  unfolding question_answer answer_to
  answer-limited = ap (λ r. or_refused
      (answering Documents (limited_rows (rows_between config r documents)))) (sym range_is)

  -- more documents than a table may have rows
  pub too-many : row_limit < length numbers
      → question_answer documents (question_documents config q)
      ≡ Err (Table (TooManyRows row_limit))
  too-many many = answer-limited
      ∙ ap (λ b. or_refused (answering Documents
      (unless b (TooManyRows row_limit) >>= λ _. Ok (rows_between config range documents))))
      (above (length (rows_between config range documents)) (length numbers) as-many many)
    where
      above : (n m : ℕ) → n ≡ m → row_limit < m → nat_le n row_limit ≡ false
      above n m e h = grind (arith, e, h)

  -- and else their rows
  pub listed : AreInOrder documents → (rows : List DocRow)
      → rows ≡ rows_at config documents numbers → length numbers ≤ row_limit
      → question_answer documents (question_documents config q) ≡ Ok (Documents rows)
  listed ordered rows are few = answer-limited
      ∙ ap (λ b. or_refused (answering Documents
      (unless b (TooManyRows row_limit) >>= λ _. Ok (rows_between config range documents))))
      (within (length (rows_between config range documents)) (length numbers) as-many few)
      ∙ ap (λ xs. Ok (Documents xs)) (sym (are ∙ ap (rows_at config documents) numbers_are
      ∙ rows_at-between config range.from range.to documents ordered))
    where
      within : (n m : ℕ) → n ≡ m → m ≤ row_limit → nat_le n row_limit ≡ true
      within n m e h = grind (arith, e, h)
