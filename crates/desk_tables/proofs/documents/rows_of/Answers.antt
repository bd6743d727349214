use Rattle.std.proofs.Common.{◌++◌, [], slice_index_or, take, ap, ◌∙◌, sym}
use Rattle.std.proofs.lemmas.List.{flat_map_more, take_more, take_all}
use Rattle.reg_base.specs.Documents.{document_at}
use Rattle.desk_tables.specs.Listed.{row_if, rows_at}
use Rattle.desk_tables.proofs.documents.rows_of.Goals as goal

pub loop-number-preserved : goal.loop-number-preserved
loop-number-preserved c =
    let config = c.args.config.now in
    let documents = c.args.store.now.documents in
    let numbers = c.args.numbers.now in
    let index = c.loop-number.number-index in
    let number = slice_index_or numbers index 0 in
    c.in_ok-push_row.ensures
    ∙ (λ i. c.loop-number.invariant i ++ row_if config (c.document.ensures.value i))
    ∙ flat_map_more (λ n. row_if config (document_at n documents)) [] (take index numbers) number
    ∙ ap (rows_at config documents) (sym (take_more numbers index 0 c.loop-number-test.true))

pub returns : goal.returns
returns c =
    c.from_vec.ensures ∙ c.loop-number.invariant
    ∙ ap (rows_at c.args.config.now c.args.store.now.documents)
    (take_all c.loop-number.number-index c.args.numbers.now c.loop-number-test.false)
