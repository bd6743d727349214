use Rattle.std.proofs.Common.{[]}
use Rattle.serde_json.specs.View.{view}
use Rattle.desk_words.specs.RowTexts.{row_data}
use Rattle.desk_words.proofs.Walks.{values-more}
use Rattle.desk_words.proofs.row_values.sum_table.Goals as goal

pub rows-preserved : goal.rows-preserved
rows-preserved c =
    values-more view (row_data c.args.scales.now) [] c.rows.values.items c.push.new.self.items
    c.in_ok-sum_row.field-0 _ _ _
    c.rows-test.true c.row-item.is c.in_ok-sum_row.ensures c.in_ok-push.ensures.items
    c.rows.invariant
