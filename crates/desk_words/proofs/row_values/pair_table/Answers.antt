use Rattle.std.proofs.Common.{[]}
use Rattle.serde_json.specs.View.{view}
use Rattle.desk_words.specs.RowTexts.{pair_row_data}
use Rattle.desk_words.proofs.Walks.{values-more}
use Rattle.desk_words.proofs.row_values.pair_table.Goals as goal

pub rows-preserved : goal.rows-preserved
rows-preserved c =
    values-more view (pair_row_data c.args.scale) [] c.rows.values.items c.push.new.self.items
    c.in_ok-pair_row.field-0 _ _ _
    c.rows-test.true c.row-item.is c.in_ok-pair_row.ensures c.in_ok-push.ensures.items
    c.rows.invariant
