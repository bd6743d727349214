use Rattle.std.proofs.Common.{[]}
use Rattle.serde_json.specs.View.{view}
use Rattle.desk_words.specs.RowTexts.{account_row_data}
use Rattle.desk_words.proofs.Walks.{values-more}
use Rattle.desk_words.proofs.row_values.account_table.Goals as goal

pub rows-preserved : goal.rows-preserved
rows-preserved c =
    values-more view (account_row_data c.args.kind c.args.scale) []
    c.rows.values.items c.push.new.self.items c.in_ok-account_row.field-0 _ _ _
    c.rows-test.true c.row-item.is c.in_ok-account_row.ensures c.in_ok-push.ensures.items
    c.rows.invariant
