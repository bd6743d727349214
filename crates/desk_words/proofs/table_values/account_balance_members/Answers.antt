use Rattle.std.proofs.Common.{option_map, codes, ap, ◌∙◌}
use Rattle.desk_words.specs.JsonValues.{whole, put_if}
use Rattle.desk_words.specs.TableTexts.{cut_data, put_accounts, account_balance_members}
use Rattle.desk_words.proofs.table_values.account_balance_members.Goals as goal

pub returns : goal.returns
unfolding account_balance_members
returns c =
    let asked = c.args.asked.now in
    c.in_ok-put_some-2.ensures
    ∙ ap (put_if (codes "tx") (option_map whole asked.tx)) (c.in_ok-put_some.ensures
    ∙ ap (put_if (codes "cut") (option_map cut_data asked.cut)) (c.in_ok-put_accounts.ensures
    ∙ ap (put_accounts asked.accounts) c.in_ok-members.ensures))
