use Rattle.rule_lang.specs.Least.{both, beside}
use Rattle.rule_lang.specs.Acts.{resolved_act}
use Rattle.rule_lang.specs.Rules.{resolved_when, scope_fits, resolved_statement_in}
use Rattle.rule_lang.specs.Rules.{statement_if_fit}
use Rattle.rule_lang.proofs.ResolvesLemmas.{resolves-against}
use Rattle.rule_lang.proofs.rules.resolved_statement_in.Goals as goal

pub returns-in_err-act : goal.returns-in_err-act
unfolding resolved_statement_in statement_if_fit
returns-in_err-act c =
    let kind = c.args.kind.now in
    let round = c.args.round.now in
    let plain = c.args.plain.now in
    let act = resolved_act c.args.config.now kind round plain.act in
    let when = resolved_when kind round plain.when in
    let against = rw c.scope_fits.ensures at (c.in_err-act.ensures (both act when)
    (c.both.ensures act when c.resolved_act-act.ensures c.resolved_when-when.ensures)) in
    resolves-against c.from_residual.result c.in_err-act.field-0.0
    (beside (scope_fits plain) (both act when)) _ c.from_residual.ensures.1 against

pub returns : goal.returns
unfolding resolved_statement_in
returns c =
    let kind = c.args.kind.now in
    let round = c.args.round.now in
    let plain = c.args.plain.now in
    let act = resolved_act c.args.config.now kind round plain.act in
    let when = resolved_when kind round plain.when in
    let parts = rw c.scope_fits.ensures at (c.in_ok-act.ensures (both act when)
    (c.both.ensures act when c.resolved_act-act.ensures c.resolved_when-when.ensures)) in
    rw parts c.statement_if_fit.ensures
