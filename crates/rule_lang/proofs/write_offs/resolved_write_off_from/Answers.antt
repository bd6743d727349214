use Rattle.std.proofs.Common.{◌≡◌, Ok, sym}
use Rattle.rule_lang.specs.Least.{both, beside, each_or_least}
use Rattle.rule_lang.specs.Binds.{resolved_bind, resolved_amount}
use Rattle.rule_lang.specs.Fields.{place_of}
use Rattle.rule_lang.specs.WriteOffs.{write_off_fits, resolved_write_off_from, write_off_act}
use Rattle.rule_lang.proofs.ResolvesLemmas.{resolves-against}
use Rattle.rule_lang.proofs.write_offs.resolved_write_off_from.Goals as goal

pub returns-in_err-binds : goal.returns-in_err-binds
unfolding resolved_write_off_from write_off_act
returns-in_err-binds c =
    let kind = c.args.kind.now in
    let round = c.args.round.now in
    let register = c.args.register.now in
    let binds = c.args.binds.now in
    let cost = c.args.cost.now in
    let place : place_of (λ r. r.name) register.resources cost ≡ Ok c.in_ok-amount.amount =
    rw c.as_slice.ensures at (sym c.in_ok-amount.ensures) in
    let fits = write_off_fits c.args.fifo register binds c.args.wanted.now.resource cost in
    let bound = each_or_least (resolved_bind kind round register) binds in
    let wanted = resolved_amount kind round register c.args.wanted.now in
    let against = rw c.write_off_fits-fits.ensures at (c.in_err-binds.ensures (both bound wanted)
    (c.both.ensures bound wanted c.binds_of-bound.ensures c.resolved_amount-wanted.ensures)) in
    rw place (resolves-against c.from_residual-in_err-binds.result c.in_err-binds.field-0.0
    (beside fits (both bound wanted)) _ c.from_residual-in_err-binds.ensures.1 against)
