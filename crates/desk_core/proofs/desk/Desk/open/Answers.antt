use Rattle.std.proofs.Common.{ℕ, List, length, ap, subst, arith}
use Rattle.post_journal.specs.Openings.{payloads}
use Rattle.desk_model.specs.State.{Setting}
use Rattle.desk_core.specs.Replaying.{IsReplaying}
use Rattle.desk_core.proofs.ReplayingLemmas.{entry-ahead, replaying-bounds}
use Rattle.desk_core.proofs.desk.Desk.open.Goals as goal

pub overflow_add-index : goal.overflow_add-index
overflow_add-index c =
    let setting : Setting = record { config = c.args.config; rules = c.args.rules } in
    let all = payloads c.args.entries.now in
    let so = subst (λ (rest : List (List ℕ)). IsReplaying setting all rest c.replayed.index
    c.replayed.desk) (entry-ahead c.args.entries.now c.replayed.entry-index c.entry-item.result
    c.replayed-test.true c.entry-item.is) c.replayed.invariant in
    let bounds = replaying-bounds setting all c.entry-item.result.bytes _ c.replayed.index
    c.replayed.desk c.requires.long so in
    omega (arith, bounds.2)

pub replay_text-requires-clause-few : goal.replay_text-requires-clause-few
replay_text-requires-clause-few c =
    let setting : Setting = record { config = c.args.config; rules = c.args.rules } in
    let all = payloads c.args.entries.now in
    let so = subst (λ (rest : List (List ℕ)). IsReplaying setting all rest c.replayed.index
    c.replayed.desk) (entry-ahead c.args.entries.now c.replayed.entry-index c.entry-item.result
    c.replayed-test.true c.entry-item.is) c.replayed.invariant in
    (replaying-bounds setting all c.entry-item.result.bytes _ c.replayed.index
    c.replayed.desk c.requires.long so).0

pub replay_text-requires-clause-low : goal.replay_text-requires-clause-low
replay_text-requires-clause-low c =
    let setting : Setting = record { config = c.args.config; rules = c.args.rules } in
    let all = payloads c.args.entries.now in
    let so = subst (λ (rest : List (List ℕ)). IsReplaying setting all rest c.replayed.index
    c.replayed.desk) (entry-ahead c.args.entries.now c.replayed.entry-index c.entry-item.result
    c.replayed-test.true c.entry-item.is) c.replayed.invariant in
    let bounds = replaying-bounds setting all c.entry-item.result.bytes _ c.replayed.index
    c.replayed.desk c.requires.long so in
    omega (arith, bounds.1, ap (λ bytes. length bytes) c.as_slice.ensures)
