use Rattle.std.proofs.Common.{ℕ, ◌+◌, ◌/◌, ◌<◌, [], ◌∷◌, ◌++◌, map, length, ap, ◌∙◌, sym}
use Rattle.std.proofs.Common.{append_assoc, arith}
use Rattle.std.specs.List.{filter}
use Rattle.std.proofs.lemmas.List.{map-append}
use Rattle.reg_base.specs.Units.{midnight, starts_unit}
use Rattle.ledger_reg.proofs.StartLemmas.{days_to, days_to-next, starts-last, starts-days}
use Rattle.ledger_reg.proofs.StartLemmas.{starts-few}
use Rattle.ledger_reg.proofs.units.date_starts.Goals as goal

pub loop-day-init : goal.loop-day-init
loop-day-init c =
    let range = c.args.range.now in
    let end = range.to / 86_400 + 1 in
    ap (λ s. s ++ map midnight (days_to (starts_unit range.by) end
    (c.seconds-first.result / 86_400))) c.new-starts.ensures
    ∙ ap (λ n. map midnight (days_to (starts_unit range.by) end (n / 86_400)))
    (c.seconds-first.ensures.value ∙ c.unit_start.ensures)
    ∙ sym (starts-days range.by range.from range.to)

pub push_start-requires-clause-within : goal.push_start-requires-clause-within
push_start-requires-clause-within c =
    omega (arith, c.loop-day-test.true, c.seconds.ensures.range)

pub loop-day-preserved : goal.loop-day-preserved
loop-day-preserved c =
    let test = starts_unit c.args.range.now.by in
    let end = c.args.range.now.to / 86_400 + 1 in
    let day = c.loop-day.day in
    let lt : day < end = omega (arith, c.loop-day-test.true, c.seconds.ensures.value) in
    ap (λ s. s ++ map midnight (days_to test end (day + 1))) c.in_ok-push_start.ensures
    ∙ append_assoc c.loop-day.starts (map midnight (filter test (day ∷ [])))
    (map midnight (days_to test end (day + 1)))
    ∙ ap (λ s. c.loop-day.starts ++ s)
    (sym (map-append midnight (filter test (day ∷ [])) (days_to test end (day + 1)))
    ∙ ap (map midnight) (sym (days_to-next test end day lt)))
    ∙ c.loop-day.invariant

pub returns-clause-value : goal.returns-clause-value
returns-clause-value c =
    starts-last c.args.range.now.by c.args.range.now.from c.args.range.now.to c.loop-day.day
    c.loop-day.starts (omega (arith, c.loop-day-test.false, c.seconds.ensures.value))
    c.loop-day.invariant

pub returns-clause-few : goal.returns-clause-few
returns-clause-few c =
    let range = c.args.range.now in
    let value = starts-last range.by range.from range.to c.loop-day.day c.loop-day.starts
    (omega (arith, c.loop-day-test.false, c.seconds.ensures.value)) c.loop-day.invariant in
    omega (
      arith,
      ap {B = ℕ} length value,
      starts-few range.by range.from range.to (omega (
        arith,
        c.seconds.ensures.value,
        c.seconds.ensures.range,
      )),
    )
