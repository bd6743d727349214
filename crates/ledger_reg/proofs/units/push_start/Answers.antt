use Rattle.std.proofs.Common.{◌≡◌, true, false, cond, [], ◌∷◌, ◌++◌, map, ap, ◌∙◌, sym}
use Rattle.std.proofs.lemmas.Bool.{both_ways, false_from_ne_true, eqb-true, eq-eqb}
use Rattle.std.proofs.lemmas.List.{append-nil}
use Rattle.reg_base.specs.Units.{midnight, starts_unit}
use Rattle.ledger_reg.proofs.StartLemmas.{starts-here, starts-same}
use Rattle.ledger_reg.proofs.units.push_start.Goals as goal

pub returns-in_ok-push : goal.returns-in_ok-push
returns-in_ok-push c =
    let same = sym c.unit_start.ensures
    ∙ eqb-true c.unit_start.result c.midnight-date.result (sym c.eq.ensures ∙ c.if-eq.true) in
    let starts : starts_unit c.args.by c.args.day ≡ true = starts-here c.args.by c.args.day
    c.midnight-date.result c.midnight-date.ensures c.requires.dates same in
    c.in_ok-push.ensures.ok
    ∙ ap (λ d. c.args.starts.now ++ d ∷ []) c.midnight-date.ensures
    ∙ ap (λ b. c.args.starts.now ++ map midnight (cond b (c.args.day ∷ []) [])) (sym starts)

pub returns-else-eq : goal.returns-else-eq
returns-else-eq c =
    let none : starts_unit c.args.by c.args.day ≡ false =
    false_from_ne_true (starts_unit c.args.by c.args.day) (λ is. both_ways c.eq.result c.if-eq.false
    (c.eq.ensures ∙ eq-eqb c.unit_start.result c.midnight-date.result (c.unit_start.ensures
    ∙ starts-same c.args.by c.args.day c.midnight-date.result c.midnight-date.ensures is))) in
    sym (append-nil c.args.starts.now)
    ∙ ap (λ b. c.args.starts.now ++ map midnight (cond b (c.args.day ∷ []) [])) (sym none)
