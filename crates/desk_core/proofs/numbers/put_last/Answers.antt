use Rattle.std.proofs.Common.{position, ap, ◌∙◌}
use Rattle.std.specs.Str.{bytes_eq}
use Rattle.desk_model.specs.declared.last.Last.{Last}
use Rattle.desk_core.proofs.LastLemmas.{with_last-found, with_last-behind}
use Rattle.desk_core.proofs.numbers.put_last.Goals as goal

pub returns-in-Some : goal.returns-in-Some
returns-in-Some c =
    with_last-found c.args.last c.args.lasts.now.items c.in-Some.place
    (c.in-Some.ensures
    ∙ ap (position (λ (l : Last). bytes_eq l.clerk c.args.last.clerk)) c.deref.ensures.value)

pub returns-in-None : goal.returns-in-None
returns-in-None c =
    c.put_behind.ensures
    ∙ with_last-behind c.args.last c.args.lasts.now.items
    (c.in-None.ensures
    ∙ ap (position (λ (l : Last). bytes_eq l.clerk c.args.last.clerk)) c.deref.ensures.value)
