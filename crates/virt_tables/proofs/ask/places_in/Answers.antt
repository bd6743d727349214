use Rattle.std.proofs.Common.{ℕ, Option, List, [], ◌∷◌, ◌++◌, ap, ◌∙◌, sym, take, get_or}
use Rattle.std.specs.List.{filter_map, cons_option}
use Rattle.std.proofs.lemmas.List.{take_more}
use Rattle.std.proofs.lemmas.List.Elements.{filter_map-append}
use Rattle.cfg_model.specs.Asks.{dimension_place}
use Rattle.virt_tables.proofs.ask.places_in.Goals as goal

pub loop-name-preserved : goal.loop-name-preserved
loop-name-preserved c =
    let h : List ℕ → Option ℕ = λ name. dimension_place name c.args.dimensions.now in
    let i = c.loop-name.name-index in
    let front : List ℕ = filter_map h (take i c.args.names.now) in
    c.in_ok-push_place.ensures
    ∙ ap (λ xs. xs ++ cons_option c.dimension_place.result []) c.loop-name.invariant
    ∙ ap (λ o. front ++ cons_option o []) (c.dimension_place.ensures.value ∙ ap h c.name-item.is)
    ∙ sym (ap (filter_map h) (take_more c.args.names.now i c.name-item.result c.loop-name-test.true)
    ∙ filter_map-append h (take i c.args.names.now)
    (get_or c.args.names.now i c.name-item.result ∷ []))
