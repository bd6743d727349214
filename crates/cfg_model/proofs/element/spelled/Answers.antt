use Rattle.std.proofs.Common.{sym, ◌∙◌}
use Rattle.cfg_model.specs.Walk.{toml_text}
use Rattle.cfg_model.proofs.Walks.{items-none, items-more}
use Rattle.cfg_model.proofs.element.spelled.Goals as goal

pub returns-in_default : goal.returns-in_default
returns-in_default g c =
    let shape = toml_text g.E.Element.reads in
    let items = c.args.array.now.items in
    let more = rw c.deref-item-items.ensures.value at c.items-test.true in
    let is = rw c.deref-item-items.ensures.value at c.item-item.is in
    let wrong = sym c.element_of.ensures ∙ c.in_default.is in
    sym (items-none shape c.items.found.items items c.items.item-index _ more is wrong)
    ∙ c.items.invariant

pub items-preserved : goal.items-preserved
items-preserved g c =
    let shape = toml_text g.E.Element.reads in
    let items = c.args.array.now.items in
    let more = rw c.deref-item-items.ensures.value at c.items-test.true in
    let is = rw c.deref-item-items.ensures.value at c.item-item.is in
    let right = sym c.element_of.ensures ∙ c.in-Some.is in
    items-more shape c.items.found.items c.push.new.self.items items c.items.item-index _ _
    more is right c.in_ok-push.ensures.items
    ∙ c.items.invariant
