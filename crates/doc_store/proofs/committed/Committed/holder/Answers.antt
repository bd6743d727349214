use Rattle.std.proofs.Common.{not, ap, ◌∙◌, sym, subst, true≢false, nat_eq}
use Rattle.std.specs.Cmp.Lexicographic.{pointwise}
use Rattle.doc_store.specs.Holders.{AwaitsHolders}
use Rattle.doc_store.proofs.HolderLemmas.{awaits-start, awaits-step, awaits-found, awaits-none}
use Rattle.doc_store.proofs.HolderLemmas.{awaits-past, ascend-but}
use Rattle.doc_store.proofs.PairLemmas.{same-bytes}
use Rattle.doc_store.proofs.SeenLemmas.{documents-ascend}
use Rattle.doc_store.proofs.committed.Committed.holder.Goals as goal

pub pairs-init : goal.pairs-init
pairs-init c = awaits-start c.args.self.now c.requires c.args.key.now c.args.but _
    c.range-pair-items.ensures.ordered
    (c.into_iter-pair-iterator.ensures.into_iter_gives ∙ c.range-pair-items.ensures.between tt)

pub returns-then-ne : goal.returns-then-ne
returns-then-ne c = sym (awaits-past c.args.key.now _ c.in-Some.pair.now c.next.new.self
    (subst (AwaitsHolders c.args.key.now _) c.in-Some.ensures.steps c.pairs.invariant)
    (ascend-but c.args.but _ (documents-ascend c.args.self.now.places.entries
    c.requires.ordered c.requires.numbered))
    (λ same. true≢false (sym c.if-ne.true ∙ c.ne.ensures
    ∙ ap (λ k. not (pointwise nat_eq k c.args.key.now)) same
    ∙ ap not (same-bytes c.args.key.now))))

pub returns-then-has_key : goal.returns-then-has_key
returns-then-has_key c = sym (awaits-found c.args.key.now _ c.in-Some.pair.now c.next.new.self
    (subst (AwaitsHolders c.args.key.now _) c.in-Some.ensures.steps c.pairs.invariant)
    (ascend-but c.args.but _ (documents-ascend c.args.self.now.places.entries
    c.requires.ordered c.requires.numbered))
    (sym c.has_key.ensures ∙ c.if-has_key.true))

pub pairs-preserved : goal.pairs-preserved
pairs-preserved c = awaits-step c.args.key.now _ c.in-Some.pair.now c.next.new.self
    (subst (AwaitsHolders c.args.key.now _) c.in-Some.ensures.steps c.pairs.invariant)
    (sym c.has_key.ensures ∙ c.if-has_key.false)

pub returns : goal.returns
returns c = sym (awaits-none c.args.key.now _
    (subst (AwaitsHolders c.args.key.now _) c.in-None.ensures.steps.0 c.pairs.invariant)
    (ascend-but c.args.but _ (documents-ascend c.args.self.now.places.entries
    c.requires.ordered c.requires.numbered)))
