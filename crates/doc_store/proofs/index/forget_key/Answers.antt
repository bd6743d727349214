use Rattle.std.proofs.Common.{◌∙◌, sym}
use Rattle.doc_store.proofs.PairLemmas.{KeepsPairs-removed}
use Rattle.doc_store.proofs.index.forget_key.Goals as goal

pub returns-then-not-is_key : goal.returns-then-not-is_key
returns-then-not-is_key c = KeepsPairs-removed c.in-Some.key c.args.number c.args.stays _ _
    (sym c.is_key.ensures ∙ c.if-not-is_key.true) c.remove.ensures.updates
