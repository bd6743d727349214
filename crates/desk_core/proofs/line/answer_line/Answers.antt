use Rattle.std.proofs.Common.{sym, ◌∙◌}
use Rattle.desk_core.proofs.LineLemmas.{LineDone-blank, line-failed, line-done}
use Rattle.desk_core.proofs.line.answer_line.Goals as goal

pub returns-then-is_blank-clause-ends : goal.returns-then-is_blank-clause-ends
returns-then-is_blank-clause-ends g c = LineDone-blank c.args.desk.now c.args.line.now
    c.args.journal.now _ (sym c.is_blank.ensures ∙ c.if-is_blank.true) c.requires.ready

pub returns-in-Err-clause-ends : goal.returns-in-Err-clause-ends
returns-in-Err-clause-ends g c =
    line-failed c.args.desk.now c.answer_text.new.desk c.args.line.now _ _ _ _ c.in-Err.end
    (sym c.is_blank.ensures ∙ c.if-is_blank.false)
    (sym c.is_stopped.ensures ∙ c.if-is_stopped.false) c.in-Err.ensures.ends

pub returns-in-Ok-clause-ends : goal.returns-in-Ok-clause-ends
returns-in-Ok-clause-ends g c =
    line-done c.args.desk.now c.answer_text.new.desk c.args.line.now c.in-Ok.text _ _
    (sym c.is_blank.ensures ∙ c.if-is_blank.false) c.in-Ok.ensures.ends
