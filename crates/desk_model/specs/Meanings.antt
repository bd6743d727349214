-- What each request means under a configuration.
use Rattle.std.specs.Prelude.{ℕ, false, Option, Some, None, is_none, List, Result}
use Rattle.cfg_model.specs.declared.config.Config.{Config}
use Rattle.reg_base.specs.declared.right.Right.{Right}
use Rattle.reg_base.specs.declared.right.Right.TheVariants.{Write as WriteRight, Post as PostRight}
use Rattle.reg_base.specs.declared.right.Right.TheVariants.{Manual as ManualRight, Read, Admin}
use Rattle.desk_words.specs.declared.request.Request.{Request}
use Rattle.desk_words.specs.declared.request.Request.TheVariants.{Write, Post, Unpost, Mark, Manual}
use Rattle.desk_words.specs.declared.request.Request.TheVariants.{Activity, Close, Sweep, Balance}
use Rattle.desk_words.specs.declared.request.Request.TheVariants.{Doc, Turnovers, Both, Documents}
use Rattle.desk_words.specs.declared.request.Request.TheVariants.{AccountBalance, AccountTurnovers}
use Rattle.desk_words.specs.declared.request.Request.TheVariants.{AccountBoth, DrCr}
use Rattle.desk_words.specs.declared.request.Post.TheVariants.{Content, Standing}
use Rattle.desk_words.specs.declared.reply.Refusal.{Refusal}
use Rattle.desk_model.specs.declared.plan.Plan.{Plan}
use Rattle.desk_model.specs.Plans.{Sight, Question, Meaning, changes, closes, asks}
use Rattle.desk_model.specs.Writes.{plan_write}
use Rattle.desk_model.specs.Posts.{plan_post, plan_standing, plan_unpost}
use Rattle.desk_model.specs.Manuals.{plan_manual}
use Rattle.desk_model.specs.States.{plan_mark, plan_activity, plan_sweep}
use Rattle.desk_model.specs.Questions.{question_doc, question_documents}
use Rattle.desk_model.specs.RegisterQuestions.{question_balance, question_turnovers, question_both}
use Rattle.desk_model.specs.LedgerQuestions.{question_account_balance, question_account_turnovers}
use Rattle.desk_model.specs.LedgerQuestions.{question_account_both, question_pairs}

-- a change that makes a document, or gives the one that it names new content
abbrev pub making : List ℕ → Right → ℕ → Option ℕ → Option (List ℕ) →
    (Sight → Result Plan Refusal) → Meaning
making clerk right number doc key plan = record {
  clerk = clerk;
  right = right;
  number = Some number;
  draws = is_none doc;
  deed = changes (record {
    doc = doc;
    key = key;
    plan = plan;
  });
}

-- a change of a document that there is
abbrev pub changing : List ℕ → Right → ℕ → ℕ → (Sight → Result Plan Refusal) → Meaning
changing clerk right number doc plan = record {
  clerk = clerk;
  right = right;
  number = Some number;
  draws = false;
  deed = changes (record {
    doc = Some doc;
    key = None;
    plan = plan;
  });
}

-- a question, which has no number
abbrev pub asking : List ℕ → Result Question Refusal → Meaning
asking clerk question = record {
  clerk = clerk;
  right = Read;
  number = None;
  draws = false;
  deed = asks question;
}

-- what a request means
abbrev pub meaning_of : Config → Request → Meaning
meaning_of config (Write w) = making w.clerk WriteRight w.no w.doc w.key (plan_write config w)
meaning_of config (Post (Content w)) =
    making w.clerk PostRight w.no w.doc w.key (plan_post config w)
meaning_of config (Post (Standing s)) = changing s.clerk PostRight s.no s.doc plan_standing
meaning_of config (Unpost u) = changing u.clerk PostRight u.no u.doc plan_unpost
meaning_of config (Mark m) = changing m.clerk PostRight m.no m.doc (plan_mark m)
meaning_of config (Manual m) = making m.clerk ManualRight m.no m.doc m.key (plan_manual config m)
meaning_of config (Activity m) = changing m.clerk ManualRight m.no m.doc (plan_activity m)
meaning_of config (Close c) = record {
  clerk = c.clerk;
  right = Admin;
  number = Some c.no;
  draws = false;
  deed = closes c.date;
}
meaning_of config (Sweep s) = changing s.clerk Admin s.no s.doc plan_sweep
meaning_of config (Balance b) = asking b.clerk (question_balance config b)
meaning_of config (Turnovers t) = asking t.clerk (question_turnovers config t)
meaning_of config (Both b) = asking b.turnovers.clerk (question_both config b)
meaning_of config (AccountBalance b) = asking b.clerk (question_account_balance config b)
meaning_of config (AccountTurnovers t) = asking t.clerk (question_account_turnovers config t)
meaning_of config (AccountBoth t) = asking t.clerk (question_account_both config t)
meaning_of config (DrCr q) = asking q.clerk (question_pairs config q)
meaning_of config (Documents q) = asking q.clerk (question_documents config q)
meaning_of config (Doc q) = asking q.clerk (question_doc config q)
