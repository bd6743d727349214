-- Documents of a type that are posted by its rules, and that lose their records again.
use Rattle.std.specs.Prelude.{Bool, not, ◌&&◌, nat_le, is_some, Result, Ok}
use Rattle.reg_base.specs.declared.records.DocState.TheVariants.{Written, Posted}
use Rattle.reg_base.specs.declared.records.Doc.{Doc}
use Rattle.reg_base.specs.Records.{is_posted}
use Rattle.reg_base.specs.Results.{◌>>=◌, unless, some_or}
use Rattle.cfg_model.specs.declared.config.Config.{Config}
use Rattle.desk_words.specs.declared.request.Write.{Write as WriteRequest}
use Rattle.desk_words.specs.declared.reply.Refusal.{Refusal}
use Rattle.desk_words.specs.declared.reply.Refusal.TheVariants.{UnknownDoc, WrongState, Closed}
use Rattle.desk_model.specs.declared.plan.Plan.{Plan}
use Rattle.desk_model.specs.declared.plan.Source.TheVariants.{ByRules, Nothing}
use Rattle.desk_model.specs.Plans.{Sight}
use Rattle.desk_model.specs.States.{named_is_seen, takes, is_marked}
use Rattle.desk_model.specs.Writes.{plan_content}

-- whether a document is a written or posted one of a type
abbrev pub is_unmarked_kind : Doc → Bool
is_unmarked_kind doc = not (is_marked doc.state) && is_some doc.kind

-- whether a document is a posted one of a type
abbrev pub is_posted_kind : Doc → Bool
is_posted_kind doc = is_posted doc.state && is_some doc.kind

-- what `post` makes of a content: a posted document with the records that its rules make
unfoldable pub plan_post : Config → WriteRequest → Sight → Result Plan Refusal
plan_post config w sight = do
  _ ← named_is_seen w.doc sight.before
  _ ← takes is_unmarked_kind sight.before
  plan_content Posted ByRules config w sight

-- what `post` makes of a document that stands
unfoldable pub plan_standing : Sight → Result Plan Refusal
plan_standing sight = do
  d ← some_or sight.before UnknownDoc
  _ ← unless (is_unmarked_kind d.doc) (WrongState d.doc.state)
  _ ← unless (nat_le sight.closed d.doc.date) (Closed sight.closed)
  Ok (record {
    doc = record d.doc { state = Posted };
    source = ByRules;
  })

-- what `unpost` makes: a written document without records
unfoldable pub plan_unpost : Sight → Result Plan Refusal
plan_unpost sight = do
  d ← some_or sight.before UnknownDoc
  _ ← unless (is_posted_kind d.doc) (WrongState d.doc.state)
  _ ← unless (nat_le sight.closed d.doc.date) (Closed sight.closed)
  Ok (record {
    doc = record d.doc { state = Written };
    source = Nothing;
  })
