-- Refusals of a report can be printed.
use Rattle.std.proofs.Common.{◌≡◌, ℕ, Bool, true, false, List, [], ◌∷◌, ◌++◌, Option, None, Some}
use Rattle.std.proofs.Common.{refl, sym, subst, inl, inr, ap, ◌∙◌}
use Rattle.std.specs.Prelude.{IfErr, Result, Ok, Err, Vec}
use Rattle.std.specs.declared.alloc.Global.{Global}
use Rattle.std.specs.Result.{result_ok}
use Rattle.reg_base.specs.Codes.{is_name}
use Rattle.reg_base.specs.Dates.{parse_date, parse_date_end}
use Rattle.reg_base.specs.Results.{◌>>=◌, some_or, unless}
use Rattle.cfg_model.specs.declared.config.Config.{Config}
use Rattle.desk_words.specs.ReplyTexts.{RefusalHasScales, reply_text}
use Rattle.desk_words.specs.declared.reply.Reply.TheVariants.{Refused as ReplyRefused}
use Rattle.desk_words.specs.declared.fault.Member.TheVariants.{Register as RegisterMember, From, To}
use Rattle.desk_words.specs.declared.reply.Refusal.{Refusal}
use Rattle.desk_words.specs.declared.request.Request.{Request}
use Rattle.desk_model.specs.Desk.{step}
use Rattle.desk_model.specs.State.{Desk, Setting}
use Rattle.desk_history.specs.Replays.{replayed}
use Rattle.desk_core.specs.Histories.{opened_desk}
use Rattle.desk_reports.specs.Printable.{RepliesPrintable}
use Rattle.desk_reports.specs.Reports.{ReportWords, bad_word, report_asked, report_request}
use Rattle.desk_run.specs.declared.fault.JobFault.TheVariants.{Memory, Refused}
use Rattle.desk_run.specs.declared.fault.TextFault.TheVariants.{Memory as TextMemory}
use Rattle.desk_run.specs.Texts.{TellsReport}
use Rattle.desk_run.proofs.Opened.{opened_parts}

-- so those of the words
pub words_refusal : (config : Config) (words : ReportWords)
    → IfErr (report_request config words) RefusalHasScales
unfolding report_request
words_refusal config words =
    at (is_name words.name) (result_ok (parse_date words.from)) (result_ok (parse_date_end words.to))
  where
    at : (named : Bool) (from to : Option ℕ) → IfErr (unless named (bad_word RegisterMember) >>= λ _.
        some_or from (bad_word From) >>= λ f. some_or to (bad_word To) >>= λ t.
        Ok (report_asked config words.name (record { from = Some f; to = Some t })))
        RefusalHasScales
    at false from to = tt
    at true None to = tt
    at true (Some f) None = tt
    at true (Some f) (Some t) = tt

pub refused_words : (config : Config) (words : ReportWords) (refusal : Refusal)
    → Err refusal ≡ report_request config words → RefusalHasScales refusal
refused_words config words refusal is =
    subst (λ r. IfErr r RefusalHasScales) (sym is) (words_refusal config words)

-- a report that memory was refused for
pub TellsReport-memory : (told : Result (List ℕ) Refusal) (out : Option (List ℕ)) (w w_now : ℕ)
    → TellsReport told out out w w_now (Err Memory)
TellsReport-memory (Ok text) out w w_now =
    record { text_end = Err TextMemory; end_is = refl; writes = refl }
TellsReport-memory (Err refusal) out w w_now = (refl, inr refl)

-- a report that is refused
pub TellsReport-refused : (told : Result (List ℕ) Refusal) (out : Option (List ℕ)) (w w_now : ℕ)
    (refusal : Refusal) (line : Vec ℕ Global) → told ≡ Err refusal
    → line.items ≡ reply_text (ReplyRefused refusal) ++ 10 ∷ []
    → TellsReport told out out w w_now (Err (Refused line))
TellsReport-refused (Ok text) out w w_now refusal line is spelt = absurd cc
TellsReport-refused (Err other) out w w_now refusal line is spelt =
    let same : other ≡ refusal = cc in
    (refl, inl (line, refl, rw same spelt))

-- at a desk that entries open each reply can be printed
pub opened_prints : ((desk : Desk) (entries : List (List ℕ))
    → replayed desk.setting entries ≡ Ok desk.serial
    → (request : Request) → RepliesPrintable (step desk request).reply)
    → (setting : Setting) (entries : List (List ℕ)) (desk : Desk)
    → opened_desk setting entries ≡ Ok desk
    → (request : Request) → RepliesPrintable (step desk request).reply
opened_prints prints setting entries desk opened =
    let parts = opened_parts setting entries desk opened in
    prints desk entries (ap (λ s. replayed s entries) parts.setting_is ∙ parts.replays)
