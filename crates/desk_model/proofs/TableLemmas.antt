-- Accepted tables are those that were asked for.
use Rattle.std.proofs.Common.{◌≡◌, Bool, true, false, cond, None}
use Rattle.std.proofs.Common.{unwrap_or, List, Result}
use Rattle.std.proofs.Common.{Ok, Err, refl, ap, ◌∙◌}
use Rattle.std.proofs.Common.{sym}
use Rattle.reg_base.specs.declared.cut.Cut.TheVariants.{Now}
use Rattle.reg_base.specs.declared.line.Line.{Line}
use Rattle.reg_base.specs.declared.tables.Method.TheVariants.{Movements}
use Rattle.reg_base.specs.Results.{◌>>=◌, unless}
use Rattle.reg_base.specs.Turnovers.{limited_rows}
use Rattle.desk_words.specs.declared.request.Balance.{Balance as BalanceRequest}
use Rattle.desk_words.specs.declared.tables.Turnovers.{Turnovers as TurnoversRequest}
use Rattle.desk_words.specs.declared.tables.Both.{Both as BothRequest}
use Rattle.desk_words.specs.declared.tables.AccountBalance.{AccountBalance as AccountBalanceRequest}
use Rattle.desk_words.specs.declared.tables.AccountTurnovers.{AccountTurnovers as AccountRequest}
use Rattle.desk_words.specs.declared.tables.DrCr.{DrCr as PairsRequest}
use Rattle.desk_words.specs.declared.tables.DocumentsQuestion.{DocumentsQuestion}
use Rattle.desk_words.specs.declared.request.Request.{Request}
use Rattle.desk_words.specs.declared.request.Request.TheVariants.{Write, Post, Unpost, Mark, Manual}
use Rattle.desk_words.specs.declared.request.Request.TheVariants.{Activity, Close, Sweep, Balance}
use Rattle.desk_words.specs.declared.request.Request.TheVariants.{Doc, Turnovers, Both, Documents}
use Rattle.desk_words.specs.declared.request.Request.TheVariants.{AccountBalance, AccountTurnovers}
use Rattle.desk_words.specs.declared.request.Request.TheVariants.{AccountBoth, DrCr}
use Rattle.desk_words.specs.declared.fault.WordFault.{WordFault}
use Rattle.desk_words.specs.declared.reply.Reply.TheVariants.{Done}
use Rattle.desk_words.specs.declared.reply.Answer.{Answer}
use Rattle.desk_words.specs.declared.reply.Answer.TheVariants as AnswerIs
use Rattle.desk_words.specs.declared.reply.Refusal.{Refusal}
use Rattle.desk_words.specs.declared.reply.Refusal.TheVariants.{UnknownClerk, NotAllowed}
use Rattle.desk_words.specs.Reading.{request}
use Rattle.desk_model.specs.State.{Desk, Command}
use Rattle.desk_model.specs.Plans.{Question, Meaning}
use Rattle.desk_model.specs.Questions.{answering, range_of, question_documents}
use Rattle.desk_model.specs.Questions.{rows_between}
use Rattle.desk_model.specs.RegisterQuestions.{scales_of}
use Rattle.desk_model.specs.RegisterQuestions.{question_balance, question_turnovers, question_both}
use Rattle.desk_model.specs.RegisterQuestions.{balance_answer, turnovers_answer, both_answer}
use Rattle.desk_model.specs.LedgerQuestions.{question_account_balance, question_account_turnovers}
use Rattle.desk_model.specs.LedgerQuestions.{question_account_both, question_pairs}
use Rattle.desk_model.specs.LedgerQuestions.{account_balance_answer, account_turnovers_answer}
use Rattle.desk_model.specs.LedgerQuestions.{account_both_answer, pairs_answer}
use Rattle.desk_model.specs.Stops.{refuses, or_stop}
use Rattle.desk_model.specs.Serial.{answer_effect, answer_to, question_answer, question_effect}
use Rattle.desk_model.specs.Serial.{effect_of}
use Rattle.desk_model.specs.Clerks.{is_clerk, is_allowed, is_batch}
use Rattle.desk_model.specs.Desk.{meaning_at, command_at, event_of, step}
use Rattle.desk_model.specs.Answers.{refusal_event, event_of_reading, line_event, desk_after}
use Rattle.desk_model.specs.Tables.{IsBalanceTable}
use Rattle.desk_model.specs.Tables.{IsTurnoversTable, IsBothTable}
use Rattle.desk_model.specs.Tables.{IsAccountBalanceTable, IsAccountTurnoversTable, IsAccountBothTable}
use Rattle.desk_model.specs.Tables.{IsPairsTable}
use Rattle.desk_model.specs.Tables.{IsDocumentsTable, IsTable}
use Rattle.desk_model.specs.Laws.{TablesHold}
use Rattle.desk_model.proofs.QuestionLemmas.{limited-shows, table-shows}
use Rattle.desk_model.proofs.QuestionLemmas.{about-answers, on-answers, not_refused}

-- ---- each table

balance-table : (desk : Desk) (b : BalanceRequest) (answer : Answer)
    → question_answer desk.serial.documents (question_balance desk.setting.config b) ≡ Ok answer
    → IsBalanceTable desk b answer
unfolding question_balance
balance-table desk b answer h =
    let a = about-answers desk b.register (λ register. register.balance)
    (balance_answer (unwrap_or b.cut Now)) answer h in
    let shown = limited-shows (λ rows. AnswerIs.Balance rows (scales_of a.asks.register)) _ answer
    a.answered in
    record {
      asks = a.asks;
      rows = _;
      rows_are = refl;
      short = shown.short;
      answer_is = shown.answer_is;
    }

turnovers-table : (desk : Desk) (t : TurnoversRequest) (answer : Answer)
    → question_answer desk.serial.documents (question_turnovers desk.setting.config t) ≡ Ok answer
    → IsTurnoversTable desk t answer
unfolding question_turnovers
turnovers-table desk t answer h =
    let a = about-answers desk t.register (λ register. true)
    (turnovers_answer (range_of t.dates t.by)) answer h in
    let shown = table-shows (range_of t.dates t.by)
    (λ rows. AnswerIs.Turnovers a.asks.register.balance rows (scales_of a.asks.register)) _ answer
    a.answered in
    record {
      asks = a.asks;
      rows = _;
      rows_are = refl;
      short = shown.short;
      answer_is = shown.answer_is;
    }

both-table : (desk : Desk) (b : BothRequest) (answer : Answer)
    → question_answer desk.serial.documents (question_both desk.setting.config b) ≡ Ok answer
    → IsBothTable desk b answer
unfolding question_both
both-table desk b answer h =
    let range = range_of b.turnovers.dates b.turnovers.by in
    let a = about-answers desk b.turnovers.register (λ register. register.balance)
    (both_answer (unwrap_or b.method Movements) range) answer h in
    let shown = table-shows range (λ rows. AnswerIs.Both rows (scales_of a.asks.register)) _ answer
    a.answered in
    record {
      asks = a.asks;
      rows = _;
      rows_are = refl;
      short = shown.short;
      answer_is = shown.answer_is;
    }

account_balance-table : (desk : Desk) (b : AccountBalanceRequest) (answer : Answer)
    → question_answer desk.serial.documents (question_account_balance desk.setting.config b) ≡ Ok answer
    → IsAccountBalanceTable desk b answer
unfolding question_account_balance
account_balance-table desk b answer h =
    let a = on-answers desk b.accounts.ledger b.accounts.account
    (account_balance_answer b.accounts (unwrap_or b.cut Now)) answer h in
    let shown = limited-shows (λ rows. AnswerIs.AccountBalance rows a.asks.chart.scale) _ answer
    a.answered in
    record {
      asks = a.asks;
      rows = _;
      rows_are = refl;
      short = shown.short;
      answer_is = shown.answer_is;
    }

account_turnovers-table : (desk : Desk) (t : AccountRequest) (answer : Answer)
    → question_answer desk.serial.documents (question_account_turnovers desk.setting.config t) ≡ Ok answer
    → IsAccountTurnoversTable desk t answer
unfolding question_account_turnovers
account_turnovers-table desk t answer h =
    let a = on-answers desk t.accounts.ledger t.accounts.account
    (account_turnovers_answer t.accounts (range_of t.dates t.by)) answer h in
    let shown = table-shows (range_of t.dates t.by)
    (λ rows. AnswerIs.AccountTurnovers rows a.asks.chart.scale) _ answer a.answered in
    record {
      asks = a.asks;
      rows = _;
      rows_are = refl;
      short = shown.short;
      answer_is = shown.answer_is;
    }

account_both-table : (desk : Desk) (t : AccountRequest) (answer : Answer)
    → question_answer desk.serial.documents (question_account_both desk.setting.config t) ≡ Ok answer
    → IsAccountBothTable desk t answer
unfolding question_account_both
account_both-table desk t answer h =
    let a = on-answers desk t.accounts.ledger t.accounts.account
    (account_both_answer t.accounts (range_of t.dates t.by)) answer h in
    let shown = table-shows (range_of t.dates t.by)
    (λ rows. AnswerIs.AccountBoth rows a.asks.chart.scale) _ answer a.answered in
    record {
      asks = a.asks;
      rows = _;
      rows_are = refl;
      short = shown.short;
      answer_is = shown.answer_is;
    }

pairs-table : (desk : Desk) (q : PairsRequest) (answer : Answer)
    → question_answer desk.serial.documents (question_pairs desk.setting.config q) ≡ Ok answer
    → IsPairsTable desk q answer
unfolding question_pairs
pairs-table desk q answer h =
    let a = on-answers desk q.ledger q.account
    (pairs_answer q.account (range_of q.dates None)) answer h in
    let shown = table-shows (range_of q.dates None)
    (λ rows. AnswerIs.DrCr rows a.asks.chart.scale) _ answer a.answered in
    record {
      asks = a.asks;
      rows = _;
      rows_are = refl;
      short = shown.short;
      answer_is = shown.answer_is;
    }

documents-table : (desk : Desk) (q : DocumentsQuestion) (answer : Answer)
    → question_answer desk.serial.documents (question_documents desk.setting.config q) ≡ Ok answer
    → IsDocumentsTable desk q answer
unfolding question_answer answer_to
documents-table desk q answer h =
    let rows = rows_between desk.setting.config (range_of q.dates None) desk.serial.documents in
    let shown = limited-shows AnswerIs.Documents rows answer
    (not_refused (answering AnswerIs.Documents (limited_rows rows)) answer h) in
    record {
      rows = rows;
      rows_are = refl;
      short = shown.short;
      answer_is = shown.answer_is;
    }

-- ---- a step that answers

answered-by : (desk : Desk) (meaning : Meaning) (command : Command) (known allowed : Bool)
    (tried : Result Answer Refusal) (answer : Answer)
    → (event_of desk meaning command (unless known (refuses UnknownClerk) >>= λ _.
    unless allowed (refuses (NotAllowed meaning.right)) >>= λ _.
    or_stop (tried >>= λ a. Ok (answer_effect desk.serial a)))).reply ≡ Done answer
    → tried ≡ Ok answer
answered-by desk meaning command true true (Ok a) answer h = cc
answered-by desk meaning command true true (Err refusal) answer h = absurd (cc)
answered-by desk meaning command true false tried answer h = absurd (cc)
answered-by desk meaning command false allowed tried answer h = absurd (cc)

-- a question that is asked in a step is answered
step-answers : (desk : Desk) (r : Request) (answer : Answer) (question : Result Question Refusal)
    → (step desk r).reply ≡ (event_of desk (meaning_at desk r) (command_at desk r)
    (unless (is_clerk desk.setting.config (meaning_at desk r).clerk) (refuses UnknownClerk)
    >>= λ _. unless (is_allowed desk.setting.config (meaning_at desk r).clerk
    (meaning_at desk r).right) (refuses (NotAllowed (meaning_at desk r).right)) >>= λ _.
    or_stop (question_answer desk.serial.documents question
    >>= λ a. Ok (answer_effect desk.serial a)))).reply
    → (step desk r).reply ≡ Done answer → question_answer desk.serial.documents question ≡ Ok answer
step-answers desk r answer question is h =
    answered-by desk (meaning_at desk r) (command_at desk r) _ _
    (question_answer desk.serial.documents question) answer (sym is ∙ h)

step-table : (desk : Desk) (r : Request) (answer : Answer) → (step desk r).reply ≡ Done answer
    → IsTable desk r answer
unfolding step effect_of question_effect
step-table desk (Balance b) answer h = balance-table desk b answer
    (step-answers desk (Balance b) answer (question_balance desk.setting.config b) refl h)
step-table desk (Turnovers t) answer h = turnovers-table desk t answer
    (step-answers desk (Turnovers t) answer (question_turnovers desk.setting.config t) refl h)
step-table desk (Both b) answer h = both-table desk b answer
    (step-answers desk (Both b) answer (question_both desk.setting.config b) refl h)
step-table desk (AccountBalance b) answer h = account_balance-table desk b answer
    (step-answers desk (AccountBalance b) answer (question_account_balance desk.setting.config b)
    refl h)
step-table desk (AccountTurnovers t) answer h = account_turnovers-table desk t answer
    (step-answers desk (AccountTurnovers t) answer
    (question_account_turnovers desk.setting.config t) refl h)
step-table desk (AccountBoth t) answer h = account_both-table desk t answer
    (step-answers desk (AccountBoth t) answer (question_account_both desk.setting.config t) refl h)
step-table desk (DrCr q) answer h = pairs-table desk q answer
    (step-answers desk (DrCr q) answer (question_pairs desk.setting.config q) refl h)
step-table desk (Documents q) answer h = documents-table desk q answer
    (step-answers desk (Documents q) answer (question_documents desk.setting.config q) refl h)
step-table desk (Write w) answer h = tt
step-table desk (Post p) answer h = tt
step-table desk (Unpost u) answer h = tt
step-table desk (Mark m) answer h = tt
step-table desk (Manual m) answer h = tt
step-table desk (Activity m) answer h = tt
step-table desk (Close c) answer h = tt
step-table desk (Sweep s) answer h = tt
step-table desk (Doc q) answer h = tt

-- so does a line
line-table : (desk : Desk) (line : Line) (asked : Request) (answer : Answer)
    → request line ≡ Ok asked → (line_event desk line).reply ≡ Done answer
    → IsTable desk asked answer
line-table desk line asked answer is h =
    at (is_batch (meaning_at desk asked).clerk)
    (ap (λ (r : Result Request WordFault). (event_of_reading desk r).reply) (sym is) ∙ h)
  where
    at : (batch : Bool) → (cond batch (refusal_event desk UnknownClerk)
        (step desk asked)).reply ≡ Done answer → IsTable desk asked answer
    at true e = absurd (cc)
    at false e = step-table desk asked answer e

pub TablesHold-always : (desk : Desk) (lines : List Line) → TablesHold desk lines
TablesHold-always desk lines =
    λ before after line asked answer place is h. line-table
    (desk_after desk before) line asked answer is h
