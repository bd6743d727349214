-- What is replied at a desk that a journal replays to can be printed.
use Rattle.std.proofs.Common.{◌≡◌, ℕ, ◌≤◌, unsigned_abs, Bool, true, nat_le, Option, None}
use Rattle.std.proofs.Common.{unwrap_or, List, length, slice_get, Result, Ok, Err, IfOk, option_map}
use Rattle.std.specs.Prelude.{⊤}
use Rattle.std.specs.List.{All}
use Rattle.std.proofs.lemmas.Bool.{leb-true}
use Rattle.reg_base.specs.declared.fault.TableFault.{TableFault}
use Rattle.reg_base.specs.declared.fault.TableFault.TheVariants.{BadRange, TooManyRows}
use Rattle.reg_base.specs.declared.fault.TableFault.TheVariants.{UnknownField}
use Rattle.reg_base.specs.declared.records.Document.{Document}
use Rattle.reg_base.specs.declared.tables.Range.{Range}
use Rattle.reg_base.specs.BookedEntries.{BookedEntry, entries_of}
use Rattle.reg_base.specs.Records.{Booked, chosen_records, records_of, records_within}
use Rattle.reg_base.specs.Numbers.{largest_units, parse_num}
use Rattle.reg_base.specs.Results.{none_or, some_or}
use Rattle.reg_base.specs.Turnovers.{both_rows, in_range, limited_rows, row_limit, table_of}
use Rattle.reg_base.specs.Turnovers.{turnover_rows}
use Rattle.reg_base.specs.declared.cut.Cut.TheVariants.{Now}
use Rattle.reg_base.specs.declared.tables.Method.TheVariants.{Movements}
use Rattle.reg_base.specs.Balances.{sum_rows}
use Rattle.reg_base.specs.Documents.{document_at}
use Rattle.reg_base.proofs.ForAbove.{IfOk-next, IfOk-then, IfOk-unless}
use Rattle.cfg_model.specs.declared.config.Config.{Config}
use Rattle.cfg_model.specs.declared.ledger.Chart.{Chart}
use Rattle.cfg_model.specs.declared.register.Register.{Register}
use Rattle.cfg_model.specs.AccountTables.{account_balance_of, account_both_of, account_turnovers_of}
use Rattle.cfg_model.specs.AccountTables.{dr_cr_of}
use Rattle.cfg_model.specs.Asks.{filter_with, group_places, wrong_name}
use Rattle.cfg_model.specs.Places.{ledger_place, register_place}
use Rattle.desk_words.specs.declared.reply.Answer.{Answer}
use Rattle.desk_words.specs.declared.reply.Answer.TheVariants.{AccountBalance as HeldRows}
use Rattle.desk_words.specs.declared.reply.Answer.TheVariants.{AccountTurnovers as MovedRows}
use Rattle.desk_words.specs.declared.reply.Answer.TheVariants.{Balance as BalanceRows}
use Rattle.desk_words.specs.declared.reply.Answer.TheVariants.{Both as RegisterRows}
use Rattle.desk_words.specs.declared.reply.Answer.TheVariants.{Documents as DocumentRows}
use Rattle.desk_words.specs.declared.reply.Answer.TheVariants.{DrCr as PairRows, Shown}
use Rattle.desk_words.specs.declared.reply.Answer.TheVariants.{Turnovers as TurnoverRows}
use Rattle.desk_words.specs.declared.reply.Answer.TheVariants.{AccountBoth as BothRows}
use Rattle.desk_words.specs.declared.reply.Field.TheVariants.{Account as AccountField}
use Rattle.desk_words.specs.declared.reply.Field.TheVariants.{Ledger as LedgerField}
use Rattle.desk_words.specs.declared.reply.Field.TheVariants.{Register as RegisterField}
use Rattle.desk_words.specs.declared.reply.Refusal.{Refusal}
use Rattle.desk_words.specs.declared.reply.Refusal.TheVariants.{BadField, NotAllowed, UnknownClerk}
use Rattle.desk_words.specs.declared.reply.Refusal.TheVariants.{UnknownDoc}
use Rattle.desk_words.specs.declared.request.Post.TheVariants.{Content, Standing}
use Rattle.desk_words.specs.declared.request.Request.{Request}
use Rattle.desk_words.specs.declared.request.Request.TheVariants.{AccountBalance, AccountBoth}
use Rattle.desk_words.specs.declared.request.Request.TheVariants.{AccountTurnovers, Activity}
use Rattle.desk_words.specs.declared.request.Request.TheVariants.{Balance, Both, Close, Doc}
use Rattle.desk_words.specs.declared.request.Request.TheVariants.{Documents, DrCr, Manual, Mark}
use Rattle.desk_words.specs.declared.request.Request.TheVariants.{Post, Sweep, Turnovers, Unpost}
use Rattle.desk_words.specs.declared.request.Request.TheVariants.{Write}
use Rattle.desk_words.specs.declared.tables.AccountTurnovers.{AccountTurnovers as AccountsRequest}
use Rattle.desk_words.specs.declared.request.Balance.{Balance as BalanceRequest}
use Rattle.desk_words.specs.declared.request.DocQuestion.{DocQuestion as DocRequest}
use Rattle.desk_words.specs.declared.tables.AccountBalance.{AccountBalance as AccountBalanceRequest}
use Rattle.desk_words.specs.declared.tables.AskedRegister.{AskedRegister}
use Rattle.desk_words.specs.declared.tables.Both.{Both as BothRequest}
use Rattle.desk_words.specs.declared.tables.DocumentsQuestion.{DocumentsQuestion}
use Rattle.desk_words.specs.declared.tables.DrCr.{DrCr as PairsRequest}
use Rattle.desk_words.specs.declared.tables.Turnovers.{Turnovers as TurnoversRequest}
use Rattle.desk_model.specs.State.{Command, Desk, Setting, State}
use Rattle.desk_model.specs.Clerks.{is_allowed, is_clerk}
use Rattle.desk_model.specs.Controls.{control_fault}
use Rattle.desk_model.specs.Desk.{command_at, effect_at, event_of, meaning_at, step, tests_of}
use Rattle.desk_model.specs.Effects.{Effect, Tests, documents_with}
use Rattle.desk_model.specs.LedgerQuestions.{asks_extras, has_asked_account}
use Rattle.desk_model.specs.LedgerQuestions.{question_account_balance, question_account_both}
use Rattle.desk_model.specs.LedgerQuestions.{question_account_turnovers, question_on}
use Rattle.desk_model.specs.LedgerQuestions.{account_balance_answer, account_turnovers_answer}
use Rattle.desk_model.specs.LedgerQuestions.{pairs_answer, question_pairs}
use Rattle.desk_model.specs.Meanings.{meaning_of}
use Rattle.desk_model.specs.Plans.{Change, Deed, Meaning, Question, asks, changes, closes}
use Rattle.desk_model.specs.Questions.{answering, or_refused, question_doc, question_documents}
use Rattle.desk_model.specs.Questions.{range_of, rows_between}
use Rattle.desk_model.specs.Shown.{shown_document}
use Rattle.desk_model.specs.RegisterQuestions.{asked_lists, named_table, question_about}
use Rattle.desk_model.specs.RegisterQuestions.{balance_answer, both_answer, question_balance}
use Rattle.desk_model.specs.RegisterQuestions.{question_both, question_turnovers, scales_of}
use Rattle.desk_model.specs.RegisterQuestions.{turnovers_answer}
use Rattle.desk_model.specs.Serial.{answer_to, change_effect, deed_effect, effect_of, made_at}
use Rattle.desk_model.specs.Serial.{plan_effect, question_answer, question_effect, sight_of}
use Rattle.desk_model.specs.Serial.{work_effect}
use Rattle.desk_model.specs.Stops.{Stop, refuses, repeats}
use Rattle.desk_history.specs.Replays.{replayed}
use Rattle.text_reports.specs.TrialBalances.{HasModerateNumbers}
use Rattle.desk_reports.specs.Printable.{IsPrintable, RepliesPrintable}
use Rattle.desk_reports.proofs.AmountLemmas.{YieldsAreSmall}
use Rattle.desk_reports.proofs.BoundLemmas.{AreFewSmall, table-moderate}
use Rattle.desk_reports.proofs.StateLemmas.{IfOk-or_stop, IsReplayed, replayed-is}
use Rattle.desk_reports.proofs.EntryLemmas.{entries-few}

-- ---- tables

-- the rows of a table that is made have what all rows have, and are no more than a table may have
table_of-few : {R : Type 0} (P : R → Type 0) (range : Range) (rows : List R) → All P rows
    → IfOk (table_of range rows) (λ found. (length found ≤ 100_000) × All P found)
table_of-few P range rows all =
    IfOk-unless (λ found. (length found ≤ 100_000) × All P found) (nat_le range.from range.to)
    (BadRange range.from range.to) _
    (λ _. IfOk-unless (λ found. (length found ≤ 100_000) × All P found)
    (nat_le (length rows) row_limit) (TooManyRows row_limit) _
    (λ few. (leb-true (length rows) row_limit few, all)))

-- what rows answer, or why they are not made
IfOk-or_refused : (tried : Result Answer TableFault) → IfOk tried IsPrintable
    → IfOk (or_refused tried) IsPrintable
IfOk-or_refused (Ok answer) holds = holds
IfOk-or_refused (Err fault) holds = tt

-- rows that answer what can be printed, whatever they are
plainly : {R : Type 0} (shown : R → Answer) → ((rows : R) → IsPrintable (shown rows))
    → (rows : Result R TableFault) → IfOk (answering shown rows) IsPrintable
plainly shown is rows = IfOk-next IsPrintable rows (λ found. Ok (shown found)) is

-- the balances and turnovers of a chart over few small entries
both-printable : (chart : Chart) (entries : List BookedEntry) (account : Option (List ℕ))
    (extras : Bool) (range : Range) → AreFewSmall entries → IfOk
    (answering (λ rows. BothRows rows chart.scale)
    (table_of range (account_both_of chart entries account extras range))) IsPrintable
both-printable chart entries account extras range are =
    IfOk-then (λ found. (length found ≤ 100_000) × All HasModerateNumbers found) IsPrintable
    (table_of range (account_both_of chart entries account extras range)) _
    (table_of-few HasModerateNumbers range _
    (table-moderate chart entries account extras range are)) (λ rows is. is)

-- ---- questions

-- what a question is answered over documents can be printed
abbrev AnswersPrintable : List Document → Question → Type 0
AnswersPrintable documents q = IfOk (answer_to documents q) IsPrintable

-- so it is of each question that can be asked
abbrev IsPlain : List Document → Result Question Refusal → Type 0
IsPlain documents question = IfOk question (AnswersPrintable documents)

module _ (config : Config) (documents : List Document) where
  -- a question about a register whose table answers what can be printed
  about-plain : (asked : AskedRegister) (has_table : Register → Bool)
      (table : Register → Option (List ℕ) → List Booked → Result Answer TableFault)
      → ((register : Register) (group : Option (List ℕ)) (records : List Booked)
      → IfOk (table register group records) IsPrintable)
      → IsPlain documents (question_about config asked has_table table)
  unfolding question_about answer_to
  about-plain asked has_table table is =
      IfOk-next (AnswersPrintable documents)
      (some_or (register_place asked.name config.registers) (BadField RegisterField)) _
      (λ place. IfOk-next (AnswersPrintable documents)
      (some_or (slice_get config.registers place) (BadField RegisterField)) _
      (λ register. IfOk-unless (AnswersPrintable documents) (has_table register)
      (BadField RegisterField) _
      (λ _. IfOk-next (AnswersPrintable documents) (asked_lists register asked.filter) _
      (λ lists. let records = chosen_records (filter_with register lists)
      (records_of place documents) in
      IfOk-or_refused (named_table register lists asked.group
      (λ group. table register group records)) (IfOk-next IsPrintable
      (none_or (option_map UnknownField (wrong_name register lists asked.group))) _
      (λ _. is register (group_places register asked.group) records))))))

  -- a question about a ledger whose table answers what can be printed
  on-plain : (ledger : List ℕ) (account : Option (List ℕ))
      (table : Chart → List BookedEntry → Result Answer TableFault)
      → ((place : ℕ) (chart : Chart)
      → IfOk (table chart (entries_of place documents)) IsPrintable)
      → IsPlain documents (question_on config ledger account table)
  unfolding question_on answer_to
  on-plain ledger account table is =
      IfOk-next (AnswersPrintable documents)
      (some_or (ledger_place ledger config.ledgers) (BadField LedgerField)) _
      (λ place. IfOk-next (AnswersPrintable documents)
      (some_or (slice_get config.ledgers place) (BadField LedgerField)) _
      (λ chart. IfOk-unless (AnswersPrintable documents) (has_asked_account chart account)
      (BadField AccountField) _
      (λ _. IfOk-or_refused (table chart (entries_of place documents)) (is place chart))))

-- what a deed asks is plain
abbrev DeedIsPlain : List Document → Deed → Type 0
DeedIsPlain documents (changes change) = ⊤
DeedIsPlain documents (closes date) = ⊤
DeedIsPlain documents (asks question) = IsPlain documents question

module _ (config : Config) (state : State) (is : IsReplayed state) where
  -- the balances and turnovers of accounts
  account_both-plain : (t : AccountsRequest)
      → IsPlain state.documents (question_account_both config t)
  unfolding question_account_both
  account_both-plain t = on-plain config state.documents t.accounts.ledger t.accounts.account _
      (λ place chart. both-printable chart (entries_of place state.documents) t.accounts.account
      (asks_extras t.accounts) (range_of t.dates t.by) (entries-few place state is))

  balance-plain : (b : BalanceRequest) → IsPlain state.documents (question_balance config b)
  unfolding question_balance
  balance-plain b = about-plain config state.documents b.register (λ register. register.balance)
      (balance_answer (unwrap_or b.cut Now))
      (λ register group records. plainly (λ rows. BalanceRows rows (scales_of register))
      (λ rows. tt) (limited_rows (sum_rows (length register.resources) group
      (records_within (unwrap_or b.cut Now) records))))

  turnovers-plain : (t : TurnoversRequest) → IsPlain state.documents (question_turnovers config t)
  unfolding question_turnovers
  turnovers-plain t =
      let range = range_of t.dates t.by in
      about-plain config state.documents t.register (λ _. true) (turnovers_answer range)
      (λ register group records.
      plainly (λ rows. TurnoverRows register.balance rows (scales_of register)) (λ rows. tt)
      (table_of range (turnover_rows register.balance (length register.resources) group range.by
      (in_range range records))))

  both-plain : (b : BothRequest) → IsPlain state.documents (question_both config b)
  unfolding question_both
  both-plain b =
      let range = range_of b.turnovers.dates b.turnovers.by in
      let method = unwrap_or b.method Movements in
      about-plain config state.documents b.turnovers.register (λ register. register.balance)
      (both_answer method range)
      (λ register group records. plainly (λ rows. RegisterRows rows (scales_of register))
      (λ rows. tt)
      (table_of range (both_rows (length register.resources) group range method records)))

  account_balance-plain : (b : AccountBalanceRequest)
      → IsPlain state.documents (question_account_balance config b)
  unfolding question_account_balance
  account_balance-plain b =
      on-plain config state.documents b.accounts.ledger b.accounts.account
      (account_balance_answer b.accounts (unwrap_or b.cut Now))
      (λ place chart. plainly (λ rows. HeldRows rows chart.scale) (λ rows. tt)
      (limited_rows (account_balance_of chart (entries_of place state.documents)
      b.accounts.account (asks_extras b.accounts) (unwrap_or b.cut Now))))

  account_turnovers-plain : (t : AccountsRequest)
      → IsPlain state.documents (question_account_turnovers config t)
  unfolding question_account_turnovers
  account_turnovers-plain t =
      let range = range_of t.dates t.by in
      on-plain config state.documents t.accounts.ledger t.accounts.account
      (account_turnovers_answer t.accounts range)
      (λ place chart. plainly (λ rows. MovedRows rows chart.scale) (λ rows. tt)
      (table_of range (account_turnovers_of chart (entries_of place state.documents)
      t.accounts.account (asks_extras t.accounts) range)))

  pairs-plain : (q : PairsRequest) → IsPlain state.documents (question_pairs config q)
  unfolding question_pairs
  pairs-plain q =
      let range = range_of q.dates None in
      on-plain config state.documents q.ledger q.account (pairs_answer q.account range)
      (λ place chart. plainly (λ rows. PairRows rows chart.scale) (λ rows. tt)
      (table_of range (dr_cr_of chart (entries_of place state.documents) q.account range)))

  documents-plain : (q : DocumentsQuestion)
      → IsPlain state.documents (question_documents config q)
  unfolding answer_to
  documents-plain q =
      let rows = limited_rows (rows_between config (range_of q.dates None) state.documents) in
      IfOk-or_refused (answering DocumentRows rows) (plainly DocumentRows (λ rows. tt) rows)

  doc-plain : (q : DocRequest) → IsPlain state.documents (question_doc config q)
  unfolding answer_to
  doc-plain q = IfOk-next IsPrintable (some_or (document_at q.doc state.documents) UnknownDoc)
      (λ d. Ok (Shown (shown_document config d))) (λ d. tt)

  -- what each request asks
  meaning-plain : (r : Request) → DeedIsPlain state.documents (meaning_of config r).deed
  meaning-plain (Write w) = tt
  meaning-plain (Post (Content w)) = tt
  meaning-plain (Post (Standing s)) = tt
  meaning-plain (Unpost u) = tt
  meaning-plain (Mark m) = tt
  meaning-plain (Manual m) = tt
  meaning-plain (Activity m) = tt
  meaning-plain (Close c) = tt
  meaning-plain (Sweep s) = tt
  meaning-plain (Balance b) = balance-plain b
  meaning-plain (Turnovers t) = turnovers-plain t
  meaning-plain (Both b) = both-plain b
  meaning-plain (AccountBalance b) = account_balance-plain b
  meaning-plain (AccountTurnovers t) = account_turnovers-plain t
  meaning-plain (AccountBoth t) = account_both-plain t
  meaning-plain (DrCr q) = pairs-plain q
  meaning-plain (Documents q) = documents-plain q
  meaning-plain (Doc q) = doc-plain q

-- ---- one request

-- the answer of an effect can be printed
abbrev EffectIsPrintable : Effect → Type 0
EffectIsPrintable effect = IsPrintable effect.answer

change_effect-printable : (tests : Tests) (setting : Setting) (state : State) (number : ℕ)
    (change : Change) → IfOk (change_effect tests setting state number change) EffectIsPrintable
unfolding change_effect plan_effect work_effect
change_effect-printable tests setting state number change =
    let sight = sight_of state number change in
    IfOk-next EffectIsPrintable (change.plan sight) _
    (λ plan. IfOk-next EffectIsPrintable (tests.limits sight plan
    (made_at setting state sight plan)) _
    (λ _. IfOk-next EffectIsPrintable tests.entry _
    (λ _. IfOk-next EffectIsPrintable (made_at setting state sight plan) _
    (λ after. IfOk-next EffectIsPrintable (none_or (control_fault setting plan
    (documents_with sight.before after state.documents) sight.before after)) _ (λ _. tt)))))

question_effect-printable : (state : State) (question : Result Question Refusal)
    → IsPlain state.documents question → IfOk (question_effect state question) EffectIsPrintable
unfolding question_effect question_answer
question_effect-printable state question is =
    IfOk-then IsPrintable EffectIsPrintable (question_answer state.documents question) _
    (IfOk-then (AnswersPrintable state.documents) IsPrintable question
    (answer_to state.documents) is (λ q holds. holds)) (λ answer holds. holds)

deed_effect-printable : (tests : Tests) (setting : Setting) (state : State) (number : ℕ)
    (deed : Deed) → DeedIsPlain state.documents deed
    → IfOk (deed_effect tests setting state number deed) EffectIsPrintable
deed_effect-printable tests setting state number (changes change) is =
    change_effect-printable tests setting state number change
deed_effect-printable tests setting state number (closes date) is =
    IfOk-next EffectIsPrintable tests.entry _ (λ _. tt)
deed_effect-printable tests setting state number (asks question) is =
    question_effect-printable state question is

effect_at-printable : (desk : Desk) (r : Request) → IsReplayed desk.serial
    → IfOk (effect_at desk r) EffectIsPrintable
unfolding effect_of
effect_at-printable desk r is =
    let meaning : Meaning = meaning_at desk r in
    let tests : Tests = tests_of desk meaning r in
    IfOk-unless EffectIsPrintable (is_clerk desk.setting.config meaning.clerk)
    (refuses UnknownClerk) _
    (λ _. IfOk-unless EffectIsPrintable
    (is_allowed desk.setting.config meaning.clerk meaning.right)
    (refuses (NotAllowed meaning.right)) _
    (λ _. IfOk-next EffectIsPrintable tests.number _
    (λ _. IfOk-or_stop EffectIsPrintable _ (deed_effect-printable tests desk.setting desk.serial
    (command_at desk r).number meaning.deed (meaning-plain desk.setting.config desk.serial is r)))))

event-printable : (desk : Desk) (meaning : Meaning) (command : Command)
    (came : Result Effect Stop) → IfOk came EffectIsPrintable
    → RepliesPrintable (event_of desk meaning command came).reply
event-printable desk meaning command (Ok effect) holds = holds
event-printable desk meaning command (Err (refuses refusal)) holds = tt
event-printable desk meaning command (Err (repeats acknowledgement)) holds = tt

-- what is replied at a desk that entries replay to
pub step-printable : YieldsAreSmall
    → ((text : List ℕ) (scale : ℕ)
    → IfOk (parse_num text scale) (λ n. unsigned_abs n.units ≤ largest_units))
    → (desk : Desk) (entries : List (List ℕ)) → replayed desk.setting entries ≡ Ok desk.serial
    → (r : Request) → RepliesPrintable (step desk r).reply
unfolding step
step-printable yields in_range desk entries so r =
    event-printable desk (meaning_at desk r) (command_at desk r) (effect_at desk r)
    (effect_at-printable desk r
    (replayed-is yields in_range desk.setting entries desk.serial so))
