-- A question that is answered in two steps: what is asked, and the table.
use Rattle.std.proofs.Common.{◌≡◌, ℕ, Bool, true, false, Option, Some, None, option_map, List}
use Rattle.std.proofs.Common.{slice_get, Result, Ok, Err, refl, ap, ◌∙◌, sym}
use Rattle.reg_base.specs.declared.records.Document.{Document}
use Rattle.reg_base.specs.declared.tables.AskedList.{AskedList}
use Rattle.reg_base.specs.declared.fault.TableFault.{TableFault}
use Rattle.reg_base.specs.declared.fault.TableFault.TheVariants.{UnknownField}
use Rattle.reg_base.specs.Results.{◌>>=◌, unless, some_or, none_or}
use Rattle.reg_base.specs.Records.{Booked, records_of, chosen_records}
use Rattle.reg_base.specs.BookedEntries.{BookedEntry, entries_of}
use Rattle.cfg_model.specs.declared.config.Config.{Config}
use Rattle.cfg_model.specs.declared.register.Register.{Register}
use Rattle.cfg_model.specs.declared.ledger.Chart.{Chart}
use Rattle.cfg_model.specs.Places.{register_place, ledger_place}
use Rattle.cfg_model.specs.Asks.{wrong_name, filter_with, group_places}
use Rattle.virt_tables.specs.declared.ask.Ask.{Ask}
use Rattle.virt_tables.specs.Asks.{asked_by}
use Rattle.desk_words.specs.declared.tables.AskedRegister.{AskedRegister}
use Rattle.desk_words.specs.declared.reply.Answer.{Answer}
use Rattle.desk_words.specs.declared.reply.Refusal.{Refusal}
use Rattle.desk_words.specs.declared.reply.Refusal.TheVariants.{BadField}
use Rattle.desk_words.specs.declared.reply.Field.TheVariants.{Register as RegisterField}
use Rattle.desk_words.specs.declared.reply.Field.TheVariants.{Ledger as LedgerField}
use Rattle.desk_words.specs.declared.reply.Field.TheVariants.{Account as AccountField}
use Rattle.desk_model.specs.Plans.{Question, about_register, about_ledger}
use Rattle.desk_model.specs.Questions.{answering, or_refused}
use Rattle.desk_model.specs.RegisterQuestions.{question_about, asked_lists, named_table}
use Rattle.desk_model.specs.LedgerQuestions.{question_on, has_asked_account}
use Rattle.desk_model.specs.Serial.{answer_to, question_answer}
use Rattle.desk_tables.specs.Asked.{refused, has_one, AskedOf, asking_of, AskedLedger}
use Rattle.desk_tables.specs.Asked.{asking_ledger}

-- a table that answers, or is refused
shown-refused : {R : Type 0} (shown : R → Answer) (rows : Result R TableFault)
    → or_refused (answering shown rows) ≡ (refused rows >>= λ found. Ok (shown found))
shown-refused shown (Ok rows) = refl
shown-refused shown (Err fault) = refl

module _ (config : Config) (documents : List Document) (asked : AskedRegister)
    (balances_alone : Bool) {R : Type 0}
    (rows : Register → Option (List ℕ) → List Booked → Result R TableFault)
    (shown : Register → R → Answer) where
  -- the table that is asked for
  abbrev pub table : Register → Option (List ℕ) → List Booked → Result Answer TableFault
  table register group records = answering (shown register) (rows register group records)

  -- the second step
  abbrev pub tabled : AskedOf → Result Answer Refusal
  tabled a = refused (rows a.register a.ask.group
      (chosen_records a.ask.filter (records_of a.ask.register documents)))
      >>= λ found. Ok (shown a.register found)

  about : ℕ → Register → List AskedList → Question
  about place register lists = about_register (record {
    register = place;
    asked = filter_with register lists;
    answer = λ records. or_refused (named_table register lists asked.group
        (λ group. table register group records));
  })

  at_lists : (place : ℕ) (register : Register) (lists : List AskedList)
      → answer_to documents (about place register lists)
      ≡ ((refused (asked_by register place lists asked.group)
      >>= λ ask. Ok (record { ask = ask; register = register })) >>= tabled)
  unfolding about answer_to asked_by
  at_lists place register lists = at (wrong_name register lists asked.group)
    where
      at : (wrong : Option (List ℕ))
          → or_refused (none_or (option_map UnknownField wrong) >>= λ _.
          answering (shown register) (rows register (group_places register asked.group)
          (chosen_records (filter_with register lists) (records_of place documents))))
          ≡ ((refused (none_or (option_map UnknownField wrong) >>= λ _. Ok (record {
            register = place;
            filter = filter_with register lists;
            group = group_places register asked.group;
          })) >>= λ ask. Ok (record { ask = ask; register = register })) >>= tabled)
      at None = shown-refused (shown register)
          (rows register (group_places register asked.group)
          (chosen_records (filter_with register lists) (records_of place documents)))
      at (Some name) = refl

  at_register : (place : ℕ) (register : Register) (has : Bool)
      (read : Result (List AskedList) Refusal)
      → ((unless has (BadField RegisterField) >>= λ _. read >>= λ lists.
      Ok (about place register lists)) >>= answer_to documents)
      ≡ ((unless has (BadField RegisterField) >>= λ _. read >>= λ lists.
      refused (asked_by register place lists asked.group)
      >>= λ ask. Ok (record { ask = ask; register = register })) >>= tabled)
  at_register place register true (Ok lists) = at_lists place register lists
  at_register place register true (Err refusal) = refl
  at_register place register false read = refl

  at_place : (place : ℕ) (found : Option Register)
      → ((some_or found (BadField RegisterField) >>= λ register.
      unless (has_one balances_alone register) (BadField RegisterField) >>= λ _.
      asked_lists register asked.filter >>= λ lists. Ok (about place register lists))
      >>= answer_to documents)
      ≡ ((some_or found (BadField RegisterField) >>= λ register.
      unless (has_one balances_alone register) (BadField RegisterField) >>= λ _.
      asked_lists register asked.filter >>= λ lists.
      refused (asked_by register place lists asked.group)
      >>= λ ask. Ok (record { ask = ask; register = register })) >>= tabled)
  at_place place (Some register) =
      at_register place register (has_one balances_alone register)
      (asked_lists register asked.filter)
  at_place place None = refl

  at_name : (place : Option ℕ)
      → ((some_or place (BadField RegisterField) >>= λ p.
      some_or (slice_get config.registers p) (BadField RegisterField) >>= λ register.
      unless (has_one balances_alone register) (BadField RegisterField) >>= λ _.
      asked_lists register asked.filter >>= λ lists. Ok (about p register lists))
      >>= answer_to documents)
      ≡ ((some_or place (BadField RegisterField) >>= λ p.
      some_or (slice_get config.registers p) (BadField RegisterField) >>= λ register.
      unless (has_one balances_alone register) (BadField RegisterField) >>= λ _.
      asked_lists register asked.filter >>= λ lists.
      refused (asked_by register p lists asked.group)
      >>= λ ask. Ok (record { ask = ask; register = register })) >>= tabled)
  at_name (Some place) = at_place place (slice_get config.registers place)
  at_name None = refl

  -- a question about a register is answered in two steps
  pub question_about-steps : question_answer documents
      (question_about config asked (has_one balances_alone) table)
      ≡ (asking_of config asked balances_alone >>= tabled)
  unfolding about question_answer question_about asking_of
  question_about-steps = at_name (register_place asked.name config.registers)

module _ (config : Config) (documents : List Document) (ledger : List ℕ)
    (account : Option (List ℕ)) {R : Type 0}
    (rows : Chart → List BookedEntry → Result R TableFault) (shown : Chart → R → Answer) where
  -- the table that is asked for
  abbrev pub ledger_table : Chart → List BookedEntry → Result Answer TableFault
  ledger_table chart entries = answering (shown chart) (rows chart entries)

  -- the second step
  abbrev pub ledger_tabled : AskedLedger → Result Answer Refusal
  ledger_tabled a = refused (rows a.chart (entries_of a.place documents))
      >>= λ found. Ok (shown a.chart found)

  on : ℕ → Chart → Question
  on place chart = about_ledger (record {
    ledger = place;
    answer = λ entries. or_refused (ledger_table chart entries);
  })

  at_chart : (place : ℕ) (chart : Chart) (has : Bool)
      → ((unless has (BadField AccountField) >>= λ _. Ok (on place chart))
      >>= answer_to documents)
      ≡ ((unless has (BadField AccountField) >>= λ _.
      Ok (record { place = place; chart = chart })) >>= ledger_tabled)
  unfolding on answer_to
  at_chart place chart true =
      shown-refused (shown chart) (rows chart (entries_of place documents))
  at_chart place chart false = refl

  at_ledger : (place : ℕ) (found : Option Chart)
      → ((some_or found (BadField LedgerField) >>= λ chart.
      unless (has_asked_account chart account) (BadField AccountField) >>= λ _.
      Ok (on place chart)) >>= answer_to documents)
      ≡ ((some_or found (BadField LedgerField) >>= λ chart.
      unless (has_asked_account chart account) (BadField AccountField) >>= λ _.
      Ok (record { place = place; chart = chart })) >>= ledger_tabled)
  at_ledger place (Some chart) = at_chart place chart (has_asked_account chart account)
  at_ledger place None = refl

  at_ledger_name : (place : Option ℕ)
      → ((some_or place (BadField LedgerField) >>= λ p.
      some_or (slice_get config.ledgers p) (BadField LedgerField) >>= λ chart.
      unless (has_asked_account chart account) (BadField AccountField) >>= λ _.
      Ok (on p chart)) >>= answer_to documents)
      ≡ ((some_or place (BadField LedgerField) >>= λ p.
      some_or (slice_get config.ledgers p) (BadField LedgerField) >>= λ chart.
      unless (has_asked_account chart account) (BadField AccountField) >>= λ _.
      Ok (record { place = p; chart = chart })) >>= ledger_tabled)
  at_ledger_name (Some place) = at_ledger place (slice_get config.ledgers place)
  at_ledger_name None = refl

  -- a question about a ledger is answered in two steps
  pub question_on-steps : question_answer documents
      (question_on config ledger account ledger_table)
      ≡ (asking_ledger config ledger account >>= ledger_tabled)
  unfolding on question_answer question_on asking_ledger
  question_on-steps = at_ledger_name (ledger_place ledger config.ledgers)
