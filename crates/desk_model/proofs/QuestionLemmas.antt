-- What an accepted question asked, and what it was answered.
use Rattle.std.proofs.Common.{◌≡◌, ℕ, ◌≤◌, Bool, true, false, nat_le, Option, Some, None}
use Rattle.std.proofs.Common.{List, length, slice_get, Result}
use Rattle.std.proofs.Common.{Ok, Err, refl}
use Rattle.std.proofs.Common.{option_map, arith}
use Rattle.reg_base.specs.declared.fault.TableFault.{TableFault}
use Rattle.reg_base.specs.declared.fault.TableFault.TheVariants.{BadRange, TooManyRows}
use Rattle.reg_base.specs.declared.fault.TableFault.TheVariants.{UnknownField}
use Rattle.reg_base.specs.declared.tables.Range.{Range}
use Rattle.reg_base.specs.declared.tables.AskedList.{AskedList}
use Rattle.reg_base.specs.Results.{◌>>=◌, unless, some_or, none_or}
use Rattle.reg_base.specs.Records.{Booked, records_of, chosen_records}
use Rattle.reg_base.specs.BookedEntries.{BookedEntry, entries_of}
use Rattle.reg_base.specs.Turnovers.{limited_rows, table_of, row_limit}
use Rattle.cfg_model.specs.declared.ledger.Chart.{Chart}
use Rattle.cfg_model.specs.declared.register.Register.{Register}
use Rattle.cfg_model.specs.Places.{register_place, ledger_place}
use Rattle.cfg_model.specs.Asks.{wrong_name, filter_with, group_places}
use Rattle.desk_words.specs.declared.tables.AskedRegister.{AskedRegister}
use Rattle.desk_words.specs.declared.reply.Answer.{Answer}
use Rattle.desk_words.specs.declared.reply.Refusal.{Refusal}
use Rattle.desk_words.specs.declared.reply.Refusal.TheVariants.{BadField}
use Rattle.desk_words.specs.declared.reply.Field.TheVariants.{Register as RegisterField}
use Rattle.desk_words.specs.declared.reply.Field.TheVariants.{Ledger as LedgerField}
use Rattle.desk_words.specs.declared.reply.Field.TheVariants.{Account as AccountField}
use Rattle.desk_model.specs.State.{Desk}
use Rattle.desk_model.specs.Plans.{Question, about_register, about_ledger}
use Rattle.desk_model.specs.Questions.{answering, or_refused}
use Rattle.desk_model.specs.RegisterQuestions.{question_about, asked_lists, named_table}
use Rattle.desk_model.specs.LedgerQuestions.{question_on, has_asked_account}
use Rattle.desk_model.specs.Serial.{answer_to, question_answer}
use Rattle.desk_model.specs.Tables.{Asks, AsksLedger, IsShort}

-- ---- rows that answer

-- the rows that an answer shows
pub record Shows {R : Type 0} (shown : List R → Answer) (rows : List R) (answer : Answer) : Type 0
  where
    pub short : IsShort rows
    pub answer_is : answer ≡ shown rows

short-le : (n : ℕ) → nat_le n row_limit ≡ true → n ≤ row_limit
short-le n h = grind (arith, h)

pub limited-shows : {R : Type 0} (shown : List R → Answer) (rows : List R) (answer : Answer)
    → answering shown (limited_rows rows) ≡ Ok answer → Shows shown rows answer
limited-shows shown rows answer h = at (nat_le (length rows) row_limit) refl h
  where
    at : (b : Bool) → nat_le (length rows) row_limit ≡ b
        → ((unless b (TooManyRows row_limit) >>= λ _. Ok rows) >>= λ found. Ok (shown found))
        ≡ Ok answer → Shows shown rows answer
    at true e k = record { short = short-le (length rows) e; answer_is = cc }
    at false e k = absurd (cc)

pub table-shows : {R : Type 0} (range : Range) (shown : List R → Answer) (rows : List R)
    (answer : Answer) → answering shown (table_of range rows) ≡ Ok answer
    → Shows shown rows answer
table-shows range shown rows answer h = at (nat_le range.from range.to) h
  where
    at : (b : Bool) → ((unless b (BadRange range.from range.to) >>= λ _. limited_rows rows)
        >>= λ found. Ok (shown found)) ≡ Ok answer → Shows shown rows answer
    at true k = limited-shows shown rows answer k
    at false k = absurd (cc)

pub not_refused : (tried : Result Answer TableFault) (answer : Answer) → or_refused tried ≡ Ok answer
    → tried ≡ Ok answer
not_refused (Ok a) answer h = cc
not_refused (Err fault) answer h = absurd (cc)

-- ---- what was asked

-- a table of a register that was asked for, and its answer
pub record AnswersAbout (desk : Desk) (asked : AskedRegister) (has_table : Register → Bool)
    (table : Register → Option (List ℕ) → List Booked → Result Answer TableFault)
    (answer : Answer) : Type 0 where
  pub asks : Asks desk asked has_table
  pub answered : table asks.register (group_places asks.register asked.group)
      (chosen_records (filter_with asks.register asks.lists)
      (records_of asks.place desk.serial.documents)) ≡ Ok answer

module _ (desk : Desk) (asked : AskedRegister) (has_table : Register → Bool)
    (table : Register → Option (List ℕ) → List Booked → Result Answer TableFault)
    (answer : Answer) where
  -- the records that are asked for
  records : ℕ → Register → List AskedList → List Booked
  records place register lists = chosen_records (filter_with register lists)
      (records_of place desk.serial.documents)

  -- the question about a register that was found
  about : ℕ → Register → List AskedList → Question
  about place register lists = about_register (record {
    register = place;
    asked = filter_with register lists;
    answer = λ found. or_refused (named_table register lists asked.group
        (λ group. table register group found));
  })

  at_lists : (place : ℕ) (register : Register)
      → register_place asked.name desk.setting.config.registers ≡ Some place
      → slice_get desk.setting.config.registers place ≡ Some register
      → has_table register ≡ true → (lists : List AskedList)
      → asked_lists register asked.filter ≡ Ok lists → (wrong : Option (List ℕ))
      → wrong_name register lists asked.group ≡ wrong
      → or_refused (none_or (option_map UnknownField wrong) >>= λ _.
      table register (group_places register asked.group) (records place register lists))
      ≡ Ok answer
      → AnswersAbout desk asked has_table table answer
  unfolding records
  at_lists place register named found has lists read None known h = record {
    asks = record {
      place = place;
      register = register;
      lists = lists;
      named = named;
      found = found;
      has = has;
      read = read;
      known = known;
    };
    answered = not_refused (table register (group_places register asked.group)
        (records place register lists)) answer h;
  }
  at_lists place register named found has lists read (Some name) known h = absurd (cc)

  at_register : (place : ℕ) (register : Register)
      → register_place asked.name desk.setting.config.registers ≡ Some place
      → slice_get desk.setting.config.registers place ≡ Some register
      → (has : Bool) → has_table register ≡ has → (read : Result (List AskedList) Refusal)
      → asked_lists register asked.filter ≡ read
      → ((unless has (BadField RegisterField) >>= λ _. read >>= λ lists.
      Ok (about place register lists)) >>= answer_to desk.serial.documents) ≡ Ok answer
      → AnswersAbout desk asked has_table table answer
  unfolding records about answer_to
  at_register place register named found true has (Ok lists) read h =
      at_lists place register named found has lists read
      (wrong_name register lists asked.group) refl h
  at_register place register named found true has (Err refusal) read h = absurd (cc)
  at_register place register named found false has read is h = absurd (cc)

  at_place : (place : ℕ) → register_place asked.name desk.setting.config.registers ≡ Some place
      → (found : Option Register) → slice_get desk.setting.config.registers place ≡ found
      → ((some_or found (BadField RegisterField) >>= λ register.
      unless (has_table register) (BadField RegisterField) >>= λ _.
      asked_lists register asked.filter >>= λ lists. Ok (about place register lists))
      >>= answer_to desk.serial.documents) ≡ Ok answer
      → AnswersAbout desk asked has_table table answer
  unfolding about
  at_place place named (Some register) found h =
      at_register place register named found (has_table register) refl
      (asked_lists register asked.filter) refl h
  at_place place named None found h = absurd (cc)

  at_name : (place : Option ℕ) → register_place asked.name desk.setting.config.registers ≡ place
      → ((some_or place (BadField RegisterField) >>= λ p.
      some_or (slice_get desk.setting.config.registers p) (BadField RegisterField) >>= λ register.
      unless (has_table register) (BadField RegisterField) >>= λ _.
      asked_lists register asked.filter >>= λ lists. Ok (about p register lists))
      >>= answer_to desk.serial.documents) ≡ Ok answer
      → AnswersAbout desk asked has_table table answer
  unfolding about
  at_name (Some place) named h =
      at_place place named (slice_get desk.setting.config.registers place) refl h
  at_name None named h = absurd (cc)

  pub about-answers : question_answer desk.serial.documents
      (question_about desk.setting.config asked has_table table) ≡ Ok answer
      → AnswersAbout desk asked has_table table answer
  unfolding about question_answer question_about
  about-answers h = at_name (register_place asked.name desk.setting.config.registers) refl h

-- a table of a ledger that was asked for, and its answer
pub record AnswersOn (desk : Desk) (ledger : List ℕ) (account : Option (List ℕ))
    (table : Chart → List BookedEntry → Result Answer TableFault) (answer : Answer) : Type 0
  where
    pub asks : AsksLedger desk ledger account
    pub answered : table asks.chart (entries_of asks.place desk.serial.documents) ≡ Ok answer

module _ (desk : Desk) (ledger : List ℕ) (account : Option (List ℕ))
    (table : Chart → List BookedEntry → Result Answer TableFault) (answer : Answer) where
  -- the question about a ledger that was found
  on : ℕ → Chart → Question
  on place chart = about_ledger (record {
    ledger = place;
    answer = λ entries. or_refused (table chart entries);
  })

  at_chart : (place : ℕ) (chart : Chart)
      → ledger_place ledger desk.setting.config.ledgers ≡ Some place
      → slice_get desk.setting.config.ledgers place ≡ Some chart
      → (has : Bool) → has_asked_account chart account ≡ has
      → ((unless has (BadField AccountField) >>= λ _. Ok (on place chart))
      >>= answer_to desk.serial.documents) ≡ Ok answer
      → AnswersOn desk ledger account table answer
  unfolding on answer_to
  at_chart place chart named found true has h = record {
    asks = record { place = place; chart = chart; named = named; found = found; has = has };
    answered = not_refused (table chart (entries_of place desk.serial.documents)) answer h;
  }
  at_chart place chart named found false has h = absurd (cc)

  at_ledger : (place : ℕ) → ledger_place ledger desk.setting.config.ledgers ≡ Some place
      → (found : Option Chart) → slice_get desk.setting.config.ledgers place ≡ found
      → ((some_or found (BadField LedgerField) >>= λ chart.
      unless (has_asked_account chart account) (BadField AccountField) >>= λ _.
      Ok (on place chart)) >>= answer_to desk.serial.documents) ≡ Ok answer
      → AnswersOn desk ledger account table answer
  unfolding on
  at_ledger place named (Some chart) found h =
      at_chart place chart named found (has_asked_account chart account) refl h
  at_ledger place named None found h = absurd (cc)

  at_ledger_name : (place : Option ℕ) → ledger_place ledger desk.setting.config.ledgers ≡ place
      → ((some_or place (BadField LedgerField) >>= λ p.
      some_or (slice_get desk.setting.config.ledgers p) (BadField LedgerField) >>= λ chart.
      unless (has_asked_account chart account) (BadField AccountField) >>= λ _.
      Ok (on p chart)) >>= answer_to desk.serial.documents) ≡ Ok answer
      → AnswersOn desk ledger account table answer
  unfolding on
  at_ledger_name (Some place) named h =
      at_ledger place named (slice_get desk.setting.config.ledgers place) refl h
  at_ledger_name None named h = absurd (cc)

  pub on-answers : question_answer desk.serial.documents
      (question_on desk.setting.config ledger account table) ≡ Ok answer
      → AnswersOn desk ledger account table answer
  unfolding on question_answer question_on
  on-answers h = at_ledger_name (ledger_place ledger desk.setting.config.ledgers) refl h
