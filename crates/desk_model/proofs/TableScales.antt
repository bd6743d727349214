-- Each number that a table or a shown document prints has its scale.
use Rattle.std.proofs.Common.{◌≡◌, ℕ, suc, ℤ, pos, Bool, true, false, nat_le, cond, Option, Some}
use Rattle.std.proofs.Common.{None, option_map, unwrap_or, slice_get, List, [], ◌∷◌, map, length}
use Rattle.std.proofs.Common.{Result, Ok, Err, IfErr, IfOk, refl, ap, subst, ◌∙◌, sym, arith}
use Rattle.std.proofs.Common.{All, get_or}
use Rattle.std.specs.List.{find}
use Rattle.std.specs.Str.{bytes_eq}
use Rattle.std.proofs.lemmas.List.{length-map}
use Rattle.std.proofs.lemmas.List.Elements.{All-filter, All-map}
use Rattle.std.proofs.lemmas.List.FromFn.{length-map-range_with_len}
use Rattle.reg_base.specs.declared.records.Document.{Document}
use Rattle.reg_base.specs.declared.records.Rec.{Rec}
use Rattle.reg_base.specs.declared.records.SumRow.{SumRow}
use Rattle.reg_base.specs.declared.cut.Cut.{Cut}
use Rattle.reg_base.specs.declared.cut.Cut.TheVariants.{Now}
use Rattle.reg_base.specs.declared.tables.AskedList.{AskedList}
use Rattle.reg_base.specs.declared.tables.Method.{Method}
use Rattle.reg_base.specs.declared.tables.Method.TheVariants.{Movements}
use Rattle.reg_base.specs.declared.tables.Periodicity.{Periodicity}
use Rattle.reg_base.specs.declared.tables.Range.{Range}
use Rattle.reg_base.specs.declared.tables.Row.{Row}
use Rattle.reg_base.specs.declared.fault.TableFault.{TableFault}
use Rattle.reg_base.specs.declared.fault.TableFault.TheVariants.{BadRange, TooManyRows}
use Rattle.reg_base.specs.declared.fault.TableFault.TheVariants.{UnknownField}
use Rattle.reg_base.specs.Documents.{document_at}
use Rattle.reg_base.specs.Results.{◌>>=◌, unless, some_or, none_or}
use Rattle.reg_base.specs.Records.{Booked, amount_at, records_within, records_of, chosen_records}
use Rattle.reg_base.specs.BookedEntries.{BookedEntry}
use Rattle.reg_base.specs.Balances.{sum_rows, row_of, groups_of, is_shown, total}
use Rattle.reg_base.specs.Sums.{sum_over, in_order_once, plus_each}
use Rattle.reg_base.specs.Turnovers.{RowKey, key_cmp, key_of, in_range, receipt_at, expense_at}
use Rattle.reg_base.specs.Turnovers.{sums_where, is_of, turnover_row, has_movement, turnover_rows}
use Rattle.reg_base.specs.Turnovers.{before_unit, edge_units, both_keys, both_row}
use Rattle.reg_base.specs.Turnovers.{stands, both_rows}
use Rattle.reg_base.specs.Turnovers.{row_limit, limited_rows, table_of}
use Rattle.cfg_model.specs.declared.config.Config.{Config}
use Rattle.cfg_model.specs.declared.ledger.Chart.{Chart}
use Rattle.cfg_model.specs.declared.register.Dimension.{Dimension}
use Rattle.cfg_model.specs.declared.register.Register.{Register}
use Rattle.cfg_model.specs.declared.register.Resource.{Resource}
use Rattle.cfg_model.specs.Places.{register_place, ledger_place}
use Rattle.cfg_model.specs.Asks.{wrong_name, filter_with, group_places}
use Rattle.desk_words.specs.declared.request.FilterText.{FilterText}
use Rattle.desk_words.specs.declared.request.Balance.{Balance as BalanceRequest}
use Rattle.desk_words.specs.declared.request.DocQuestion.{DocQuestion as DocRequest}
use Rattle.desk_words.specs.declared.tables.AskedRegister.{AskedRegister}
use Rattle.desk_words.specs.declared.tables.Turnovers.{Turnovers as TurnoversRequest}
use Rattle.desk_words.specs.declared.tables.Both.{Both as BothRequest}
use Rattle.desk_words.specs.declared.tables.AccountBalance.{AccountBalance as AccountBalanceRequest}
use Rattle.desk_words.specs.declared.tables.AccountTurnovers.{AccountTurnovers as AccountRequest}
use Rattle.desk_words.specs.declared.tables.DrCr.{DrCr as PairsRequest}
use Rattle.desk_words.specs.declared.tables.DocumentsQuestion.{DocumentsQuestion}
use Rattle.desk_words.specs.declared.reply.Answer.{Answer}
use Rattle.desk_words.specs.declared.reply.Answer.TheVariants.{Balance as BalanceAnswer, Shown}
use Rattle.desk_words.specs.declared.reply.Answer.TheVariants.{Turnovers as TurnoversAnswer}
use Rattle.desk_words.specs.declared.reply.Answer.TheVariants.{Both as BothAnswer, AccountBalance}
use Rattle.desk_words.specs.declared.reply.Answer.TheVariants.{AccountTurnovers, AccountBoth, DrCr}
use Rattle.desk_words.specs.declared.reply.Answer.TheVariants.{Documents as DocumentsAnswer}
use Rattle.desk_words.specs.declared.reply.Refusal.{Refusal}
use Rattle.desk_words.specs.declared.reply.Refusal.TheVariants.{UnknownDoc, BadField}
use Rattle.desk_words.specs.declared.reply.Field.TheVariants.{Register as RegisterField, Named}
use Rattle.desk_words.specs.declared.reply.Field.TheVariants.{Ledger as LedgerField}
use Rattle.desk_words.specs.declared.reply.Field.TheVariants.{Account as AccountField}
use Rattle.desk_words.specs.ReplyTexts.{AnswerHasScales, RefusalHasScales}
use Rattle.desk_words.specs.RowTexts.{HasNumbers, HasBoth, turnovers_table}
use Rattle.desk_model.specs.State.{State}
use Rattle.desk_model.specs.Effects.{Effect}
use Rattle.desk_model.specs.Plans.{Question}
use Rattle.desk_model.specs.Shown.{shown_document}
use Rattle.desk_model.specs.GivenRecords.{value_in}
use Rattle.desk_model.specs.Questions.{answering, or_refused, range_of, question_doc}
use Rattle.desk_model.specs.Questions.{question_documents}
use Rattle.desk_model.specs.RegisterQuestions.{values_in, asked_value, asked_list, asked_lists}
use Rattle.desk_model.specs.RegisterQuestions.{named_table, question_about, scales_of}
use Rattle.desk_model.specs.RegisterQuestions.{balance_answer}
use Rattle.desk_model.specs.RegisterQuestions.{turnovers_answer, both_answer, question_balance}
use Rattle.desk_model.specs.RegisterQuestions.{question_turnovers, question_both}
use Rattle.desk_model.specs.LedgerQuestions.{question_on, has_asked_account}
use Rattle.desk_model.specs.LedgerQuestions.{question_account_balance, question_account_turnovers}
use Rattle.desk_model.specs.LedgerQuestions.{question_account_both, question_pairs}
use Rattle.desk_model.specs.Serial.{answer_effect, answer_to, question_answer, question_effect}
use Rattle.desk_model.proofs.ErrorLemmas.{IfOk-last, IfErr-each}
use Rattle.desk_model.proofs.RefusalScales.{Plainly, then, test, there}

-- an answer and a refusal have scales
pub record AreFine (tried : Result Effect Refusal) : Type 0 where
  pub answer : IfOk tried (λ effect. AnswerHasScales effect.answer)
  pub refusal : IfErr tried RefusalHasScales

-- what is answered has scales, or is refused without a number that wants one
record IsGood (tried : Result Answer Refusal) : Type 0 where
  answer : IfOk tried AnswerHasScales
  refusal : Plainly tried

-- what a question answers is good, and what refuses it is
question-fine : (state : State) (question : Result Question Refusal)
    → IfOk question (λ q. IsGood (answer_to state.documents q)) → Plainly question
    → AreFine (question_effect state question)
unfolding question_effect question_answer
question-fine state (Ok q) good plain = at (answer_to state.documents q) good
  where
    at : (tried : Result Answer Refusal) → IsGood tried
        → AreFine (tried >>= λ a. Ok (answer_effect state a))
    at (Ok a) g = record { answer = g.answer; refusal = tt }
    at (Err refusal) g = record { answer = tt; refusal = g.refusal }
question-fine state (Err refusal) good plain = record { answer = tt; refusal = plain }

-- ---- tables of registers

-- rows that answer with their scales
answering-fine : {R : Type 0} (shown : List R → Answer) (rows : List R)
    → AnswerHasScales (shown rows) → IfOk (answering shown (limited_rows rows)) AnswerHasScales
answering-fine shown rows fine = at (nat_le (length rows) row_limit)
  where
    at : (b : Bool) → IfOk ((unless b (TooManyRows row_limit) >>= λ _. Ok rows)
        >>= λ found. Ok (shown found)) AnswerHasScales
    at true = fine
    at false = tt

ranged-fine : {R : Type 0} (range : Range) (shown : List R → Answer) (rows : List R)
    → AnswerHasScales (shown rows) → IfOk (answering shown (table_of range rows)) AnswerHasScales
ranged-fine range shown rows fine = at (nat_le range.from range.to)
  where
    at : (b : Bool) → IfOk ((unless b (BadRange range.from range.to) >>= λ _. limited_rows rows)
        >>= λ found. Ok (shown found)) AnswerHasScales
    at true = answering-fine shown rows fine
    at false = tt

or_refused-good : (tried : Result Answer TableFault) → IfOk tried AnswerHasScales
    → IsGood (or_refused tried)
or_refused-good (Ok a) fine = record { answer = fine; refusal = tt }
or_refused-good (Err fault) fine = record { answer = tt; refusal = tt }

asked_list-plainly : (register : Register) (text : FilterText)
    → Plainly (asked_list register text)
unfolding asked_list asked_value
asked_list-plainly register text =
    then (values_in dimension text.values) _ (at dimension) (λ values. tt)
  where
    dimension : Option Dimension
    dimension = find (λ d. bytes_eq d.name text.name) register.dimensions

    at : (d : Option Dimension) → Plainly (values_in d text.values)
    at None = tt
    at (Some d) = IfErr-each RefusalHasScales (asked_value d)
        (λ t. there (value_in d t) (BadField (Named d.name)) tt) text.values

module _ (config : Config) (state : State) (asked : AskedRegister)
    (has_table : Register → Bool)
    (table : Register → Option (List ℕ) → List Booked → Result Answer TableFault)
    (fine : (register : Register) (group : Option (List ℕ)) (records : List Booked)
    → IfOk (table register group records) AnswerHasScales) where
  about-good : IfOk (question_about config asked has_table table)
      (λ q. IsGood (answer_to state.documents q))
  unfolding question_about answer_to
  about-good =
      IfOk-last Good (some_or (register_place asked.name config.registers) _) _
      (λ place. IfOk-last Good (some_or (slice_get config.registers place) _) _
      (λ register. IfOk-last Good (unless (has_table register) _) _
      (λ u. IfOk-last Good (asked_lists register asked.filter) _
      (λ lists. or_refused-good (named_table register lists asked.group
      (λ group. table register group (found place register lists)))
      (IfOk-last AnswerHasScales
      (none_or (option_map UnknownField (wrong_name register lists asked.group))) _
      (λ known. fine register (group_places register asked.group)
      (found place register lists)))))))
    where
      found : ℕ → Register → List AskedList → List Booked
      found place register lists =
          chosen_records (filter_with register lists) (records_of place state.documents)

      Good : Question → Type 0
      Good q = IsGood (answer_to state.documents q)

  about-plainly : Plainly (question_about config asked has_table table)
  unfolding question_about
  about-plainly =
      then (some_or (register_place asked.name config.registers) (BadField RegisterField)) _
      (there _ (BadField RegisterField) tt)
      (λ place. then (some_or (slice_get config.registers place) (BadField RegisterField)) _
      (there _ (BadField RegisterField) tt)
      (λ register. then (unless (has_table register) (BadField RegisterField)) _
      (test _ (BadField RegisterField) tt)
      (λ u. then (asked_lists register asked.filter) _
      (IfErr-each RefusalHasScales (asked_list register) (asked_list-plainly register)
      (unwrap_or asked.filter [])) (λ lists. tt))))

  about-fine : AreFine (question_effect state (question_about config asked has_table table))
  about-fine = question-fine state (question_about config asked has_table table) about-good
      about-plainly

-- what holds of everything holds of each element
always : {X : Type 0} (P : X → Type 0) → ((x : X) → P x) → (xs : List X) → All P xs
always P h xs = λ k d below. h (get_or xs k d)

-- as many scales as resources
scales-length : (register : Register) → length register.resources ≡ length (scales_of register)
scales-length register = sym (length-map register.resources (λ (r : Resource). r.scale))

-- a row of a balance has a sum for each resource
balance-scales : (cut : Cut) (register : Register) (group : Option (List ℕ))
    (records : List Booked) → IfOk (balance_answer cut register group records) AnswerHasScales
unfolding sum_rows
balance-scales cut register group records =
    let n = length register.resources in
    let inside = records_within cut records in
    let P : SumRow → Type 0 = λ row. length row.sums ≡ length (scales_of register) in
    answering-fine (λ rows. BalanceAnswer rows (scales_of register)) (sum_rows n group inside)
    (All-filter is_shown P (map (row_of n group inside) (groups_of group inside))
    (All-map P (row_of n group inside) (groups_of group inside)
    (λ k d below. length-map-range_with_len (total group _ inside) 0 n
    ∙ scales-length register)))

-- so many numbers, one for each resource
sums_where-length : (n : ℕ) (test : Booked → Bool) (amount : ℕ → Rec → ℤ) (records : List Booked)
    → length (sums_where n test amount records) ≡ n
sums_where-length n test amount records = length-map-range_with_len
    (λ j. sum_over (λ b. cond (test b) (amount j b.rec) (pos 0)) records) 0 n

turnover-numbers : (balances : Bool) (n : ℕ) (group : Option (List ℕ)) (by : Periodicity)
    (records : List Booked) (key : RowKey)
    → HasNumbers (turnovers_table balances) n (turnover_row balances n group by records key)
turnover-numbers true n group by records key = record {
  receipt = sums_where-length n (is_of group by key) receipt_at records;
  expense = sums_where-length n (is_of group by key) expense_at records;
  turnover = sums_where-length n (is_of group by key) amount_at records;
}
turnover-numbers false n group by records key =
    sums_where-length n (is_of group by key) amount_at records

turnovers-scales : (range : Range) (register : Register) (group : Option (List ℕ))
    (records : List Booked)
    → IfOk (turnovers_answer range register group records) AnswerHasScales
unfolding turnover_rows
turnovers-scales range register group records =
    let n = length register.resources in
    let moved = in_range range records in
    let keys = in_order_once key_cmp (map (key_of group range.by) moved) in
    let row = turnover_row register.balance n group range.by moved in
    let P : Row → Type 0 = HasNumbers (turnovers_table register.balance)
    (length (scales_of register)) in
    ranged-fine range (λ rows. TurnoversAnswer register.balance rows (scales_of register))
    (turnover_rows register.balance n group range.by moved)
    (All-filter has_movement P (map row keys) (All-map P row keys (always (λ key. P (row key))
    (λ key. subst (λ m. HasNumbers (turnovers_table register.balance) m (row key))
    (scales-length register)
    (turnover-numbers register.balance n group range.by moved key)) keys)))

plus_each-length : (xs ys : List ℤ) → length xs ≡ length ys → length (plus_each xs ys) ≡ length xs
plus_each-length [] ys h = refl
plus_each-length (x ∷ xs) [] h = absurd (omega (arith, h))
plus_each-length (x ∷ xs) (y ∷ ys) h = ap suc (plus_each-length xs ys (omega (arith, h)))

both-numbers : (n : ℕ) (group : Option (List ℕ)) (range : Range) (records : List Booked)
    (key : RowKey) → HasBoth n (both_row n group range records key)
both-numbers n group range records key = record {
  opening = opening;
  receipt = sums_where-length n (is_of group range.by key) receipt_at moved;
  expense = sums_where-length n (is_of group range.by key) expense_at moved;
  turnover = turnover;
  closing = plus_each-length _ _ (opening ∙ sym turnover) ∙ opening;
}
  where
    moved : List Booked
    moved = in_range range records

    turnover : length (sums_where n (is_of group range.by key) amount_at moved) ≡ n
    turnover = sums_where-length n (is_of group range.by key) amount_at moved

    opening : length (row_of n group (before_unit range key.unit records) key.group).sums ≡ n
    opening = length-map-range_with_len
        (total group key.group (before_unit range key.unit records)) 0 n

both-scales : (method : Method) (range : Range) (register : Register) (group : Option (List ℕ))
    (records : List Booked)
    → IfOk (both_answer method range register group records) AnswerHasScales
unfolding both_rows
both-scales method range register group records =
    let n = length register.resources in
    let keys = both_keys group range method records in
    let row = both_row n group range records in
    let P : Row → Type 0 = HasBoth (length (scales_of register)) in
    ranged-fine range (λ rows. BothAnswer rows (scales_of register))
    (both_rows n group range method records)
    (All-filter (stands (edge_units method range)) P (map row keys) (All-map P row keys
    (always (λ key. P (row key)) (λ key. subst (λ m. HasBoth m (row key))
    (scales-length register) (both-numbers n group range records key)) keys)))

-- ---- tables of ledgers

module _ (config : Config) (state : State) (ledger : List ℕ) (account : Option (List ℕ))
    (table : Chart → List BookedEntry → Result Answer TableFault)
    (fine : (chart : Chart) (entries : List BookedEntry)
    → IfOk (table chart entries) AnswerHasScales) where
  on-good : IfOk (question_on config ledger account table)
      (λ q. IsGood (answer_to state.documents q))
  unfolding question_on answer_to
  on-good =
      IfOk-last Good (some_or (ledger_place ledger config.ledgers) _) _
      (λ place. IfOk-last Good (some_or (slice_get config.ledgers place) _) _
      (λ chart. IfOk-last Good (unless (has_asked_account chart account) _) _
      (λ u. or_refused-good (table chart _) (fine chart _))))
    where
      Good : Question → Type 0
      Good q = IsGood (answer_to state.documents q)

  on-plainly : Plainly (question_on config ledger account table)
  unfolding question_on
  on-plainly =
      then (some_or (ledger_place ledger config.ledgers) (BadField LedgerField)) _
      (there _ (BadField LedgerField) tt)
      (λ place. then (some_or (slice_get config.ledgers place) (BadField LedgerField)) _
      (there _ (BadField LedgerField) tt)
      (λ chart. then (unless (has_asked_account chart account) (BadField AccountField)) _
      (test _ (BadField AccountField) tt) (λ u. tt)))

  on-fine : AreFine (question_effect state (question_on config ledger account table))
  on-fine = question-fine state (question_on config ledger account table) on-good on-plainly

-- ---- documents

pub doc-fine : (config : Config) (state : State) (q : DocRequest)
    → AreFine (question_effect state (question_doc config q))
unfolding answer_to
doc-fine config state q = question-fine state (question_doc config q) good tt
  where
    at : (found : Option Document) → IsGood (some_or found UnknownDoc
        >>= λ d. Ok (Shown (shown_document config d)))
    at (Some d) = record { answer = tt; refusal = tt }
    at None = record { answer = tt; refusal = tt }

    good : IfOk (question_doc config q) (λ a. IsGood (answer_to state.documents a))
    good = at (document_at q.doc state.documents)

pub documents-fine : (config : Config) (state : State) (q : DocumentsQuestion)
    → AreFine (question_effect state (question_documents config q))
unfolding answer_to
documents-fine config state q = question-fine state (question_documents config q)
    (or_refused-good _ (answering-fine DocumentsAnswer _ tt)) tt

-- ---- the question of each request

pub balance-fine : (config : Config) (state : State) (b : BalanceRequest)
    → AreFine (question_effect state (question_balance config b))
unfolding question_balance
balance-fine config state b = about-fine config state b.register _ _
    (balance-scales (unwrap_or b.cut Now))

pub turnovers-fine : (config : Config) (state : State) (t : TurnoversRequest)
    → AreFine (question_effect state (question_turnovers config t))
unfolding question_turnovers
turnovers-fine config state t = about-fine config state t.register _ _
    (turnovers-scales (range_of t.dates t.by))

pub both-fine : (config : Config) (state : State) (b : BothRequest)
    → AreFine (question_effect state (question_both config b))
unfolding question_both
both-fine config state b = about-fine config state b.turnovers.register _ _
    (both-scales (unwrap_or b.method Movements)
    (range_of b.turnovers.dates b.turnovers.by))

pub account_balance-fine : (config : Config) (state : State) (b : AccountBalanceRequest)
    → AreFine (question_effect state (question_account_balance config b))
unfolding question_account_balance
account_balance-fine config state b =
    on-fine config state b.accounts.ledger b.accounts.account _
    (λ chart entries. answering-fine (λ rows. AccountBalance rows chart.scale) _ tt)

pub account_turnovers-fine : (config : Config) (state : State) (t : AccountRequest)
    → AreFine (question_effect state (question_account_turnovers config t))
unfolding question_account_turnovers
account_turnovers-fine config state t =
    on-fine config state t.accounts.ledger t.accounts.account _
    (λ chart entries. ranged-fine (range_of t.dates t.by)
    (λ rows. AccountTurnovers rows chart.scale) _ tt)

pub account_both-fine : (config : Config) (state : State) (t : AccountRequest)
    → AreFine (question_effect state (question_account_both config t))
unfolding question_account_both
account_both-fine config state t =
    on-fine config state t.accounts.ledger t.accounts.account _
    (λ chart entries. ranged-fine (range_of t.dates t.by)
    (λ rows. AccountBoth rows chart.scale) _ tt)

pub pairs-fine : (config : Config) (state : State) (q : PairsRequest)
    → AreFine (question_effect state (question_pairs config q))
unfolding question_pairs
pairs-fine config state q =
    on-fine config state q.ledger q.account _
    (λ chart entries. ranged-fine (range_of q.dates None) (λ rows. DrCr rows chart.scale) _ tt)
