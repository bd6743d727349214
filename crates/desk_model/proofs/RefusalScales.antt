-- What a plan is refused with tells no number that wants a scale.
use Rattle.std.proofs.Common.{ℕ, Bool, true, false, cond, Option, Some, None, List, [], ◌∷◌, ◌&&◌}
use Rattle.std.proofs.Common.{filter, length, Result, Ok, Err, IfErr, slice_get, nat_le, ◌+◌}
use Rattle.reg_base.specs.declared.fault.EntryFault.{EntryFault}
use Rattle.reg_base.specs.declared.fault.PostFault.TheVariants.{TooManyRecords}
use Rattle.reg_base.specs.declared.records.Doc.{Doc}
use Rattle.reg_base.specs.declared.records.DocState.{DocState}
use Rattle.reg_base.specs.declared.records.DocState.TheVariants.{Written}
use Rattle.reg_base.specs.declared.records.Document.{Document}
use Rattle.reg_base.specs.declared.records.Sets.{Sets}
use Rattle.reg_base.specs.Results.{◌>>=◌, unless, some_or, none_or, each}
use Rattle.cfg_model.specs.declared.config.Config.{Config}
use Rattle.cfg_model.specs.declared.kind.Field.{Field as KindField}
use Rattle.cfg_model.specs.declared.ledger.Chart.{Chart}
use Rattle.cfg_model.specs.declared.register.Register.{Register}
use Rattle.cfg_model.specs.Entries.{entry_check}
use Rattle.cfg_model.specs.Places.{kind_place, ledger_place, register_place}
use Rattle.desk_words.specs.declared.request.FieldText.{FieldText}
use Rattle.desk_words.specs.declared.request.Manual.{Manual as ManualRequest}
use Rattle.desk_words.specs.declared.request.RecordText.{RecordText}
use Rattle.desk_words.specs.declared.request.RecordText.TheVariants.{Register as InRegister}
use Rattle.desk_words.specs.declared.request.RecordText.TheVariants.{Ledger as InLedger}
use Rattle.desk_words.specs.declared.request.SetText.{SetText}
use Rattle.desk_words.specs.declared.request.Switch.{Switch}
use Rattle.desk_words.specs.declared.request.Write.{Write as WriteRequest}
use Rattle.desk_words.specs.declared.reply.Field.TheVariants.{Space, Values, Sums, Kind, Amount}
use Rattle.desk_words.specs.declared.reply.Field.TheVariants.{Named}
use Rattle.desk_words.specs.declared.reply.Limit.{Limit as LimitOf}
use Rattle.desk_words.specs.declared.reply.Limit.TheVariants.{Documents, Records, Lines, Numbers}
use Rattle.desk_words.specs.declared.reply.Limit.TheVariants.{Journal}
use Rattle.desk_words.specs.declared.reply.Refusal.{Refusal}
use Rattle.desk_words.specs.declared.reply.Refusal.TheVariants.{UnknownDoc, WrongState, BadField}
use Rattle.desk_words.specs.declared.reply.Refusal.TheVariants.{Closed, Limit, Rule}
use Rattle.desk_words.specs.ReplyTexts.{RefusalHasScales}
use Rattle.desk_model.specs.declared.plan.Given.{Given}
use Rattle.desk_model.specs.declared.plan.GivenEntry.{GivenEntry}
use Rattle.desk_model.specs.declared.plan.GivenSet.{GivenSet}
use Rattle.desk_model.specs.declared.plan.GivenSet.TheVariants.{Records as GivenRecords}
use Rattle.desk_model.specs.declared.plan.GivenSet.TheVariants.{Entries as GivenEntries}
use Rattle.desk_model.specs.declared.plan.Plan.{Plan}
use Rattle.desk_model.specs.declared.plan.Source.{Source}
use Rattle.desk_model.specs.declared.plan.Source.TheVariants.{Nothing}
use Rattle.desk_model.specs.declared.plan.Space.{Space as SpaceOf}
use Rattle.desk_model.specs.declared.plan.Space.TheVariants.{Register as OfRegister}
use Rattle.desk_model.specs.declared.plan.Space.TheVariants.{Ledger as OfLedger}
use Rattle.desk_model.specs.State.{State}
use Rattle.desk_model.specs.Plans.{Sight}
use Rattle.desk_model.specs.GivenRecords.{value_in, amount_in, units_in, values_for, takes_mark}
use Rattle.desk_model.specs.GivenRecords.{record_in_register, given_record, entry_in_ledger}
use Rattle.desk_model.specs.GivenRecords.{given_entry}
use Rattle.desk_model.specs.Manuals.{space_or_ledger, space_of, given_set, sets_in, are_distinct}
use Rattle.desk_model.specs.Manuals.{given_sets, plan_manual}
use Rattle.desk_model.specs.States.{named_is_seen, takes, key_is_free, is_open_before}
use Rattle.desk_model.specs.States.{dates_are_open, is_posted_manual, is_marked, takes_switch}
use Rattle.desk_model.specs.States.{plan_mark, plan_activity, plan_sweep}
use Rattle.desk_model.specs.Fields.{cell_of, is_field, unknown_field, cells_of}
use Rattle.desk_model.specs.Writes.{is_written_kind, keeps_kind, kind_of_request, content_of}
use Rattle.desk_model.specs.Writes.{plan_content, plan_write}
use Rattle.desk_model.specs.Entries.{most_entries, is_entry_made, or_entry_fault, entry_at}
use Rattle.desk_model.specs.Entries.{entries_from, entry_set}
use Rattle.desk_model.specs.RecordSets.{most_records, is_made, record_set, with_set, with_given}
use Rattle.desk_model.specs.Limits.{within_limit, records_with, most_kept_records, records_limit}
use Rattle.desk_model.specs.Limits.{most_documents, documents_with_plan, most_lines, number_is_left}
use Rattle.desk_model.specs.Limits.{greatest_number, limits_of}
use Rattle.desk_model.specs.Journals.{entry_limit, longer, most_entry, most_journal}
use Rattle.desk_model.proofs.ErrorLemmas.{IfErr-then, IfErr-unless, IfErr-some_or, IfErr-each}

-- what is tried is refused, if it is, without a number that wants a scale
abbrev pub Plainly : {X : Type 0} → Result X Refusal → Type 0
Plainly tried = IfErr tried RefusalHasScales

-- one after another, a test, and a value that is there
pub then : {X Y : Type 0} (first : Result X Refusal) (next : X → Result Y Refusal) → Plainly first →
    ((x : X) → Plainly (next x)) → Plainly (first >>= next)
then = IfErr-then RefusalHasScales

pub test : (b : Bool) (refusal : Refusal) → RefusalHasScales refusal → Plainly (unless b refusal)
test = IfErr-unless RefusalHasScales

pub there : {X : Type 0} (value : Option X) (refusal : Refusal) → RefusalHasScales refusal →
    Plainly (some_or value refusal)
there = IfErr-some_or RefusalHasScales

-- ---- records given by hand

given_record-plainly : (register : Register) (text : RecordText) →
    Plainly (given_record register text)
unfolding given_record record_in_register
given_record-plainly register (InLedger text) = tt
given_record-plainly register (InRegister text) =
    then (some_or (values_for value_in register.dimensions text.values) (BadField Values)) _
    (there _ (BadField Values) tt)
    (λ values. then
    (some_or (values_for amount_in register.resources text.sums) (BadField Sums)) _
    (there _ (BadField Sums) tt)
    (λ sums. then (unless (takes_mark register text.mark) (BadField Kind)) _
    (test _ (BadField Kind) tt) (λ u. tt)))

given_entry-plainly : (chart : Chart) (text : RecordText) → Plainly (given_entry chart text)
unfolding given_entry entry_in_ledger
given_entry-plainly chart (InRegister text) = tt
given_entry-plainly chart (InLedger text) =
    then (some_or (units_in chart.scale text.amount) (BadField Amount)) _
    (there _ (BadField Amount) tt) (λ amount. tt)

given_set-plainly : (config : Config) (space : SpaceOf) (set : SetText) →
    Plainly (given_set config space set)
unfolding given_set
given_set-plainly config (OfRegister place) set =
    then (some_or (slice_get config.registers place) (BadField Space)) _
    (there _ (BadField Space) tt)
    (λ register. then (each (given_record register) set.records) _
    (IfErr-each RefusalHasScales (given_record register) (given_record-plainly register)
    set.records) (λ records. tt))
given_set-plainly config (OfLedger place) set =
    then (some_or (slice_get config.ledgers place) (BadField Space)) _
    (there _ (BadField Space) tt)
    (λ chart. then (each (given_entry chart) set.records) _
    (IfErr-each RefusalHasScales (given_entry chart) (given_entry-plainly chart) set.records)
    (λ entries. tt))

sets_in-plainly : (config : Config) (spaces : List SpaceOf) (sets : List SetText) →
    Plainly (sets_in config spaces sets)
sets_in-plainly config [] sets = tt
sets_in-plainly config (space ∷ spaces) [] = tt
sets_in-plainly config (space ∷ spaces) (set ∷ sets) =
    then (given_set config space set) _ (given_set-plainly config space set)
    (λ given. then (sets_in config spaces sets) _ (sets_in-plainly config spaces sets)
    (λ more. tt))

space_of-plainly : (config : Config) (set : SetText) → Plainly (space_of config set)
unfolding space_of
space_of-plainly config set =
    there (space_or_ledger (register_place set.space config.registers)
    (ledger_place set.space config.ledgers)) (BadField Space) tt

given_sets-plainly : (config : Config) (sets : List SetText) → Plainly (given_sets config sets)
unfolding given_sets
given_sets-plainly config sets =
    then (each (space_of config) sets) _
    (IfErr-each RefusalHasScales (space_of config) (space_of-plainly config) sets)
    (λ spaces. then (sets_in config spaces sets) _ (sets_in-plainly config spaces sets)
    (λ given. then (unless (are_distinct spaces) (BadField Space)) _
    (test _ (BadField Space) tt) (λ u. tt)))

-- ---- what all changes ask

pub named_is_seen-plainly : (doc : Option ℕ) (before : Option Document) →
    Plainly (named_is_seen doc before)
named_is_seen-plainly None before = tt
named_is_seen-plainly (Some number) (Some d) = tt
named_is_seen-plainly (Some number) None = tt

pub takes-plainly : (of : Doc → Bool) (before : Option Document) → Plainly (takes of before)
takes-plainly of None = tt
takes-plainly of (Some d) = test (of d.doc) (WrongState d.doc.state) tt

key_is_free-plainly : (holder : Option ℕ) → Plainly (key_is_free holder)
key_is_free-plainly None = tt
key_is_free-plainly (Some holder) = tt

dates_are_open-plainly : (closed : ℕ) (before : Option Document) (date : ℕ) →
    Plainly (dates_are_open closed before date)
dates_are_open-plainly closed before date =
    test (is_open_before closed before && nat_le closed date) (Closed closed) tt

-- ---- plans

pub plan_manual-plainly : (config : Config) (m : ManualRequest) (sight : Sight) →
    Plainly (plan_manual config m sight)
unfolding plan_manual
plan_manual-plainly config m sight =
    then (named_is_seen m.doc sight.before) _ (named_is_seen-plainly m.doc sight.before)
    (λ u. then (takes is_posted_manual sight.before) _
    (takes-plainly is_posted_manual sight.before)
    (λ v. then (given_sets config m.sets) _ (given_sets-plainly config m.sets)
    (λ given. then (key_is_free sight.holder) _ (key_is_free-plainly sight.holder)
    (λ w. then (dates_are_open sight.closed sight.before m.date) _
    (dates_are_open-plainly sight.closed sight.before m.date) (λ x. tt)))))

unknown_field-plainly : (fields : List KindField) (texts : List FieldText) →
    Plainly (none_or (unknown_field fields texts))
unknown_field-plainly fields [] = tt
unknown_field-plainly fields (t ∷ ts) =
    at (is_field fields t.name) (unknown_field-plainly fields ts)
  where
    at : (b : Bool) → Plainly (none_or (unknown_field fields ts)) →
        Plainly (none_or
        (cond b (unknown_field fields ts) (Some (BadField (Named t.name)))))
    at true rest = rest
    at false rest = tt

cells_of-plainly : (fields : List KindField) (texts : List FieldText) →
    Plainly (cells_of fields texts)
unfolding cells_of
cells_of-plainly fields texts =
    then (each (cell_of texts) fields) _
    (IfErr-each RefusalHasScales (cell_of texts)
    (λ field. there _ (BadField (Named field.name)) tt) fields)
    (λ cells. then (none_or (unknown_field fields texts)) _ (unknown_field-plainly fields texts)
    (λ u. tt))

kind_of_request-plainly : (config : Config) (name : List ℕ) (before : Option Document) →
    Plainly (kind_of_request config name before)
unfolding kind_of_request
kind_of_request-plainly config name before =
    then (some_or (kind_place name config.kinds) (BadField Kind)) _
    (there _ (BadField Kind) tt)
    (λ place. then (unless (keeps_kind place before) (BadField Kind)) _
    (test _ (BadField Kind) tt) (λ u. tt))

content_of-plainly : (config : Config) (w : WriteRequest) (before : Option Document) →
    Plainly (content_of config w before)
unfolding content_of
content_of-plainly config w before =
    then (kind_of_request config w.kind before) _
    (kind_of_request-plainly config w.kind before)
    (λ place. then (some_or (slice_get config.kinds place) (BadField Kind)) _
    (there _ (BadField Kind) tt)
    (λ kind. then (cells_of kind.head w.head) _ (cells_of-plainly kind.head w.head)
    (λ head. then (each (cells_of kind.lines) w.lines) _
    (IfErr-each RefusalHasScales (cells_of kind.lines) (cells_of-plainly kind.lines) w.lines)
    (λ lines. tt))))

pub plan_content-plainly : (state : DocState) (source : Source) (config : Config)
    (w : WriteRequest) (sight : Sight) → Plainly (plan_content state source config w sight)
unfolding plan_content
plan_content-plainly state source config w sight =
    then (content_of config w sight.before) _ (content_of-plainly config w sight.before)
    (λ content. then (key_is_free sight.holder) _ (key_is_free-plainly sight.holder)
    (λ x. then (dates_are_open sight.closed sight.before w.date) _
    (dates_are_open-plainly sight.closed sight.before w.date) (λ y. tt)))

pub plan_write-plainly : (config : Config) (w : WriteRequest) (sight : Sight) →
    Plainly (plan_write config w sight)
unfolding plan_write
plan_write-plainly config w sight =
    then (named_is_seen w.doc sight.before) _ (named_is_seen-plainly w.doc sight.before)
    (λ u. then (takes is_written_kind sight.before) _
    (takes-plainly is_written_kind sight.before)
    (λ v. plan_content-plainly Written Nothing config w sight))

pub plan_mark-plainly : (m : Switch) (sight : Sight) → Plainly (plan_mark m sight)
unfolding plan_mark
plan_mark-plainly m sight =
    then (some_or sight.before UnknownDoc) _ (there _ UnknownDoc tt)
    (λ d. then (unless (takes_switch m.on d.doc) (WrongState d.doc.state)) _
    (test _ (WrongState d.doc.state) tt)
    (λ u. then (unless (nat_le sight.closed d.doc.date) (Closed sight.closed)) _
    (test _ (Closed sight.closed) tt) (λ v. tt)))

pub plan_activity-plainly : (m : Switch) (sight : Sight) → Plainly (plan_activity m sight)
unfolding plan_activity
plan_activity-plainly m sight =
    then (some_or sight.before UnknownDoc) _ (there _ UnknownDoc tt)
    (λ d. then (unless (is_posted_manual d.doc) (WrongState d.doc.state)) _
    (test _ (WrongState d.doc.state) tt)
    (λ u. then (unless (nat_le sight.closed d.doc.date) (Closed sight.closed)) _
    (test _ (Closed sight.closed) tt) (λ v. tt)))

pub plan_sweep-plainly : (sight : Sight) → Plainly (plan_sweep sight)
unfolding plan_sweep
plan_sweep-plainly sight =
    then (some_or sight.before UnknownDoc) _ (there _ UnknownDoc tt)
    (λ d. then (unless (is_marked d.doc.state) (WrongState d.doc.state)) _
    (test _ (WrongState d.doc.state) tt)
    (λ u. then (unless (nat_le sight.closed d.doc.date) (Closed sight.closed)) _
    (test _ (Closed sight.closed) tt) (λ v. tt)))

-- ---- limits

within_limit-plainly : (which : LimitOf) (count most : ℕ) →
    Plainly (within_limit which count most)
within_limit-plainly which count most = test (nat_le count most) (Limit which most) tt

records_limit-plainly : (state : State) (sight : Sight)
    (made : Result (Option Document) Refusal) → Plainly (records_limit state sight made)
records_limit-plainly state sight (Ok after) =
    within_limit-plainly Records (records_with state sight after) most_kept_records
records_limit-plainly state sight (Err refusal) = tt

pub limits_of-plainly : (state : State) (sight : Sight) (plan : Plan)
    (made : Result (Option Document) Refusal) → Plainly (limits_of state sight plan made)
unfolding limits_of
limits_of-plainly state sight plan made =
    then (within_limit Documents (documents_with_plan state sight) most_documents) _
    (within_limit-plainly Documents (documents_with_plan state sight) most_documents)
    (λ u. then (records_limit state sight made) _ (records_limit-plainly state sight made)
    (λ v. then (within_limit Lines (length plan.doc.lines) most_lines) _
    (within_limit-plainly Lines (length plan.doc.lines) most_lines)
    (λ w. test (number_is_left state sight) (Limit Numbers greatest_number) tt)))

pub entry_limit-plainly : (journal count : ℕ) → Plainly (entry_limit journal count)
unfolding entry_limit
entry_limit-plainly journal count =
    then (within_limit Journal count most_entry) _ (within_limit-plainly Journal count most_entry)
    (λ u. within_limit-plainly Journal (longer journal count) most_journal)

-- ---- records that are made

record_set-plainly : (date : ℕ) (given : List Given) → Plainly (record_set date given)
unfolding record_set
record_set-plainly date given =
    then (unless (nat_le (length (filter is_made given)) most_records) (Rule TooManyRecords None)) _
    (test _ (Rule TooManyRecords None) tt) (λ u. tt)

or_entry_fault-plainly : (line : ℕ) (checked : Result (Unit {0}) EntryFault) →
    Plainly (or_entry_fault line checked)
or_entry_fault-plainly line (Ok u) = tt
or_entry_fault-plainly line (Err fault) = tt

entry_at-plainly : (chart : Chart) (date line : ℕ) (given : GivenEntry) →
    Plainly (entry_at chart date line given)
unfolding entry_at
entry_at-plainly chart date line given =
    then (or_entry_fault line (entry_check chart given.debit given.credit)) _
    (or_entry_fault-plainly line (entry_check chart given.debit given.credit))
    (λ u. then (unless (nat_le line most_entries) (Rule TooManyRecords None)) _
    (test _ (Rule TooManyRecords None) tt) (λ v. tt))

entries_from-plainly : (chart : Chart) (date line : ℕ) (given : List GivenEntry) →
    Plainly (entries_from chart date line given)
entries_from-plainly chart date line [] = tt
entries_from-plainly chart date line (g ∷ gs) =
    then (entry_at chart date line g) _ (entry_at-plainly chart date line g)
    (λ entry. then (entries_from chart date (line + 1) gs) _
    (entries_from-plainly chart date (line + 1) gs) (λ entries. tt))

entry_set-plainly : (chart : Option Chart) (date : ℕ) (given : List GivenEntry) →
    Plainly (entry_set chart date given)
entry_set-plainly None date given = tt
entry_set-plainly (Some chart) date given =
    entries_from-plainly chart date 1 (filter is_entry_made given)

with_set-plainly : (config : Config) (date : ℕ) (sets : Sets) (given : GivenSet) →
    Plainly (with_set config date sets given)
with_set-plainly config date sets (GivenRecords place given) =
    then (record_set date given) _ (record_set-plainly date given) (λ records. tt)
with_set-plainly config date sets (GivenEntries place given) =
    then (entry_set (slice_get config.ledgers place) date given) _
    (entry_set-plainly (slice_get config.ledgers place) date given) (λ entries. tt)

pub with_given-plainly : (config : Config) (date : ℕ) (sets : Sets) (given : List GivenSet) →
    Plainly (with_given config date sets given)
with_given-plainly config date sets [] = tt
with_given-plainly config date sets (set ∷ more) =
    then (with_set config date sets set) _ (with_set-plainly config date sets set)
    (λ made. with_given-plainly config date made more)
