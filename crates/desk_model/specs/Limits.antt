-- What a desk keeps at the most.
use Rattle.std.specs.Prelude.{ℕ, ◌+◌, ◌-◌, Bool, true, nat_le, if◌then◌else◌, Option, Some, None}
use Rattle.std.specs.Prelude.{is_none, List, length, Result, Ok, Err}
use Rattle.std.specs.List.{sum_by}
use Rattle.reg_base.specs.declared.records.Document.{Document}
use Rattle.reg_base.specs.Results.{◌>>=◌, unless}
use Rattle.desk_words.specs.declared.reply.Refusal.{Refusal}
use Rattle.desk_words.specs.declared.reply.Refusal.TheVariants.{Limit}
use Rattle.desk_words.specs.declared.reply.Limit.{Limit as LimitOf}
use Rattle.desk_words.specs.declared.reply.Limit.TheVariants.{Documents, Records, Lines, Numbers}
use Rattle.desk_model.specs.declared.plan.Plan.{Plan}
use Rattle.desk_model.specs.Plans.{Sight}
use Rattle.desk_model.specs.State.{State}

-- how many documents there are at the most
abbrev pub most_documents : ℕ
most_documents = 500_000

-- how many records and entries all documents have at the most
abbrev pub most_kept_records : ℕ
most_kept_records = 2_000_000

-- how many lines a document has at the most
abbrev pub most_lines : ℕ
most_lines = 1_000

-- the greatest document number
abbrev pub greatest_number : ℕ
greatest_number = 4_294_967_295

-- how many records and entries a document has, whether they count or not
abbrev pub record_count : Document → ℕ
record_count d = sum_by length d.sets.registers + sum_by length d.sets.ledgers

-- how many records and entries documents have
abbrev pub records_in : List Document → ℕ
records_in documents = sum_by record_count documents

-- a count up to a limit goes on
abbrev pub within_limit : LimitOf → ℕ → ℕ → Result (Unit {0}) Refusal
within_limit which count most = unless (nat_le count most) (Limit which most)

-- how many documents there are with the plan's: one more where it is new
abbrev pub documents_with_plan : State → Sight → ℕ
documents_with_plan state sight =
    length state.documents + (if is_none sight.before then 1 else 0)

-- how many records and entries the document before has
abbrev pub records_before : Option Document → ℕ
records_before None = 0
records_before (Some d) = record_count d

-- the kept records with those by which a document grows
abbrev pub records_with : State → Sight → Option Document → ℕ
records_with state sight after =
    records_in state.documents + (records_before after - records_before sight.before)

-- the limit of records is asked where the records can be made
abbrev pub records_limit : State → Sight → Result (Option Document) Refusal →
    Result (Unit {0}) Refusal
records_limit state sight (Ok after) =
    within_limit Records (records_with state sight after) most_kept_records
records_limit state sight (Err refusal) = Ok tt

-- a document number is left to be drawn, where one is
abbrev pub number_is_left : State → Sight → Bool
number_is_left state sight =
    if is_none sight.before then nat_le (state.top + 1) greatest_number else true

-- the limits, each asked in its turn
unfoldable pub limits_of : State → Sight → Plan → Result (Option Document) Refusal →
    Result (Unit {0}) Refusal
limits_of state sight plan made = do
  _ ← within_limit Documents (documents_with_plan state sight) most_documents
  _ ← records_limit state sight made
  _ ← within_limit Lines (length plan.doc.lines) most_lines
  unless (number_is_left state sight) (Limit Numbers greatest_number)
