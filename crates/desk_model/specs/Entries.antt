-- The entries of a ledger that are made of those given.
use Rattle.std.specs.Prelude.{ℕ, ◌+◌, pos, Bool, not, nat_le, Option, Some, None, List, [], ◌∷◌}
use Rattle.std.specs.Prelude.{filter, Result, Ok, Err}
use Rattle.std.specs.Ordering.{int_eq}
use Rattle.reg_base.specs.declared.records.Posting.{Posting}
use Rattle.reg_base.specs.declared.fault.EntryFault.{EntryFault}
use Rattle.reg_base.specs.declared.fault.PostFault.TheVariants.{Entry, TooManyRecords}
use Rattle.reg_base.specs.Results.{◌>>=◌, unless}
use Rattle.cfg_model.specs.declared.ledger.Chart.{Chart}
use Rattle.cfg_model.specs.Entries.{entry_check}
use Rattle.desk_words.specs.declared.reply.Refusal.{Refusal}
use Rattle.desk_words.specs.declared.reply.Refusal.TheVariants.{Rule}
use Rattle.desk_model.specs.declared.plan.GivenEntry.{GivenEntry}

-- how many entries a set has at the most
abbrev pub most_entries : ℕ
most_entries = 5_000

-- an entry is made where its amount is not zero
abbrev pub is_entry_made : GivenEntry → Bool
is_entry_made given = not (int_eq given.amount (pos 0))

-- what a chart of accounts says of the entry that would get this line
abbrev pub or_entry_fault : ℕ → Result (Unit {0}) EntryFault → Result (Unit {0}) Refusal
or_entry_fault line (Ok u) = Ok tt
or_entry_fault line (Err fault) = Err (Rule (Entry 0 line fault) None)

-- the entry that is made of one given, under this line: the chart takes it, and the set has room
unfoldable pub entry_at : Chart → ℕ → ℕ → GivenEntry → Result Posting Refusal
entry_at chart date line given = do
  _ ← or_entry_fault line (entry_check chart given.debit given.credit)
  _ ← unless (nat_le line most_entries) (Rule TooManyRecords None)
  Ok (record {
    line = line;
    period = date;
    debit = given.debit;
    credit = given.credit;
    amount = given.amount;
  })

-- the entries that are made of those given, under the lines from this one on
abbrev pub entries_from : Chart → ℕ → ℕ → List GivenEntry → Result (List Posting) Refusal
entries_from chart date line [] = Ok []
entries_from chart date line (g ∷ gs) = entry_at chart date line g >>= λ entry. entries_from
    chart date (line + 1) gs >>= λ entries. Ok (entry ∷ entries)

-- the entries of a ledger, where there is one, that are made of those given
abbrev pub entry_set : Option Chart → ℕ → List GivenEntry → Result (List Posting) Refusal
entry_set None date given = Ok []
entry_set (Some chart) date given = entries_from chart date 1 (filter is_entry_made given)
