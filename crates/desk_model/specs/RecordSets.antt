-- The records that are made of those given.
use Rattle.std.specs.Prelude.{ℕ, ◌+◌, pos, Bool, not, nat_le, None, List, [], ◌∷◌, map, filter}
use Rattle.std.specs.Prelude.{length, slice_get, slice_set, Result, Ok}
use Rattle.std.specs.List.{list_any}
use Rattle.std.specs.Ordering.{int_eq}
use Rattle.reg_base.specs.declared.records.Rec.{Rec}
use Rattle.reg_base.specs.declared.records.Sets.{Sets}
use Rattle.reg_base.specs.declared.fault.PostFault.TheVariants.{TooManyRecords}
use Rattle.reg_base.specs.Results.{◌>>=◌, unless}
use Rattle.cfg_model.specs.declared.config.Config.{Config}
use Rattle.desk_words.specs.declared.reply.Refusal.{Refusal}
use Rattle.desk_words.specs.declared.reply.Refusal.TheVariants.{Rule}
use Rattle.desk_model.specs.declared.plan.Given.{Given}
use Rattle.desk_model.specs.declared.plan.GivenSet.{GivenSet}
use Rattle.desk_model.specs.declared.plan.GivenSet.TheVariants.{Records, Entries}
use Rattle.desk_model.specs.Entries.{entry_set}

-- how many records a set has at the most
abbrev pub most_records : ℕ
most_records = 5_000

-- a record is made where not all of its numbers are zero
abbrev pub is_made : Given → Bool
is_made given = list_any (λ n. not (int_eq n (pos 0))) given.sums

-- records under the lines from this one on
abbrev pub with_lines : ℕ → ℕ → List Given → List Rec
with_lines line date [] = []
with_lines line date (g ∷ gs) = record {
  line = line;
  period = date;
  mark = g.mark;
  values = g.values;
  sums = g.sums;
} ∷ with_lines (line + 1) date gs

-- the records of a register that are made of those given, under the lines from 1 on; more than a
-- set has room for are refused
unfoldable pub record_set : ℕ → List Given → Result (List Rec) Refusal
record_set date given = do
  _ ← unless (nat_le (length (filter is_made given)) most_records) (Rule TooManyRecords None)
  Ok (with_lines 1 date (filter is_made given))

-- no records and no entries: an empty list per register and per ledger
abbrev pub no_sets : Config → Sets
no_sets config = record {
  registers = map (λ _. []) config.registers;
  ledgers = map (λ _. []) config.ledgers;
}

-- the sets with those that are made of one given by hand, in the place of its register or ledger
abbrev pub with_set : Config → ℕ → Sets → GivenSet → Result Sets Refusal
with_set config date sets (Records place given) =
    record_set date given >>= λ records. Ok (record sets {
      registers = slice_set sets.registers place records;
    })
with_set config date sets (Entries place given) =
    entry_set (slice_get config.ledgers place) date given >>= λ entries. Ok (record sets {
      ledgers = slice_set sets.ledgers place entries;
    })

-- the sets with those that are made of each given by hand, one after another
abbrev pub with_given : Config → ℕ → Sets → List GivenSet → Result Sets Refusal
with_given config date sets [] = Ok sets
with_given config date sets (set ∷ more) =
    with_set config date sets set >>= λ made. with_given config date made more

-- the records and entries of a document whose sets are given by hand
abbrev pub given_by_hand : Config → ℕ → List GivenSet → Result Sets Refusal
given_by_hand config date given = with_given config date (no_sets config) given
