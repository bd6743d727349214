-- Private: which entries are counted, and what is added to sums.
use Rattle.std.specs.Prelude.{ℕ, ◌+◌, ◌*◌, ◌^◌, ◌≤◌, ◌&&◌, nat_le, Bool, true, List, ◌++◌, length}
use Rattle.std.specs.Prelude.{All}
use Rattle.reg_base.specs.declared.records.Posting.{Posting}
use Rattle.reg_base.specs.declared.records.Document.{Document}
use Rattle.reg_base.specs.Cuts.{inside}
use Rattle.reg_base.specs.BookedEntries.{BookedEntry, entry_point}
use Rattle.ledger_reg.specs.declared.walk.Span.{Span}
use Rattle.ledger_reg.specs.declared.walk.Span.TheVariants.{Inside, During, Through}

-- an entry with the number of the document that made it
abbrev pub booked : ℕ → Posting → BookedEntry
booked number posting = record { recorder = number; entry = posting }

-- whether a span counts an entry
abbrev pub counts : Span → BookedEntry → Bool
counts (Inside cut) b = inside cut (entry_point b)
counts (During range) b = nat_le range.from b.entry.period && nat_le b.entry.period range.to
counts (Through range) b = true

-- no set of entries of a document is longer than a set may be
abbrev pub HasShortLedgers : Document → Type 0
HasShortLedgers d = All (λ set. length set ≤ 5_000) d.sets.ledgers

-- the new sums have these elements added to the old ones, whatever those hold, and their numbers
-- are larger by no more than that
pub record Adds {B S : Type 0} (holds : List B → S → Type 0) (size : S → ℕ) (more : List B)
    (old new : S) : Type 0 where
  pub sums : (bs : List B) → holds bs old → holds (bs ++ more) new
  pub growth : size new ≤ size old + 2 ^ 64 * length more
