-- How many sets a document has at the most, how long they are, and how large their numbers.
use Rattle.std.specs.Prelude.{◌≡◌, ◌≤◌, ℤ, true, ⊤, List, All, length}
use Rattle.reg_base.specs.declared.records.Document.{Document}
use Rattle.reg_base.specs.declared.records.Rec.{Rec}
use Rattle.reg_base.specs.Documents.{AreShort}
use Rattle.post_model.specs.Scenes.{is_number}
use Rattle.desk_model.specs.declared.plan.Given.{Given}
use Rattle.desk_model.specs.declared.plan.GivenSet.{GivenSet}
use Rattle.desk_model.specs.declared.plan.GivenSet.TheVariants.{Records, Entries}
use Rattle.desk_model.specs.declared.plan.Source.{Source}
use Rattle.desk_model.specs.declared.plan.Source.TheVariants.{ByHand, ByRules, Kept, Nothing}
use Rattle.desk_model.specs.declared.plan.Source.TheVariants.{Removed}

-- none of the numbers is past the largest one
abbrev pub AreNumbers : List ℤ → Type 0
AreNumbers numbers = All (λ n. is_number n ≡ true) numbers

-- the numbers of all records of a set
abbrev pub HaveNumbers : List Rec → Type 0
HaveNumbers set = All (λ r. AreNumbers r.sums) set

-- a document has no more sets than a configuration has registers and ledgers, all are short, and
-- no number of a record is past the largest one
pub record IsWithinBounds (d : Document) : Type 0 where
  pub registers : length d.sets.registers ≤ 32
  pub ledgers : length d.sets.ledgers ≤ 8
  pub records : AreShort d.sets.registers
  pub entries : AreShort d.sets.ledgers
  pub numbers : All HaveNumbers d.sets.registers

-- ---- what is given by hand

-- no number that is given for a register is past the largest one
abbrev pub GivesNumbersIn : GivenSet → Type 0
GivesNumbersIn (Records place given) = All (λ (g : Given). AreNumbers g.sums) given
GivesNumbersIn (Entries place given) = ⊤

-- where the records are given by hand, none of their numbers is past the largest one
abbrev pub GivesNumbers : Source → Type 0
GivesNumbers (ByHand given) = All GivesNumbersIn given
GivesNumbers ByRules = ⊤
GivesNumbers Kept = ⊤
GivesNumbers Nothing = ⊤
GivesNumbers Removed = ⊤
