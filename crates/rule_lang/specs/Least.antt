-- Checks of which the reason of the least number is told.
use Rattle.std.specs.Prelude.{ℕ, nat_le, List, [], ◌∷◌, Option, Some, None, Result, Ok, Err}
use Rattle.std.specs.Prelude.{if◌then◌else◌}
use Rattle.rule_lang.specs.declared.fault.RuleWhy.{RuleWhy}
use Rattle.rule_lang.specs.declared.fault.RuleWhy.TheVariants.{Syntax, UnknownName, Unbound}
use Rattle.rule_lang.specs.declared.fault.RuleWhy.TheVariants.{TwiceBound, WrongType, WrongScope}
use Rattle.rule_lang.specs.declared.fault.RuleWhy.TheVariants.{WrongRegister, TooMany}
use Rattle.rule_lang.specs.declared.fault.RuleWhy.TheVariants.{SequenceUnbound}

-- the number of a reason
unfoldable pub why_number : RuleWhy → ℕ
why_number Syntax = 1
why_number UnknownName = 2
why_number Unbound = 3
why_number TwiceBound = 4
why_number WrongType = 5
why_number WrongScope = 6
why_number WrongRegister = 7
why_number TooMany = 8
why_number SequenceUnbound = 9

-- the reason of the lesser number
abbrev pub lesser : RuleWhy → RuleWhy → RuleWhy
lesser a b = if nat_le (why_number a) (why_number b) then a else b

-- what is checked: a value, or the reason of the least number that speaks against it
abbrev pub Checked : Type 0 → Type 0
Checked X = Result X RuleWhy

-- both, or the lesser of the reasons against them
unfoldable pub both : {X Y : Type 0} → Checked X → Checked Y → Checked (X × Y)
both (Ok x) (Ok y) = Ok (x, y)
both (Ok x) (Err b) = Err b
both (Err a) (Ok y) = Err a
both (Err a) (Err b) = Err (lesser a b)

-- a value that is checked beside, or the lesser of the reasons
unfoldable pub beside : {X : Type 0} → Checked (Unit {0}) → Checked X → Checked X
beside (Ok u) x = x
beside (Err a) (Ok x) = Err a
beside (Err a) (Err b) = Err (lesser a b)

-- the first and the others
abbrev pub with_first : {Y : Type 0} → Checked (Y × List Y) → Checked (List Y)
with_first (Ok p) = Ok (p.0 ∷ p.1)
with_first (Err why) = Err why

-- each of them, or the least of the reasons against them
unfoldable pub each_or_least : {X Y : Type 0} → (X → Checked Y) → List X → Checked (List Y)
each_or_least check [] = Ok []
each_or_least check (x ∷ xs) = with_first (both (check x) (each_or_least check xs))

-- the lesser of the reason that was there, if one was, and of this one
abbrev pub with_one : Option RuleWhy → RuleWhy → RuleWhy
with_one None why = why
with_one (Some other) why = lesser other why
