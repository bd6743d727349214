-- What the statements of a type do for the sequences that the type stands in.
use Rattle.std.specs.Prelude.{◌≡◌, ℕ, Bool, true, false, ⊤, List, Option, Some, slice_get}
use Rattle.std.specs.List.{All, Contains}
use Rattle.reg_base.specs.declared.point.Point.{Point}
use Rattle.reg_base.specs.declared.value.Value.{Value}
use Rattle.reg_base.specs.declared.value.Value.TheVariants.{Code as CodeValue, Lot}
use Rattle.cfg_model.specs.declared.config.Config.{Config}
use Rattle.cfg_model.specs.declared.kind.Field.{Field}
use Rattle.cfg_model.specs.declared.kind.Kind.{Kind}
use Rattle.cfg_model.specs.declared.register.Dimension.{Dimension}
use Rattle.cfg_model.specs.declared.register.Register.{Register}
use Rattle.cfg_model.specs.declared.sequence.Sequence.{Sequence}
use Rattle.rule_lang.specs.declared.statement.Act.{Act}
use Rattle.rule_lang.specs.declared.statement.Act.TheVariants.{Make, WriteOff, Require, Control}
use Rattle.rule_lang.specs.declared.statement.Act.TheVariants.{Entry}
use Rattle.rule_lang.specs.declared.statement.Bind.{Bind}
use Rattle.rule_lang.specs.declared.statement.BindTo.{BindTo}
use Rattle.rule_lang.specs.declared.statement.BindTo.TheVariants.{Code, Point as PointTo}
use Rattle.rule_lang.specs.declared.statement.CodeTerm.TheVariants.{Text, Head, Line}

-- the value that a document with this head and this line at this point gives a dimension
unfoldable pub value_of_bind : List Value → List Value → Point → BindTo → Option Value
value_of_bind head line point PointTo = Some (Lot point)
value_of_bind head line point (Code (Text code)) = Some (CodeValue code)
value_of_bind head line point (Code (Head place)) = slice_get head place
value_of_bind head line point (Code (Line place)) = slice_get line place

-- the values of a record that the statement makes or reads for such a document
abbrev pub HasValuesOf : List Value → List Value → Point → List Bind → List Value → Type 0
HasValuesOf head line point binds values =
    All (λ b. slice_get values b.dimension ≡ value_of_bind head line point b.to) binds

-- the register's dimension of the name has the value of the head's field of that name
pub record HasHeadValue (register : Register) (kind : Kind) (head values : List Value)
    (name : List ℕ) : Type 0 where
  pub dimension_place : ℕ
  pub dimension : Dimension
  pub dimension_found : slice_get register.dimensions dimension_place ≡ Some dimension
  pub dimension_named : dimension.name ≡ name
  pub field_place : ℕ
  pub field : Field
  pub field_found : slice_get kind.head field_place ≡ Some field
  pub field_named : field.name ≡ name
  pub same_value : slice_get values dimension_place ≡ slice_get head field_place

-- what is read affects the sequence; and each record of an affecting register that is read or made
-- has the head's values in the dimensions of the sequence, whatever the document holds
pub record KeepsSequence (register : Register) (kind : Kind) (binds : List Bind) (reads : Bool)
    (sequence : Sequence) : Type 0 where
  pub affects : reads ≡ true → Contains sequence.registers register.name
  pub head_values : Contains sequence.registers register.name
      → (head line : List Value) (point : Point) (values : List Value)
      → HasValuesOf head line point binds values
      → All (HasHeadValue register kind head values) sequence.dimensions

-- write-offs and `require` read; a control and an entry are not asked
unfoldable pub KeepsAct : Config → Kind → Sequence → Act → Type 0
KeepsAct config kind sequence (Make verb place binds sums) =
    (register : Register) → slice_get config.registers place ≡ Some register
    → KeepsSequence register kind binds false sequence
KeepsAct config kind sequence (WriteOff fifo place binds quantity wanted amount) =
    (register : Register) → slice_get config.registers place ≡ Some register
    → KeepsSequence register kind binds true sequence
KeepsAct config kind sequence (Require place binds resource least code) =
    (register : Register) → slice_get config.registers place ≡ Some register
    → KeepsSequence register kind binds true sequence
KeepsAct config kind sequence (Control register resource) = ⊤
KeepsAct config kind sequence (Entry ledger debit credit amount) = ⊤

-- the act keeps each sequence that its type stands in
abbrev pub KeepsSequences : Config → Kind → Act → Type 0
KeepsSequences config kind act =
    (sequence : Sequence) → Contains config.sequences sequence
    → Contains sequence.kinds kind.name → KeepsAct config kind sequence act
