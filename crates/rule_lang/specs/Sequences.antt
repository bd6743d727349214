-- What a sequence asks of the statements of its document types.
use Rattle.std.specs.Prelude.{ℕ, Bool, true, false, not, ◌&&◌, ◌||◌, List, Option, Some, None}
use Rattle.std.specs.Prelude.{slice_get, if◌then◌else◌}
use Rattle.std.specs.List.{list_any, list_all}
use Rattle.std.specs.Str.{bytes_eq}
use Rattle.cfg_model.specs.declared.config.Config.{Config}
use Rattle.cfg_model.specs.declared.kind.Field.{Field}
use Rattle.cfg_model.specs.declared.kind.Kind.{Kind}
use Rattle.cfg_model.specs.declared.register.Dimension.{Dimension}
use Rattle.cfg_model.specs.declared.register.Register.{Register}
use Rattle.cfg_model.specs.declared.sequence.Sequence.{Sequence}
use Rattle.rule_lang.specs.declared.statement.Act.{Act}
use Rattle.rule_lang.specs.declared.statement.Act.TheVariants.{Make, WriteOff, Require, Control}
use Rattle.rule_lang.specs.declared.statement.Act.TheVariants.{Entry}
use Rattle.rule_lang.specs.declared.statement.Bind.{Bind}
use Rattle.rule_lang.specs.declared.statement.BindTo.{BindTo}
use Rattle.rule_lang.specs.declared.statement.BindTo.TheVariants.{Code, Point}
use Rattle.rule_lang.specs.declared.statement.CodeTerm.TheVariants.{Text, Head, Line}

-- whether a name is among these
abbrev pub is_among : List (List ℕ) → List ℕ → Bool
is_among names name = list_any (λ n. bytes_eq n name) names

-- whether a field of the head has the name
abbrev pub is_head_field : List Field → List ℕ → BindTo → Bool
is_head_field head name Point = false
is_head_field head name (Code (Text code)) = false
is_head_field head name (Code (Line field)) = false
is_head_field head name (Code (Head field)) = field_named (slice_get head field)
  where
    field_named : Option Field → Bool
    field_named None = false
    field_named (Some f) = bytes_eq f.name name

-- whether a dimension has the name
abbrev pub is_dimension : List Dimension → List ℕ → ℕ → Bool
is_dimension dimensions name place = dimension_named (slice_get dimensions place)
  where
    dimension_named : Option Dimension → Bool
    dimension_named None = false
    dimension_named (Some d) = bytes_eq d.name name

-- whether the dimension of this name is bound to the head's field of that name
abbrev pub binds_head : Register → Kind → List Bind → List ℕ → Bool
binds_head register kind binds name =
    list_any (λ b. is_dimension register.dimensions name b.dimension
    && is_head_field kind.head name b.to) binds

-- whether each of the names is bound so
abbrev pub binds_each_head : Register → Kind → List Bind → List (List ℕ) → Bool
binds_each_head register kind binds names = list_all (binds_head register kind binds) names

-- a statement on a register: where it affects the sequence, each of the sequence's dimensions is
-- bound to the head; elsewhere it may not read
unfoldable pub sequence_fits : Register → Kind → List Bind → Bool → Sequence → Bool
sequence_fits register kind binds reads sequence =
    if is_among sequence.registers register.name
    then binds_each_head register kind binds sequence.dimensions
    else not reads

-- the sequence is kept, where the type stands in it
abbrev pub kept_by : Register → Kind → List Bind → Bool → Sequence → Bool
kept_by register kind binds reads sequence =
    not (is_among sequence.kinds kind.name) || sequence_fits register kind binds reads sequence

-- whether each of the sequences is kept
abbrev pub all_kept : Register → Kind → List Bind → Bool → List Sequence → Bool
all_kept register kind binds reads sequences = list_all (kept_by register kind binds reads)
    sequences

-- the sequences that the type stands in are kept by a statement on this register
unfoldable pub sequences_fit : Config → Kind → ℕ → List Bind → Bool → Bool
sequences_fit config kind place binds reads = all_fit (slice_get config.registers place)
  where
    all_fit : Option Register → Bool
    all_fit None = false
    all_fit (Some register) = all_kept register kind binds reads config.sequences

-- write-offs and `require` read; a control and an entry are not asked
unfoldable pub keeps_sequences : Config → Kind → Act → Bool
keeps_sequences config kind (Make verb register binds sums) =
    sequences_fit config kind register binds false
keeps_sequences config kind (WriteOff fifo register binds quantity wanted amount) =
    sequences_fit config kind register binds true
keeps_sequences config kind (Require register binds resource least code) =
    sequences_fit config kind register binds true
keeps_sequences config kind (Control register resource) = true
keeps_sequences config kind (Entry ledger debit credit amount) = true
