-- Controls: what must not be below zero behind a post.
use Rattle.std.specs.Prelude.{ℕ, ℤ, pos, Bool, ◌&&◌, int_lt, Option, Some, None, List}
use Rattle.std.specs.Prelude.{[], ◌∷◌, ◌++◌, map, slice_get, unwrap_or}
use Rattle.std.specs.Prelude.{if◌then◌else◌}
use Rattle.std.specs.List.{filter_map}
use Rattle.std.specs.Ordering.{nat_cmp, ordering_then}
use Rattle.std.specs.declared.cmp.Ordering.{Ordering}
use Rattle.reg_base.specs.declared.value.Value.{Value}
use Rattle.reg_base.specs.declared.records.Document.{Document}
use Rattle.reg_base.specs.Records.{Booked, in_order, records_of}
use Rattle.reg_base.specs.Balances.{groups_of, total}
use Rattle.cfg_model.specs.declared.config.Config.{Config}
use Rattle.cfg_model.specs.declared.register.Register.{Register}
use Rattle.cfg_model.specs.declared.register.Resource.{Resource}
use Rattle.rule_lang.specs.declared.statement.Act.{Act}
use Rattle.rule_lang.specs.declared.statement.Act.TheVariants.{Make, WriteOff, Require, Control}
use Rattle.rule_lang.specs.declared.statement.Act.TheVariants.{Entry as EntryAct}
use Rattle.rule_lang.specs.declared.statement.Statement.{Statement}
use Rattle.post_model.specs.Makes.{option_or}
use Rattle.post_model.specs.Yields.{statements_for}
use Rattle.desk_words.specs.declared.reply.Refusal.{Refusal}
use Rattle.desk_words.specs.declared.reply.Refusal.TheVariants.{Control as ControlRefusal}
use Rattle.desk_model.specs.State.{Setting}
use Rattle.desk_model.specs.declared.plan.Plan.{Plan}
use Rattle.desk_model.specs.declared.plan.Source.{Source}
use Rattle.desk_model.specs.declared.plan.Source.TheVariants.{ByHand, ByRules, Kept, Nothing}
use Rattle.desk_model.specs.declared.plan.Source.TheVariants.{Removed}

-- the register and the resource that an act controls
abbrev pub controlled_by : Act → Option (ℕ × ℕ)
controlled_by (Control register resource) = Some (register, resource)
controlled_by (Make verb register binds sums) = None
controlled_by (WriteOff fifo register binds quantity wanted amount) = None
controlled_by (Require register binds resource least code) = None
controlled_by (EntryAct ledger debit credit amount) = None

-- pairs are in order of register, then resource
abbrev pub control_cmp : ℕ × ℕ → ℕ × ℕ → Ordering
control_cmp a b = ordering_then (nat_cmp a.0 b.0) (nat_cmp a.1 b.1)

-- the registers and resources that statements control, in order
abbrev pub controls_in : List Statement → List (ℕ × ℕ)
controls_in statements = in_order control_cmp (filter_map (λ s. controlled_by s.act) statements)

-- the records that a document has in a register, whether they count or not; none where it is not
-- there
abbrev pub own_records : ℕ → Option Document → List Booked
own_records register None = []
own_records register (Some d) = map (λ r. record { recorder = d.doc.number; rec = r })
    (unwrap_or (slice_get d.sets.registers register) [])

-- whether the signed sum of a combination fell from the records before to those after
abbrev pub has_fallen : ℕ → List Booked → List Booked → List Value → Bool
has_fallen resource before after values =
    int_lt (total None values after resource) (total None values before resource)

-- the refusal of a combination: its register and resource by name and scale, its values, and its
-- balance
abbrev pub control_refusal : Register → Resource → List Value → ℤ → Refusal
control_refusal register resource values balance =
    ControlRefusal register.name values balance resource.scale

-- the first of these combinations whose sum fell and whose balance over all records is below zero
abbrev pub first_below : Register → Resource → ℕ → List Booked → List Booked → List Booked →
    List (List Value) → Option Refusal
first_below register resource place before after all [] = None
first_below register resource place before after all (values ∷ more) =
    if has_fallen place before after values && int_lt (total None values all place) (pos 0)
    then Some (control_refusal register resource values (total None values all place))
    else first_below register resource place before after all more

-- the first combination of a control that fails: its combinations are those of the document's
-- records before and after, in order of their values
abbrev pub control_of : Register → ℕ × ℕ → List Document → Option Document → Option Document →
    Option Resource → Option Refusal
control_of register control documents before after None = None
control_of register control documents before after (Some resource) =
    first_below register resource control.1 (own_records control.0 before)
    (own_records control.0 after) (records_of control.0 documents)
    (groups_of None (own_records control.0 before ++ own_records control.0 after))

-- the same at a register that is there
abbrev pub control_at : Option Register → ℕ × ℕ → List Document → Option Document →
    Option Document → Option Refusal
control_at None control documents before after = None
control_at (Some register) control documents before after =
    control_of register control documents before after (slice_get register.resources control.1)

-- the first control that fails
abbrev pub first_control : Config → List (ℕ × ℕ) → List Document → Option Document →
    Option Document → Option Refusal
first_control config [] documents before after = None
first_control config (control ∷ more) documents before after = option_or
    (control_at (slice_get config.registers control.0) control documents before after)
    (first_control config more documents before after)

-- behind a post by rules nothing that they control is below zero, where it fell; other changes are
-- not controlled
abbrev pub controls_of : Setting → Plan → List (ℕ × ℕ)
controls_of setting plan = of_source plan.source
  where
    of_source : Source → List (ℕ × ℕ)
    of_source ByRules = controls_in (statements_for setting.rules plan.doc)
    of_source (ByHand given) = []
    of_source Kept = []
    of_source Nothing = []
    of_source Removed = []

-- the first control of a plan that fails behind its change, these being the documents then
abbrev pub control_fault : Setting → Plan → List Document → Option Document → Option Document →
    Option Refusal
control_fault setting plan documents before after =
    first_control setting.config (controls_of setting plan) documents before after
