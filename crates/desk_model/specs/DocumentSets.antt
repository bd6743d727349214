-- The document that a plan leaves.
use Rattle.std.specs.Prelude.{ℕ, ◌-◌, Option, Some, None, option_map, option_and_then, unwrap_or}
use Rattle.std.specs.Prelude.{List, slice_get, Result, Ok, Err}
use Rattle.reg_base.specs.declared.fault.PostFault.{PostFault}
use Rattle.reg_base.specs.declared.fault.PostFault.TheVariants.{Broken, Shortage, Overflow, Entry}
use Rattle.reg_base.specs.declared.fault.PostFault.TheVariants.{TooManyRecords, Negative}
use Rattle.reg_base.specs.declared.records.Doc.{Doc}
use Rattle.reg_base.specs.declared.records.Document.{Document}
use Rattle.reg_base.specs.declared.records.Sets.{Sets}
use Rattle.reg_base.specs.Records.{records_of}
use Rattle.reg_base.specs.Results.{◌>>=◌}
use Rattle.cfg_model.specs.declared.config.Config.{Config}
use Rattle.cfg_model.specs.declared.register.Register.{Register}
use Rattle.cfg_model.specs.declared.register.Resource.{Resource}
use Rattle.rule_lang.specs.declared.statement.Act.{Act}
use Rattle.rule_lang.specs.declared.statement.Act.TheVariants.{Make, WriteOff, Require, Control}
use Rattle.rule_lang.specs.declared.statement.Act.TheVariants.{Entry as EntryAct}
use Rattle.rule_lang.specs.declared.statement.Statement.{Statement}
use Rattle.post_model.specs.declared.made.Yield.{Yield}
use Rattle.post_model.specs.Yields.{statements_for, yield_of}
use Rattle.desk_words.specs.declared.reply.Refusal.{Refusal}
use Rattle.desk_words.specs.declared.reply.Refusal.TheVariants.{Rule}
use Rattle.desk_model.specs.State.{Setting}
use Rattle.desk_model.specs.declared.plan.Source.{Source}
use Rattle.desk_model.specs.declared.plan.Source.TheVariants.{ByHand, ByRules, Kept, Nothing}
use Rattle.desk_model.specs.declared.plan.Source.TheVariants.{Removed}
use Rattle.desk_model.specs.RecordSets.{no_sets, given_by_hand}

-- the records that a document had, and none where it was not there
abbrev pub sets_before : Config → Option Document → Sets
sets_before config before = unwrap_or (option_map (λ d. d.sets) before) (no_sets config)

-- a document with its records
abbrev pub document_of : Doc → Sets → Document
document_of doc sets = record { doc = doc; sets = sets }

-- ---- records by rules

-- the resource at a place of a register
abbrev pub resource_at : Config → ℕ → ℕ → Option Resource
resource_at config register resource = option_and_then
    (λ (r : Register). slice_get r.resources resource) (slice_get config.registers register)

-- the scale of the quantity that an act writes off
abbrev pub quantity_scale : Config → Act → Option ℕ
quantity_scale config (WriteOff fifo register binds quantity wanted amount) =
    option_map (λ r. r.scale) (resource_at config register quantity)
quantity_scale config (Make verb register binds sums) = None
quantity_scale config (Require register binds resource least code) = None
quantity_scale config (Control register resource) = None
quantity_scale config (EntryAct ledger debit credit amount) = None

-- the scale of the quantity of a rule, by the rule's number from 1; each rule that a shortage names
-- has one
abbrev pub rule_scale : Setting → Doc → ℕ → ℕ
rule_scale setting doc rule = unwrap_or (option_and_then
    (λ (s : Statement). quantity_scale setting.config s.act)
    (slice_get (statements_for setting.rules doc) (rule - 1))) 0

-- the scale of the quantity that is missing
abbrev pub fault_scale : Setting → Doc → PostFault → Option ℕ
fault_scale setting doc (Shortage rule line missing) = Some (rule_scale setting doc rule)
fault_scale setting doc (Broken rule line code) = None
fault_scale setting doc (Overflow rule line) = None
fault_scale setting doc (Entry rule line fault) = None
fault_scale setting doc TooManyRecords = None
fault_scale setting doc (Negative rule line) = None

-- a document with what its rules made, or the refusal of their first fault
abbrev pub with_yield : Setting → Doc → Result Yield PostFault → Result (Option Document) Refusal
with_yield setting doc (Ok made) = Ok (Some (document_of doc made.sets))
with_yield setting doc (Err fault) = Err (Rule fault (fault_scale setting doc fault))

-- the document that the rules of its type make, beside these documents
abbrev pub made_by_rules : Setting → List Document → Doc → Result (Option Document) Refusal
made_by_rules setting documents doc = with_yield setting doc
    (yield_of setting.config setting.rules doc (λ register. records_of register documents))

-- ---- documents

-- the document that a plan leaves with its records beside these documents, none where it is
-- removed, or why its records can't be made
abbrev pub document_from : Setting → List Document → Option Document → Doc → Source →
    Result (Option Document) Refusal
document_from setting documents before doc (ByHand given) =
    given_by_hand setting.config doc.date given >>= λ sets. Ok (Some (document_of doc sets))
document_from setting documents before doc ByRules = made_by_rules setting documents doc
document_from setting documents before doc Kept =
    Ok (Some (document_of doc (sets_before setting.config before)))
document_from setting documents before doc Nothing =
    Ok (Some (document_of doc (no_sets setting.config)))
document_from setting documents before doc Removed = Ok None
