-- A configuration that is read keeps to its limits, is in order, and its names resolve.
use Rattle.std.proofs.Common.{◌≡◌, ℕ, List, [], Result, Ok, Err, IfOk, codes, subst, ◌∷◌}
use Rattle.std.specs.List.{AllByRecursion}
use Rattle.std.proofs.lemmas.List.Elements.{All-from_recursion}
use Rattle.toml.specs.Data.{Data, Members}
use Rattle.reg_base.specs.Results.{Gives}
use Rattle.cfg_model.specs.declared.fault.CfgFault.{CfgFault}
use Rattle.cfg_model.specs.declared.fault.CfgFault.TheVariants.{Memory}
use Rattle.cfg_model.specs.declared.config.Config.{Config}
use Rattle.cfg_model.specs.declared.register.Register.{Register}
use Rattle.cfg_model.specs.declared.ledger.Chart.{Chart}
use Rattle.cfg_model.specs.Words.{group_keys, ledger_keys}
use Rattle.cfg_model.specs.Limits.{register_limit, ledger_limit, document_limit, sequence_limit}
use Rattle.cfg_model.specs.Limits.{clerk_limit, IsWithinLimits, IsRegisterWithinLimits}
use Rattle.cfg_model.specs.Limits.{IsChartWithinLimits, IsKindWithinLimits}
use Rattle.cfg_model.specs.Walk.{entry_keys, known_keys, read_group}
use Rattle.cfg_model.specs.Resolving.{HasNamesInOrder, IsInOrder, HasAccountsInOrder, HasParents}
use Rattle.cfg_model.specs.Resolving.{HasNames, HasNoCircle, NamesResolve}
use Rattle.cfg_model.specs.Registers.{read_register, read_split}
use Rattle.cfg_model.specs.Accounts.{read_accounts}
use Rattle.cfg_model.specs.Ledgers.{read_ledger, read_scale}
use Rattle.cfg_model.specs.Kinds.{read_kind}
use Rattle.cfg_model.specs.Sequences.{read_sequence}
use Rattle.cfg_model.specs.Clerks.{read_clerk}
use Rattle.cfg_model.specs.Reading.{config_of}
use Rattle.cfg_model.proofs.Steps.{bind-Ok, same_Ok}
use Rattle.cfg_model.proofs.ListLemmas.{read_group-few, read_group-all}
use Rattle.cfg_model.proofs.RegisterLemmas.{read_register-within, read_kind-within}
use Rattle.cfg_model.proofs.RegisterLemmas.{read_scale-small}
use Rattle.cfg_model.proofs.SequenceLemmas.{read_sequence-names}
use Rattle.cfg_model.proofs.ChartLemmas.{AreAccounts, read_accounts-hold}

-- what holds of a ledger that is read
record IsLedger (chart : Chart) : Type 0 where
  within : IsChartWithinLimits chart
  in_order : HasAccountsInOrder chart
  resolves : HasParents chart
  circles : HasNoCircle chart

read_ledger-holds : (registers : List Register) (name : List ℕ) (d : Data) (chart : Chart)
    → read_ledger registers name d ≡ Ok chart → IsLedger chart
unfolding read_ledger
read_ledger-holds registers name d chart e =
    let entry = entry_keys (codes "ledger") registers ledger_keys name d in
    let (keys, opened, a) = bind-Ok entry _ chart e in
    let (scale, is_scale, b) = bind-Ok (read_scale name keys) _ chart a in
    let (split, is_split, c) = bind-Ok (read_split (codes "ledger") name keys) _ chart b in
    let (accounts, are_accounts, made) = bind-Ok (read_accounts name keys) _ chart c in
    let hold : AreAccounts accounts = read_accounts-hold name keys accounts are_accounts in
    subst IsLedger (same_Ok _ _ made) (record {
      within = record {
        small_scale = read_scale-small name keys scale is_scale;
        few_accounts = hold.few;
        few_extras = All-from_recursion _ accounts hold.few_extras;
      };
      in_order = hold.ascend;
      resolves = All-from_recursion _ accounts hold.parents;
      circles = record { apart = hold.apart; ends = hold.ends };
    })

all-part : {X : Type 0} (P Q : X → Type 0) → ((x : X) → P x → Q x)
    → (xs : List X) → AllByRecursion P xs → AllByRecursion Q xs
all-part P Q each [] all = tt
all-part P Q each (x ∷ xs) all = (each x all.0, all-part P Q each xs all.1)

-- what holds of a configuration that is read
pub record Holds (config : Config) : Type 0 where
  pub within : IsWithinLimits config
  pub accounts : AllByRecursion HasAccountsInOrder config.ledgers
  pub resolves : NamesResolve config

pub config_of-holds : (top : Members) (config : Config) → config_of top ≡ Ok config → Holds config
unfolding config_of
config_of-holds top config e =
    let (keys, known, a) = bind-Ok (known_keys group_keys top) _ config e in
    let (rs, are_registers, b) =
    bind-Ok (read_group (codes "register") register_limit read_register keys) _ config a in
    let (ls, are_ledgers, c) =
    bind-Ok (read_group (codes "ledger") ledger_limit (read_ledger rs) keys) _ config b in
    let (ks, are_kinds, d) = bind-Ok (read_group (codes "document") document_limit read_kind keys) _
    config c in
    let (ss, are_sequences, f) =
    bind-Ok (read_group (codes "sequence") sequence_limit (read_sequence rs ks) keys) _ config d
    in
    let (cs, are_clerks, made) =
    bind-Ok (read_group (codes "clerk") clerk_limit read_clerk keys) _ config f in
    let registers = read_group-all (codes "register") register_limit read_register
    IsRegisterWithinLimits read_register-within keys rs are_registers in
    let ledgers = read_group-all (codes "ledger") ledger_limit (read_ledger rs) IsLedger
    (read_ledger-holds rs) keys ls are_ledgers in
    let kinds = read_group-all (codes "document") document_limit read_kind IsKindWithinLimits
    read_kind-within keys ks are_kinds in
    let sequences = read_group-all (codes "sequence") sequence_limit (read_sequence rs ks)
    (HasNames rs ks) (read_sequence-names rs ks) keys ss are_sequences in
    subst Holds
    {x = record { registers = rs; ledgers = ls; kinds = ks; sequences = ss; clerks = cs }}
    (same_Ok _ _ made) (record {
      within = record {
        few_registers = read_group-few (codes "register") register_limit read_register keys rs
            are_registers;
        few_ledgers = read_group-few (codes "ledger") ledger_limit (read_ledger rs) keys ls
            are_ledgers;
        few_kinds = read_group-few (codes "document") document_limit read_kind keys ks are_kinds;
        few_sequences = read_group-few (codes "sequence") sequence_limit (read_sequence rs ks) keys
            ss are_sequences;
        few_clerks = read_group-few (codes "clerk") clerk_limit read_clerk keys cs are_clerks;
        each_register = All-from_recursion _ rs registers;
        each_ledger = All-from_recursion _ ls
            (all-part IsLedger IsChartWithinLimits (λ x h. h.within) ls ledgers);
        each_kind = All-from_recursion _ ks kinds;
      };
      accounts = all-part IsLedger HasAccountsInOrder (λ x h. h.in_order) ls ledgers;
      resolves = record {
        parents = All-from_recursion _ ls
            (all-part IsLedger HasParents (λ x h. h.resolves) ls ledgers);
        circles = All-from_recursion _ ls
            (all-part IsLedger HasNoCircle (λ x h. h.circles) ls ledgers);
        sequences = All-from_recursion _ ss sequences;
      };
    })

-- an answer that gives what the definition gives, with its names in order, is in order
pub in_order-from : (result : Result Config CfgFault) (top : Members)
    → Gives Memory result (config_of top) → IfOk result HasNamesInOrder → IfOk result IsInOrder
in_order-from (Ok config) top gives names = record {
  names = names;
  accounts = All-from_recursion _ config.ledgers (config_of-holds top config gives).accounts;
}
in_order-from (Err fault) top gives names = tt
