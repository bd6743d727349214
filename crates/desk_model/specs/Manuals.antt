-- Documents whose records are given by hand.
use Rattle.std.specs.Prelude.{ℕ, Bool, true, false, not, ◌&&◌, ◌==◌, Option, Some, None}
use Rattle.std.specs.Prelude.{option_map, unwrap_or, List, [], ◌∷◌, slice_get, Result, Ok}
use Rattle.std.specs.List.{list_any}
use Rattle.reg_base.specs.declared.records.DocState.TheVariants.{Posted}
use Rattle.reg_base.specs.declared.records.Doc.{Doc}
use Rattle.reg_base.specs.Results.{◌>>=◌, unless, some_or, each}
use Rattle.cfg_model.specs.declared.config.Config.{Config}
use Rattle.cfg_model.specs.Places.{register_place, ledger_place}
use Rattle.desk_words.specs.declared.request.Manual.{Manual as ManualRequest}
use Rattle.desk_words.specs.declared.request.SetText.{SetText}
use Rattle.desk_words.specs.declared.reply.Refusal.{Refusal}
use Rattle.desk_words.specs.declared.reply.Refusal.TheVariants.{BadField}
use Rattle.desk_words.specs.declared.reply.Field.TheVariants.{Space as SpaceField}
use Rattle.desk_model.specs.declared.plan.GivenSet.{GivenSet}
use Rattle.desk_model.specs.declared.plan.GivenSet.TheVariants.{Records, Entries}
use Rattle.desk_model.specs.declared.plan.Space.{Space}
use Rattle.desk_model.specs.declared.plan.Space.TheVariants.{Register, Ledger}
use Rattle.desk_model.specs.declared.plan.Plan.{Plan}
use Rattle.desk_model.specs.declared.plan.Source.TheVariants.{ByHand}
use Rattle.desk_model.specs.GivenRecords.{given_record, given_entry}
use Rattle.desk_model.specs.Plans.{Sight}
use Rattle.desk_model.specs.States.{named_is_seen, takes, key_is_free, dates_are_open}
use Rattle.desk_model.specs.States.{is_posted_manual, number_with, key_with}

-- ---- sets

-- the ledger of a name, where there is no register of it
abbrev pub space_or_ledger : Option ℕ → Option ℕ → Option Space
space_or_ledger (Some place) ledger = Some (Register place)
space_or_ledger None ledger = option_map Ledger ledger

-- the register or ledger that a set names
unfoldable pub space_of : Config → SetText → Result Space Refusal
space_of config set = some_or (space_or_ledger (register_place set.space config.registers)
    (ledger_place set.space config.ledgers)) (BadField SpaceField)

-- the records of a set, each read for its register or ledger
unfoldable pub given_set : Config → Space → SetText → Result GivenSet Refusal
given_set config (Register place) set = do
  register ← some_or (slice_get config.registers place) (BadField SpaceField)
  records ← each (given_record register) set.records
  Ok (Records place records)
given_set config (Ledger place) set = do
  chart ← some_or (slice_get config.ledgers place) (BadField SpaceField)
  entries ← each (given_entry chart) set.records
  Ok (Entries place entries)

-- the sets with the spaces that they name
abbrev pub sets_in : Config → List Space → List SetText → Result (List GivenSet) Refusal
sets_in config [] sets = Ok []
sets_in config (space ∷ spaces) [] = Ok []
sets_in config (space ∷ spaces) (set ∷ sets) = given_set config space set >>= λ given. sets_in
    config spaces sets >>= λ more. Ok (given ∷ more)

-- whether two spaces are one
abbrev pub is_space : Space → Space → Bool
is_space (Register a) (Register b) = a == b
is_space (Register a) (Ledger b) = false
is_space (Ledger a) (Register b) = false
is_space (Ledger a) (Ledger b) = a == b

-- whether no space stands twice
abbrev pub are_distinct : List Space → Bool
are_distinct [] = true
are_distinct (space ∷ spaces) = not (list_any (is_space space) spaces) && are_distinct spaces

-- the sets given by hand: all spaces are known, then all records are read, then no space stands
-- twice
unfoldable pub given_sets : Config → List SetText → Result (List GivenSet) Refusal
given_sets config sets = do
  spaces ← each (space_of config) sets
  given ← sets_in config spaces sets
  _ ← unless (are_distinct spaces) (BadField SpaceField)
  Ok given

-- ---- documents

-- the document that `manual` makes or whose place its own takes: posted and active, without a type
abbrev pub manual_doc : ManualRequest → Sight → Doc
manual_doc m sight = record {
  number = number_with sight;
  kind = None;
  date = m.date;
  head = [];
  lines = [];
  comment = unwrap_or m.comment [];
  key = key_with m.key sight.before;
  state = Posted;
  active = true;
}

-- what `manual` makes of the records that it gives, or the first of its refusals
unfoldable pub plan_manual : Config → ManualRequest → Sight → Result Plan Refusal
plan_manual config m sight = do
  _ ← named_is_seen m.doc sight.before
  _ ← takes is_posted_manual sight.before
  given ← given_sets config m.sets
  _ ← key_is_free sight.holder
  _ ← dates_are_open sight.closed sight.before m.date
  Ok (record {
    doc = manual_doc m sight;
    source = ByHand given;
  })
