-- What holds of everything that rules make.
use Rattle.std.specs.Prelude.{◌≡◌, ◌≢◌, ℕ, ◌≤◌, ℤ, pos, ◌+ℤ◌, ◌<ℤ◌, ◌≤ℤ◌, Bool, true, false}
use Rattle.std.specs.Prelude.{Option, Some, None, List, [], ◌∷◌, ◌++◌, map, filter, length}
use Rattle.std.specs.List.{All, AllZip, Contains, range_with_len}
use Rattle.std.specs.Ordering.{is_eq}
use Rattle.reg_base.specs.Balances.{sum_rows}
use Rattle.reg_base.specs.Records.{Booked, value_cmp}
use Rattle.reg_base.specs.Shares.{share}
use Rattle.reg_base.specs.declared.records.Doc.{Doc}
use Rattle.reg_base.specs.declared.records.Item.{Item}
use Rattle.reg_base.specs.declared.records.Posting.{Posting}
use Rattle.reg_base.specs.declared.records.Rec.{Rec}
use Rattle.reg_base.specs.declared.records.Sets.{Sets}
use Rattle.reg_base.specs.declared.value.Value.{Value}
use Rattle.cfg_model.specs.declared.config.Config.{Config}
use Rattle.cfg_model.specs.declared.register.Register.{Register}
use Rattle.post_model.specs.Scenes.{is_number}
use Rattle.post_model.specs.Lefts.{seen_of}
use Rattle.post_model.specs.Makes.{most_records}
use Rattle.post_model.specs.WriteOffs.{in_stock, all_in_stock}
use Rattle.post_model.specs.Yields.{depth_of}
use Rattle.post_model.specs.declared.holding.Holding.{Holding}

-- two books say the same to a document of what an item names: whatever the records are grouped by,
-- and whatever stands behind them, their sums are the same
abbrev pub AgreeOn : Config → Doc → (ℕ → List Booked) → (ℕ → List Booked) → Item → Type 0
AgreeOn config doc books others item =
    (by : Option (List ℕ)) (own : List Booked)
    → sum_rows (depth_of config item.space) by (seen_of books doc item ++ own)
    ≡ sum_rows (depth_of config item.space) by (seen_of others doc item ++ own)

-- the records that are made in a register: 5,000 at the most, under the line numbers from 1 on,
-- each with a number for every resource, of which none is past the largest
pub record AreRecordsOf (register : Register) (recs : List Rec) : Type 0 where
  pub few : length recs ≤ most_records
  pub numbered : map (λ r. r.line) recs ≡ range_with_len 1 (length recs)
  pub complete : All (λ r. length r.sums ≡ length register.resources) recs
  pub small : All (λ r. All (λ n. is_number n ≡ true) r.sums) recs

-- the entries that are made in a ledger: 5,000 at the most, under the line numbers from 1 on, of
-- which no amount is past the largest number
pub record AreEntries (entries : List Posting) : Type 0 where
  pub few : length entries ≤ most_records
  pub numbered : map (λ e. e.line) entries ≡ range_with_len 1 (length entries)
  pub small : All (λ e. is_number e.amount ≡ true) entries

-- the sets that are made: one for each register and each ledger of the configuration
pub record AreSetsOf (config : Config) (sets : Sets) : Type 0 where
  pub registers : AllZip AreRecordsOf config.registers sets.registers
  pub ledgers : AllZip (λ chart entries. AreEntries entries) config.ledgers sets.ledgers

-- ---- write-offs

-- the quantity of all that is taken
unfoldable pub quantity_of : List Holding → ℤ
quantity_of [] = pos 0
quantity_of (h ∷ hs) = h.quantity +ℤ quantity_of hs

-- whether two parts are of the same lot, or both of none
abbrev pub same_lot : Option Value → Option Value → Bool
same_lot None None = true
same_lot None (Some value) = false
same_lot (Some lot) None = false
same_lot (Some lot) (Some value) = is_eq (value_cmp lot value)

-- those of a lot
abbrev pub of_lot : Option Value → List Holding → List Holding
of_lot lot hs = filter (λ h. same_lot lot h.lot) hs

-- what is taken is a part of a holding: of the same lot, above zero, and not more than there is;
-- the whole has the whole amount, and less than the whole its share
pub record IsPartOf (holding taken : Holding) : Type 0 where
  pub lot : taken.lot ≡ holding.lot
  pub some : pos 0 <ℤ taken.quantity
  pub within : taken.quantity ≤ℤ holding.quantity
  pub whole : taken.quantity ≡ holding.quantity → taken.amount ≡ holding.amount
  pub share_of : taken.quantity ≢ holding.quantity
      → taken.amount ≡ share holding.amount taken.quantity holding.quantity

-- what a write-off takes of holdings: in all as much as was wanted, of each lot not more than there
-- is, and each part from one of the holdings
pub record AreTakenFrom (holdings : List Holding) (wanted : ℤ) (takes : List Holding)
    : Type 0 where
  pub adds_up : quantity_of takes ≡ wanted
  pub lots : (lot : Option Value)
      → quantity_of (of_lot lot takes) ≤ℤ all_in_stock (of_lot lot holdings)
  pub parts : All (λ t. (h : Holding) × Contains holdings h × IsPartOf h t) takes

-- of the lot of each holding not more is taken than the holding has
abbrev pub LeavesNoneBelowZero : List Holding → List Holding → Type 0
LeavesNoneBelowZero holdings takes =
    All (λ h. quantity_of (of_lot h.lot takes) ≤ℤ in_stock h) holdings
