-- The rows of all keys are the table of accounts by unit.
use Rattle.std.proofs.Common.{◌≡◌, Bool, true, false, cond, ◌&&◌, nat_le, Option, Some, None, List}
use Rattle.std.proofs.Common.{[], ◌∷◌, ◌++◌, map, refl, ap, ◌∙◌, sym, ℕ}
use Rattle.std.specs.List.{filter, flat_map}
use Rattle.std.proofs.lemmas.List.{map-append}
use Rattle.std.proofs.lemmas.List.Elements.{filter-append}
use Rattle.std.proofs.lemmas.List.Folds.{flat_map-map}
use Rattle.reg_base.specs.declared.records.Side.{Side}
use Rattle.reg_base.specs.declared.records.Document.{Document}
use Rattle.reg_base.specs.declared.tables.Range.{Range}
use Rattle.reg_base.specs.declared.tables.AccountRow.{AccountRow}
use Rattle.reg_base.specs.BookedEntries.{BookedEntry, entered_by, entries_of, entries_in}
use Rattle.reg_base.specs.Sums.{in_order_once}
use Rattle.reg_base.proofs.ForTables.{entries_of-permutation, IsPermutation-filter}
use Rattle.cfg_model.specs.declared.ledger.Chart.{Chart}
use Rattle.cfg_model.specs.declared.account.Account.{Account}
use Rattle.cfg_model.specs.AccountTables.{AccountKey, is_asked, keys_of_side, keys_of_entry}
use Rattle.cfg_model.specs.AccountTables.{account_key_cmp, account_keys_of, range_units, has_amount}
use Rattle.cfg_model.specs.AccountTables.{account_turnover_row, account_turnover_rows, nature_at}
use Rattle.cfg_model.specs.AccountTables.{account_turnovers_of, account_both_row, account_both_of}
use Rattle.ledger_reg.specs.declared.ask.AccountAsk.{AccountAsk}
use Rattle.ledger_reg.specs.declared.sides.Amounts.{Amounts}
use Rattle.ledger_reg.specs.declared.units.Units.{Units}
use Rattle.ledger_reg.specs.declared.walk.Span.TheVariants.{During, Through}
use Rattle.ledger_reg.specs.Sides.{SidePlace, place_cmp}
use Rattle.ledger_reg.specs.Slots.{SlotAmounts, slot_side, slot_sums, slot_at, amount_to, as_debit}
use Rattle.ledger_reg.specs.Slots.{as_credit, slots_of}
use Rattle.ledger_reg.specs.UnitRows.{place_of, key_of_place, starts_by, own_sums, place_rows}
use Rattle.ledger_reg.specs.UnitRows.{asked_rows, account_place, unit_table}
use Rattle.ledger_reg.specs.Walks.{counts}
use Rattle.ledger_reg.proofs.KeyLemmas.{in_order_once-map, sums-places}
use Rattle.ledger_reg.proofs.MovedLemmas.{range_slots, exact-moved, rolled-moved}
use Rattle.ledger_reg.proofs.SlotLemmas.{sums-permutation}
use Rattle.ledger_reg.proofs.UnitRowLemmas.{turnover-rows, both-rows}

-- rows of what is asked for, made one after the other
module _ {X : Type 0} (made : X → List AccountRow) (key : X → AccountKey)
    (asked : AccountKey → Bool) (rows : AccountKey → List AccountRow)
    (each : (x : X) → made x ≡ cond (asked (key x)) (filter has_amount (rows (key x))) []) where
  keyed-rows : (xs : List X)
      → flat_map made xs ≡ filter has_amount (flat_map rows (filter asked (map key xs)))
  keyed-rows [] = refl
  keyed-rows (x ∷ xs) =
      ap (λ rs. rs ++ flat_map made xs) (each x) ∙ at (asked (key x)) (keyed-rows xs)
    where
      others : List AccountKey
      others = filter asked (map key xs)

      at : (b : Bool) → flat_map made xs ≡ filter has_amount (flat_map rows others)
          → cond b (filter has_amount (rows (key x))) [] ++ flat_map made xs
          ≡ filter has_amount (flat_map rows (cond b (key x ∷ others) others))
      at true ih =
          ap (λ rs. filter has_amount (rows (key x)) ++ rs) ih
          ∙ sym (filter-append has_amount (rows (key x)) (flat_map rows others))
      at false ih = ih

-- ---- the keys of a table

key_of : SlotAmounts → AccountKey
key_of e = key_of_place (place_of e.0)

side-keys : (slot : ℕ) (side : Option Side) (a : Amounts)
    → keys_of_side side ≡ map (λ e. key_of_place (place_of e.0)) (slot_side slot side a)
side-keys slot None a = refl
side-keys slot (Some side) a = refl

map-twice : (es : List SlotAmounts) → map (λ e. key_of_place (place_of e.0)) es
    ≡ map key_of_place (map (λ e. place_of e.0) es)
map-twice [] = refl
map-twice (e ∷ es) = ap (λ t. key_of_place (place_of e.0) ∷ t) (map-twice es)

entry-keys : (range : Range) (bs : List BookedEntry)
    → flat_map keys_of_entry bs
    ≡ map (λ e. key_of_place (place_of e.0)) (flat_map (range_slots range) bs)
entry-keys range [] = refl
entry-keys range (b ∷ bs) =
    let slot = slot_at range b.entry.period in
    let amount = amount_to range b.entry.period b.entry.amount in
    let debits = slot_side slot b.entry.debit (as_debit amount) in
    let credits = slot_side slot b.entry.credit (as_credit amount) in
    (λ i. (side-keys slot b.entry.debit (as_debit amount) i
    ++ side-keys slot b.entry.credit (as_credit amount) i) ++ entry-keys range bs i)
    ∙ ap (λ ks. ks ++ map (λ e. key_of_place (place_of e.0)) (flat_map (range_slots range) bs))
    (sym (map-append (λ (e : SlotAmounts). key_of_place (place_of e.0)) debits credits))
    ∙ sym (map-append (λ (e : SlotAmounts). key_of_place (place_of e.0)) (debits ++ credits)
    (flat_map (range_slots range) bs))

table-keys : (range : Range) (bs : List BookedEntry)
    → map key_of_place (in_order_once place_cmp
    (map (λ e. place_of e.0) (flat_map (range_slots range) bs)))
    ≡ in_order_once account_key_cmp (flat_map keys_of_entry bs)
table-keys range bs =
    let added = flat_map (range_slots range) bs in
    sym (in_order_once-map place_cmp account_key_cmp key_of_place (λ p q. refl)
    (map (λ e. place_of e.0) added))
    ∙ ap (in_order_once account_key_cmp) (sym (map-twice added) ∙ sym (entry-keys range bs))

-- ---- tables

module _ (chart : Chart) (ledger : ℕ) (account : Option (List ℕ)) (range : Range)
    (bs : List BookedEntry) where
  abbrev sums : List SlotAmounts
  sums = slot_sums (flat_map (range_slots range) bs)

  abbrev ask_of : Bool → AccountAsk
  ask_of extras = record { ledger = ledger; account = account; extras = extras }

  abbrev units_of : Bool → Units
  units_of nets = record {
    by = range.by;
    nets = nets;
    starts = starts_by range.by range.from range.to;
  }

  abbrev asked : AccountKey → Bool
  asked k = is_asked chart account k.account

  -- a table whose rows of each key are made
  module _ (nets : Bool) (rows : AccountKey → List AccountRow)
      (exact : (p : SidePlace)
      → place_rows (units_of nets) (nature_at chart p.account) (own_sums chart true sums p) p
      ≡ filter has_amount (rows (key_of_place p)))
      (rolled : (top : List ℕ)
      → place_rows (units_of nets) (nature_at chart top)
      (own_sums chart false sums (record { account = top; extras = [] }))
      (record { account = top; extras = [] })
      ≡ filter has_amount (rows (record { account = top; extras = None }))) where
    table-rows : (extras : Bool)
        → unit_table chart (ask_of extras) (units_of nets) sums
        ≡ filter has_amount (flat_map rows (account_keys_of chart account extras bs))
    table-rows true =
        ap (flat_map (asked_rows chart (ask_of true) (units_of nets) sums))
        (sums-places (flat_map (range_slots range) bs))
        ∙ keyed-rows (asked_rows chart (ask_of true) (units_of nets) sums) key_of_place asked rows
        (λ p. ap (λ rs. cond (asked (key_of_place p)) rs []) (exact p))
        (in_order_once place_cmp (map (λ e. place_of e.0) (flat_map (range_slots range) bs)))
        ∙ ap (λ ks. filter has_amount (flat_map rows (filter asked ks))) (table-keys range bs)
    table-rows false =
        flat_map-map (asked_rows chart (ask_of false) (units_of nets) sums) account_place
        chart.accounts
        ∙ keyed-rows
        (λ (a : Account). asked_rows chart (ask_of false) (units_of nets) sums (account_place a))
        (λ (a : Account). record { account = a.code; extras = None }) asked rows
        (λ a. ap (λ rs. cond (asked (record { account = a.code; extras = None })) rs [])
        (rolled a.code))
        chart.accounts

  turnovers-made : (extras : Bool) → entries_in range bs ≡ bs
      → unit_table chart (ask_of extras) (units_of false) sums
      ≡ account_turnover_rows chart account extras range bs
  unfolding account_turnover_rows
  turnovers-made extras within =
      table-rows false
      (λ k. map (account_turnover_row chart range.by (entries_in range bs) k) (range_units range))
      (λ p. turnover-rows chart (key_of_place p) range bs (own_sums chart true sums p) p
      (exact-moved chart range bs p) (λ u o d c cl. refl) (nature_at chart p.account))
      (λ top. turnover-rows chart (record { account = top; extras = None }) range bs
      (own_sums chart false sums (record { account = top; extras = [] }))
      (record { account = top; extras = [] }) (rolled-moved chart range bs top)
      (λ u o d c cl. refl) (nature_at chart top))
      extras
      ∙ ap (λ es. filter has_amount (flat_map
      (λ k. map (account_turnover_row chart range.by es k) (range_units range))
      (account_keys_of chart account extras bs))) within

  both-made : (extras : Bool)
      → unit_table chart (ask_of extras) (units_of true) sums
      ≡ account_both_of chart bs account extras range
  unfolding account_both_of
  both-made extras =
      table-rows true (λ k. map (account_both_row chart range bs k) (range_units range))
      (λ p. both-rows chart (key_of_place p) range bs (own_sums chart true sums p) p
      (exact-moved chart range bs p) (λ u o d c cl. refl))
      (λ top. both-rows chart (record { account = top; extras = None }) range bs
      (own_sums chart false sums (record { account = top; extras = [] }))
      (record { account = top; extras = [] }) (rolled-moved chart range bs top)
      (λ u o d c cl. refl))
      extras

-- ---- over the entries as the documents hold them

filter-twice : {X : Type 0} (p : X → Bool) (xs : List X) → filter p (filter p xs) ≡ filter p xs
filter-twice p [] = refl
filter-twice {X} p (x ∷ xs) = at (p x) refl (filter-twice p xs)
  where
    at : (b : Bool) → p x ≡ b → filter p (filter p xs) ≡ filter p xs
        → filter p (cond {A = List X} b (x ∷ filter p xs) (filter p xs))
        ≡ cond {A = List X} b (x ∷ filter p xs) (filter p xs)
    at true e ih =
        ap (λ b. cond b (x ∷ filter p (filter p xs)) (filter p (filter p xs))) e
        ∙ ap (λ t. x ∷ t) ih
    at false e ih = ih

filter-all : {X : Type 0} (xs : List X) → filter (λ x. true) xs ≡ xs
filter-all [] = refl
filter-all (x ∷ xs) = ap (λ t. x ∷ t) (filter-all xs)

module _ (chart : Chart) (ask : AccountAsk) (range : Range) (documents : List Document) where
  abbrev entered : List BookedEntry
  entered = flat_map (entered_by ask.ledger) documents

  abbrev all : List BookedEntry
  all = entries_of ask.ledger documents

  pub shown-turnovers : unit_table chart ask (record {
    by = range.by;
    nets = false;
    starts = starts_by range.by range.from range.to;
  }) (slot_sums (flat_map (slots_of (During range)) (filter (counts (During range)) entered)))
      ≡ account_turnovers_of chart all ask.account ask.extras range
  shown-turnovers =
      ap (unit_table chart ask (record {
        by = range.by;
        nets = false;
        starts = starts_by range.by range.from range.to;
      })) (sums-permutation (range_slots range) (filter (counts (During range)) entered)
      (entries_in range all) (IsPermutation-filter (counts (During range)) entered all
      (entries_of-permutation ask.ledger documents)))
      ∙ turnovers-made chart ask.ledger ask.account range (entries_in range all) ask.extras
      (filter-twice (λ b. nat_le range.from b.entry.period && nat_le b.entry.period range.to) all)

  pub shown-both : unit_table chart ask (record {
    by = range.by;
    nets = true;
    starts = starts_by range.by range.from range.to;
  }) (slot_sums (flat_map (slots_of (Through range)) (filter (counts (Through range)) entered)))
      ≡ account_both_of chart all ask.account ask.extras range
  shown-both =
      ap (unit_table chart ask (record {
        by = range.by;
        nets = true;
        starts = starts_by range.by range.from range.to;
      })) (ap (λ bs. slot_sums (flat_map (range_slots range) bs)) (filter-all entered)
      ∙ sums-permutation (range_slots range) entered all
      (entries_of-permutation ask.ledger documents))
      ∙ both-made chart ask.ledger ask.account range all ask.extras
