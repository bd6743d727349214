-- The tables of accounts computed on small charts: each row is what an independent model gives.
use Rattle.std.proofs.Common.{◌≡◌, ℕ, ℤ, pos, negsuc, Bool, true, false, Option, Some, None, List}
use Rattle.std.proofs.Common.{[], ◌∷◌, refl, codes}
use Rattle.reg_base.specs.declared.records.DocState.TheVariants.{Posted}
use Rattle.reg_base.specs.declared.records.Document.{Document}
use Rattle.reg_base.specs.declared.records.Posting.{Posting}
use Rattle.reg_base.specs.declared.records.Side.{Side}
use Rattle.reg_base.specs.declared.cut.Cut.TheVariants.{Now, ThroughDate, BeforePoint}
use Rattle.reg_base.specs.declared.tables.Periodicity.TheVariants.{Period, Day, Week}
use Rattle.reg_base.specs.declared.tables.Unit.{Unit as TableUnit}
use Rattle.reg_base.specs.declared.tables.Unit.TheVariants.{Whole, Start}
use Rattle.reg_base.specs.declared.tables.AccountRow.{AccountRow}
use Rattle.reg_base.specs.BookedEntries.{entries_of}
use Rattle.reg_base.specs.Units.{starts_between, starts_unit, unit_start, start_day}
use Rattle.cfg_model.specs.declared.ledger.Chart.{Chart}
use Rattle.cfg_model.specs.declared.account.Account.{Account}
use Rattle.cfg_model.specs.declared.account.Nature.{Nature}
use Rattle.cfg_model.specs.declared.account.Nature.TheVariants.{Active, Passive, Both}
use Rattle.cfg_model.specs.Places.{account_at}
use Rattle.cfg_model.specs.Accounts.{leads_to}
use Rattle.cfg_model.specs.AccountTables.{balance_rows, account_turnover_rows, account_both_of}
use Rattle.cfg_model.specs.AccountTables.{pair_rows, account_balance_of, account_turnovers_of}
use Rattle.cfg_model.specs.AccountTables.{dr_cr_of}

account : List ℕ → Nature → Bool → Option (List ℕ) → List (List ℕ) → Account
account code nature off parent extras = record {
  code = code;
  name = codes "x";
  nature = nature;
  off = off;
  parent = parent;
  extras = extras;
}

side : List ℕ → List (List ℕ) → Option Side
side account extras = Some (record { account = account; extras = extras })

entry : ℕ → ℕ → Option Side → Option Side → ℤ → Posting
entry line period debit credit amount = record {
  line = line;
  period = period;
  debit = debit;
  credit = credit;
  amount = amount;
}

-- a posted document with these entries
document : ℕ → ℕ → List Posting → Document
document number date entries = record {
  doc = record {
    number = number;
    kind = None;
    date = date;
    head = [];
    lines = [];
    comment = [];
    key = None;
    state = Posted;
    active = true;
  };
  sets = record { registers = []; ledgers = entries ∷ [] };
}

row : List ℕ → List (List ℕ) → TableUnit → ℤ → ℤ → ℤ → ℤ → ℤ → ℤ → AccountRow
row account extras unit open_dr open_cr turn_dr turn_cr close_dr close_cr = record {
  account = account;
  extras = extras;
  unit = unit;
  open_dr = open_dr;
  open_cr = open_cr;
  turn_dr = turn_dr;
  turn_cr = turn_cr;
  close_dr = close_dr;
  close_cr = close_cr;
}

-- goods by item, suppliers and sales
shop : Chart
shop = record {
  name = codes "main";
  scale = 2;
  split = false;
  accounts =
      account (codes "10") Active false None (codes "item" ∷ [])
      ∷ account (codes "60") Passive false None []
      ∷ account (codes "90") Active false None []
      ∷ [];
}

bought : List Document
bought =
    document 1 758160000
    (entry 1 758160000 (side (codes "10") (codes "nail" ∷ []))
    (side (codes "60") []) (pos 10000) ∷ [])
    ∷ document 2 758246400
    (entry 1 758246400 (side (codes "10") (codes "nail" ∷ []))
    (side (codes "60") []) (pos 7500) ∷ [])
    ∷ document 3 758332800
    (entry 1 758332800 (side (codes "90") [])
    (side (codes "10") (codes "nail" ∷ [])) (pos 13000) ∷ [])
    ∷ []

-- two receipts of goods, and a sale
pairs : dr_cr_of shop (entries_of 0 bought) None (record { from = 0; to = 3155759999; by = Period })
    ≡ record { debit = Some (codes "10"); credit = Some (codes "60"); amount = pos 17500 }
    ∷ record { debit = Some (codes "90"); credit = Some (codes "10"); amount = pos 13000 }
    ∷ []
unfolding pair_rows account_at leads_to shop bought account side entry document
pairs = refl

pairs_of_goods : dr_cr_of shop (entries_of 0 bought) (Some (codes "60"))
    (record { from = 0; to = 3155759999; by = Period })
    ≡ record { debit = Some (codes "10"); credit = Some (codes "60"); amount = pos 17500 }
    ∷ []
unfolding pair_rows account_at leads_to shop bought account side entry document
pairs_of_goods = refl

balances : account_balance_of shop (entries_of 0 bought) None false Now
    ≡ row (codes "10") [] Whole (pos 0) (pos 0) (pos 0) (pos 0) (pos 4500) (pos 0)
    ∷ row (codes "60") [] Whole (pos 0) (pos 0) (pos 0) (pos 0) (pos 0) (pos 17500)
    ∷ row (codes "90") [] Whole (pos 0) (pos 0) (pos 0) (pos 0) (pos 13000) (pos 0)
    ∷ []
unfolding balance_rows account_at leads_to shop bought account side entry document row
balances = refl

balances_by_item : account_balance_of shop (entries_of 0 bought) None true Now
    ≡ row (codes "10") (codes "nail" ∷ []) Whole (pos 0) (pos 0) (pos 0) (pos 0) (pos 4500) (pos 0)
    ∷ row (codes "60") [] Whole (pos 0) (pos 0) (pos 0) (pos 0) (pos 0) (pos 17500)
    ∷ row (codes "90") [] Whole (pos 0) (pos 0) (pos 0) (pos 0) (pos 13000) (pos 0)
    ∷ []
unfolding balance_rows account_at leads_to shop bought account side entry document row
balances_by_item = refl

goods_alone : account_balance_of shop (entries_of 0 bought) (Some (codes "10")) false
    (BeforePoint (record { date = 758246400; doc = 2 }))
    ≡ row (codes "10") [] Whole (pos 0) (pos 0) (pos 0) (pos 0) (pos 10000) (pos 0)
    ∷ []
unfolding balance_rows account_at leads_to shop bought account side entry document row
goods_alone = refl

goods_through : account_balance_of shop (entries_of 0 bought) (Some (codes "10")) false
    (ThroughDate 758246400)
    ≡ row (codes "10") [] Whole (pos 0) (pos 0) (pos 0) (pos 0) (pos 17500) (pos 0)
    ∷ []
unfolding balance_rows account_at leads_to shop bought account side entry document row
goods_through = refl

trial_balance : account_both_of shop (entries_of 0 bought) None false
    (record { from = 757382400; to = 760060799; by = Period })
    ≡ row (codes "10") [] Whole (pos 0) (pos 0) (pos 17500) (pos 13000) (pos 4500) (pos 0)
    ∷ row (codes "60") [] Whole (pos 0) (pos 0) (pos 0) (pos 17500) (pos 0) (pos 17500)
    ∷ row (codes "90") [] Whole (pos 0) (pos 0) (pos 13000) (pos 0) (pos 13000) (pos 0)
    ∷ []
unfolding account_both_of account_at leads_to shop bought account side entry document row
trial_balance = refl

turnovers : account_turnovers_of shop (entries_of 0 bought) None false
    (record { from = 757382400; to = 762480000; by = Period })
    ≡ row (codes "10") [] Whole (pos 0) (pos 0) (pos 17500) (pos 13000) (pos 0) (pos 0)
    ∷ row (codes "60") [] Whole (pos 0) (pos 0) (pos 0) (pos 17500) (pos 0) (pos 0)
    ∷ row (codes "90") [] Whole (pos 0) (pos 0) (pos 13000) (pos 0) (pos 0) (pos 0)
    ∷ []
unfolding account_turnover_rows account_at leads_to shop bought account side entry document row
turnovers = refl

turnovers_by_item : account_turnovers_of shop (entries_of 0 bought) (Some (codes "10")) true
    (record { from = 758246400; to = 762480000; by = Period })
    ≡ row (codes "10") (codes "nail" ∷ []) Whole
    (pos 0) (pos 0) (pos 7500) (pos 13000) (pos 0) (pos 0)
    ∷ []
unfolding account_turnover_rows account_at leads_to shop bought account side entry document row
turnovers_by_item = refl

opened_later : account_both_of shop (entries_of 0 bought) None false
    (record { from = 758246400; to = 758332799; by = Period })
    ≡ row (codes "10") [] Whole (pos 10000) (pos 0) (pos 7500) (pos 0) (pos 17500) (pos 0)
    ∷ row (codes "60") [] Whole (pos 0) (pos 10000) (pos 0) (pos 7500) (pos 0) (pos 17500)
    ∷ []
unfolding account_both_of account_at leads_to shop bought account side entry document row
opened_later = refl

-- an account with a balance, of which nothing moves
nothing_moved : account_both_of shop (entries_of 0 bought) (Some (codes "60")) false
    (record { from = 762480000; to = 762480000; by = Day })
    ≡ row (codes "60") [] (Start 762480000) (pos 0) (pos 17500) (pos 0) (pos 0) (pos 0) (pos 17500)
    ∷ []
unfolding account_both_of starts_between starts_unit unit_start start_day account_at leads_to shop
    bought account side entry document row
nothing_moved = refl

nothing_turned : account_turnovers_of shop (entries_of 0 bought) (Some (codes "60")) false
    (record { from = 762480000; to = 762480000; by = Day })
    ≡ []
unfolding account_turnover_rows starts_between starts_unit unit_start start_day account_at leads_to
    shop bought account side entry document row
nothing_turned = refl

-- two levels below a parent of both kinds, and an account off balance
deep : Chart
deep = record {
  name = codes "main";
  scale = 2;
  split = false;
  accounts =
      account (codes "1") Active false None []
      ∷ account (codes "11") Passive false (Some (codes "1")) (codes "e" ∷ [])
      ∷ account (codes "12") Both false (Some (codes "1")) []
      ∷ account (codes "2") Both false None []
      ∷ account (codes "21") Active false (Some (codes "2")) []
      ∷ account (codes "211") Both false (Some (codes "21")) []
      ∷ account (codes "3") Passive false None (codes "a" ∷ codes "b" ∷ [])
      ∷ account (codes "o") Active true None []
      ∷ [];
}

inner : List Document
inner =
    document 1 760838400
    (entry 1 760838400 (side (codes "11") (codes "e" ∷ [])) (side (codes "12") []) (pos 7) ∷ [])
    ∷ []

-- an entry with both sides below one account turns there on both sides and leaves no balance
both_sides_below : account_both_of deep (entries_of 0 inner) None false
    (record { from = 760838400; to = 760838400; by = Period })
    ≡ row (codes "1") [] Whole (pos 0) (pos 0) (pos 7) (pos 7) (pos 0) (pos 0)
    ∷ row (codes "11") [] Whole (pos 0) (pos 0) (pos 7) (pos 0) (pos 0) (negsuc 6)
    ∷ row (codes "12") [] Whole (pos 0) (pos 0) (pos 0) (pos 7) (pos 0) (pos 7)
    ∷ []
unfolding account_both_of account_at leads_to deep inner account side entry document row
both_sides_below = refl

no_balance_above : account_balance_of deep (entries_of 0 inner) (Some (codes "1")) false Now
    ≡ row (codes "11") [] Whole (pos 0) (pos 0) (pos 0) (pos 0) (pos 0) (negsuc 6)
    ∷ row (codes "12") [] Whole (pos 0) (pos 0) (pos 0) (pos 0) (pos 0) (pos 7)
    ∷ []
unfolding balance_rows account_at leads_to deep inner account side entry document row
no_balance_above = refl

alone : List Document
alone =
    document 1 760838400 (
    entry 1 760838400 (side (codes "o") []) None (pos 5)
    ∷ entry 2 760838400 None (side (codes "o") []) (pos 2)
    ∷ entry 3 760838400 (side (codes "11") (codes "e" ∷ [])) (side (codes "211") []) (pos 4)
    ∷ entry 4 760838400 (side (codes "11") (codes "f" ∷ [])) (side (codes "211") []) (negsuc 2)
    ∷ [])
    ∷ []

-- an account off balance stands alone, and an absent side stands first
absent_first : dr_cr_of deep (entries_of 0 alone) None
    (record { from = 760838400; to = 760838400; by = Period })
    ≡ record { debit = None; credit = Some (codes "o"); amount = pos 2 }
    ∷ record { debit = Some (codes "11"); credit = Some (codes "211"); amount = pos 1 }
    ∷ record { debit = Some (codes "o"); credit = None; amount = pos 5 }
    ∷ []
unfolding pair_rows account_at leads_to deep alone account side entry document
absent_first = refl

absent_asked : dr_cr_of deep (entries_of 0 alone) (Some (codes "o"))
    (record { from = 760838400; to = 760838400; by = Period })
    ≡ record { debit = None; credit = Some (codes "o"); amount = pos 2 }
    ∷ record { debit = Some (codes "o"); credit = None; amount = pos 5 }
    ∷ []
unfolding pair_rows account_at leads_to deep alone account side entry document
absent_asked = refl

below_asked : dr_cr_of deep (entries_of 0 alone) (Some (codes "2"))
    (record { from = 760838400; to = 760838400; by = Period })
    ≡ record { debit = Some (codes "11"); credit = Some (codes "211"); amount = pos 1 }
    ∷ []
unfolding pair_rows account_at leads_to deep alone account side entry document
below_asked = refl

off_balance : account_balance_of deep (entries_of 0 alone) (Some (codes "o")) false Now
    ≡ row (codes "o") [] Whole (pos 0) (pos 0) (pos 0) (pos 0) (pos 3) (pos 0)
    ∷ []
unfolding balance_rows account_at leads_to deep alone account side entry document row
off_balance = refl

extras_told_apart : account_balance_of deep (entries_of 0 alone) (Some (codes "1")) true Now
    ≡ row (codes "11") (codes "e" ∷ []) Whole (pos 0) (pos 0) (pos 0) (pos 0) (pos 0) (negsuc 3)
    ∷ row (codes "11") (codes "f" ∷ []) Whole (pos 0) (pos 0) (pos 0) (pos 0) (pos 0) (pos 3)
    ∷ []
unfolding balance_rows account_at leads_to deep alone account side entry document row
extras_told_apart = refl

storno : List Document
storno =
    document 1 760838400 (
    entry 1 760838400 (side (codes "11") (codes "e" ∷ [])) (side (codes "211") []) (pos 4)
    ∷ entry 2 760838400 (side (codes "11") (codes "f" ∷ [])) (side (codes "211") []) (negsuc 3)
    ∷ entry 3 760838400 (side (codes "12") []) (side (codes "211") []) (pos 1)
    ∷ [])
    ∷ []

-- two entries of one pair of accounts sum to zero: no row
summed_to_zero : dr_cr_of deep (entries_of 0 storno) None
    (record { from = 760838400; to = 760838400; by = Period })
    ≡ record { debit = Some (codes "12"); credit = Some (codes "211"); amount = pos 1 }
    ∷ []
unfolding pair_rows account_at leads_to deep storno account side entry document
summed_to_zero = refl

turned_to_zero : account_turnovers_of deep (entries_of 0 storno) None false
    (record { from = 760838400; to = 760838400; by = Period })
    ≡ row (codes "1") [] Whole (pos 0) (pos 0) (pos 1) (pos 0) (pos 0) (pos 0)
    ∷ row (codes "12") [] Whole (pos 0) (pos 0) (pos 1) (pos 0) (pos 0) (pos 0)
    ∷ row (codes "2") [] Whole (pos 0) (pos 0) (pos 0) (pos 1) (pos 0) (pos 0)
    ∷ row (codes "21") [] Whole (pos 0) (pos 0) (pos 0) (pos 1) (pos 0) (pos 0)
    ∷ row (codes "211") [] Whole (pos 0) (pos 0) (pos 0) (pos 1) (pos 0) (pos 0)
    ∷ []
unfolding account_turnover_rows account_at leads_to deep storno account side entry document row
turned_to_zero = refl

owed : List Document
owed =
    document 1 760838400
    (entry 1 760838400 (side (codes "3") (codes "a" ∷ codes "b" ∷ []))
    (side (codes "211") []) (pos 6) ∷ [])
    ∷ []

-- a parent of both kinds shows the side of its net: credit where its leaves owe
owing_parent : account_balance_of deep (entries_of 0 owed) (Some (codes "2")) false Now
    ≡ row (codes "2") [] Whole (pos 0) (pos 0) (pos 0) (pos 0) (pos 0) (pos 6)
    ∷ row (codes "21") [] Whole (pos 0) (pos 0) (pos 0) (pos 0) (negsuc 5) (pos 0)
    ∷ row (codes "211") [] Whole (pos 0) (pos 0) (pos 0) (pos 0) (pos 0) (pos 6)
    ∷ []
unfolding balance_rows account_at leads_to deep owed account side entry document row
owing_parent = refl

back : List Document
back =
    document 1 760838400
    (entry 1 760838400 (side (codes "211") [])
    (side (codes "3") (codes "a" ∷ codes "b" ∷ [])) (pos 6) ∷ [])
    ∷ []

-- and debit where they are owed
owed_parent : account_balance_of deep (entries_of 0 back) (Some (codes "2")) false Now
    ≡ row (codes "2") [] Whole (pos 0) (pos 0) (pos 0) (pos 0) (pos 6) (pos 0)
    ∷ row (codes "21") [] Whole (pos 0) (pos 0) (pos 0) (pos 0) (pos 6) (pos 0)
    ∷ row (codes "211") [] Whole (pos 0) (pos 0) (pos 0) (pos 0) (pos 6) (pos 0)
    ∷ []
unfolding balance_rows account_at leads_to deep back account side entry document row
owed_parent = refl

turned : List Document
turned =
    document 1 757382399 (
    entry 1 757382399 (side (codes "11") (codes "x" ∷ [])) (side (codes "211") []) (pos 10)
    ∷ entry 2 757382399 (side (codes "11") (codes "y" ∷ [])) (side (codes "12") []) (pos 3)
    ∷ [])
    ∷ document 2 757382400
    (entry 1 757382400 (side (codes "3") (codes "x" ∷ codes "y" ∷ []))
    (side (codes "11") (codes "x" ∷ [])) (pos 4) ∷ [])
    ∷ document 3 757468900 (
    entry 1 757468900 (side (codes "12") []) (side (codes "11") (codes "y" ∷ [])) (pos 3)
    ∷ entry 2 757468900 (side (codes "o") []) None (pos 8)
    ∷ [])
    ∷ document 4 757987300
    (entry 1 757987300 (side (codes "211") [])
    (side (codes "3") (codes "x" ∷ codes "y" ∷ [])) (negsuc 0) ∷ [])
    ∷ []

whole_all_turned : account_turnovers_of deep (entries_of 0 turned) None false
    (record { from = 757296000; to = 757990000; by = Period })
    ≡ row (codes "1") [] Whole (pos 0) (pos 0) (pos 16) (pos 10) (pos 0) (pos 0)
    ∷ row (codes "11") [] Whole (pos 0) (pos 0) (pos 13) (pos 7) (pos 0) (pos 0)
    ∷ row (codes "12") [] Whole (pos 0) (pos 0) (pos 3) (pos 3) (pos 0) (pos 0)
    ∷ row (codes "2") [] Whole (pos 0) (pos 0) (negsuc 0) (pos 10) (pos 0) (pos 0)
    ∷ row (codes "21") [] Whole (pos 0) (pos 0) (negsuc 0) (pos 10) (pos 0) (pos 0)
    ∷ row (codes "211") [] Whole (pos 0) (pos 0) (negsuc 0) (pos 10) (pos 0) (pos 0)
    ∷ row (codes "3") [] Whole (pos 0) (pos 0) (pos 4) (negsuc 0) (pos 0) (pos 0)
    ∷ row (codes "o") [] Whole (pos 0) (pos 0) (pos 8) (pos 0) (pos 0) (pos 0)
    ∷ []
unfolding account_turnover_rows account_at leads_to deep turned account side entry document row
whole_all_turned = refl

whole_all : account_both_of deep (entries_of 0 turned) None false
    (record { from = 757296000; to = 757990000; by = Period })
    ≡ row (codes "1") [] Whole (pos 0) (pos 0) (pos 16) (pos 10) (pos 6) (pos 0)
    ∷ row (codes "11") [] Whole (pos 0) (pos 0) (pos 13) (pos 7) (pos 0) (negsuc 5)
    ∷ row (codes "12") [] Whole (pos 0) (pos 0) (pos 3) (pos 3) (pos 0) (pos 0)
    ∷ row (codes "2") [] Whole (pos 0) (pos 0) (negsuc 0) (pos 10) (pos 0) (pos 11)
    ∷ row (codes "21") [] Whole (pos 0) (pos 0) (negsuc 0) (pos 10) (negsuc 10) (pos 0)
    ∷ row (codes "211") [] Whole (pos 0) (pos 0) (negsuc 0) (pos 10) (pos 0) (pos 11)
    ∷ row (codes "3") [] Whole (pos 0) (pos 0) (pos 4) (negsuc 0) (pos 0) (negsuc 4)
    ∷ row (codes "o") [] Whole (pos 0) (pos 0) (pos 8) (pos 0) (pos 8) (pos 0)
    ∷ []
unfolding account_both_of account_at leads_to deep turned account side entry document row
whole_all = refl

whole_by_extras_turned : account_turnovers_of deep (entries_of 0 turned) (Some (codes "1")) true
    (record { from = 757296000; to = 757990000; by = Period })
    ≡ row (codes "11") (codes "x" ∷ []) Whole (pos 0) (pos 0) (pos 10) (pos 4) (pos 0) (pos 0)
    ∷ row (codes "11") (codes "y" ∷ []) Whole (pos 0) (pos 0) (pos 3) (pos 3) (pos 0) (pos 0)
    ∷ row (codes "12") [] Whole (pos 0) (pos 0) (pos 3) (pos 3) (pos 0) (pos 0)
    ∷ []
unfolding account_turnover_rows account_at leads_to deep turned account side entry document row
whole_by_extras_turned = refl

whole_by_extras : account_both_of deep (entries_of 0 turned) (Some (codes "1")) true
    (record { from = 757296000; to = 757990000; by = Period })
    ≡ row (codes "11") (codes "x" ∷ []) Whole (pos 0) (pos 0) (pos 10) (pos 4) (pos 0) (negsuc 5)
    ∷ row (codes "11") (codes "y" ∷ []) Whole (pos 0) (pos 0) (pos 3) (pos 3) (pos 0) (pos 0)
    ∷ row (codes "12") [] Whole (pos 0) (pos 0) (pos 3) (pos 3) (pos 0) (pos 0)
    ∷ []
unfolding account_both_of account_at leads_to deep turned account side entry document row
whole_by_extras = refl

whole_of_part_turned : account_turnovers_of deep (entries_of 0 turned) (Some (codes "21")) false
    (record { from = 757296000; to = 757990000; by = Period })
    ≡ row (codes "21") [] Whole (pos 0) (pos 0) (negsuc 0) (pos 10) (pos 0) (pos 0)
    ∷ row (codes "211") [] Whole (pos 0) (pos 0) (negsuc 0) (pos 10) (pos 0) (pos 0)
    ∷ []
unfolding account_turnover_rows account_at leads_to deep turned account side entry document row
whole_of_part_turned = refl

whole_of_part : account_both_of deep (entries_of 0 turned) (Some (codes "21")) false
    (record { from = 757296000; to = 757990000; by = Period })
    ≡ row (codes "21") [] Whole (pos 0) (pos 0) (negsuc 0) (pos 10) (negsuc 10) (pos 0)
    ∷ row (codes "211") [] Whole (pos 0) (pos 0) (negsuc 0) (pos 10) (pos 0) (pos 11)
    ∷ []
unfolding account_both_of account_at leads_to deep turned account side entry document row
whole_of_part = refl

days_all_turned : account_turnovers_of deep (entries_of 0 turned) None false
    (record { from = 757300000; to = 757468950; by = Day })
    ≡ row (codes "1") [] (Start 757296000) (pos 0) (pos 0) (pos 13) (pos 3) (pos 0) (pos 0)
    ∷ row (codes "1") [] (Start 757382400) (pos 0) (pos 0) (pos 0) (pos 4) (pos 0) (pos 0)
    ∷ row (codes "1") [] (Start 757468800) (pos 0) (pos 0) (pos 3) (pos 3) (pos 0) (pos 0)
    ∷ row (codes "11") [] (Start 757296000) (pos 0) (pos 0) (pos 13) (pos 0) (pos 0) (pos 0)
    ∷ row (codes "11") [] (Start 757382400) (pos 0) (pos 0) (pos 0) (pos 4) (pos 0) (pos 0)
    ∷ row (codes "11") [] (Start 757468800) (pos 0) (pos 0) (pos 0) (pos 3) (pos 0) (pos 0)
    ∷ row (codes "12") [] (Start 757296000) (pos 0) (pos 0) (pos 0) (pos 3) (pos 0) (pos 0)
    ∷ row (codes "12") [] (Start 757468800) (pos 0) (pos 0) (pos 3) (pos 0) (pos 0) (pos 0)
    ∷ row (codes "2") [] (Start 757296000) (pos 0) (pos 0) (pos 0) (pos 10) (pos 0) (pos 0)
    ∷ row (codes "21") [] (Start 757296000) (pos 0) (pos 0) (pos 0) (pos 10) (pos 0) (pos 0)
    ∷ row (codes "211") [] (Start 757296000) (pos 0) (pos 0) (pos 0) (pos 10) (pos 0) (pos 0)
    ∷ row (codes "3") [] (Start 757382400) (pos 0) (pos 0) (pos 4) (pos 0) (pos 0) (pos 0)
    ∷ row (codes "o") [] (Start 757468800) (pos 0) (pos 0) (pos 8) (pos 0) (pos 0) (pos 0)
    ∷ []
unfolding account_turnover_rows starts_between starts_unit unit_start start_day account_at leads_to
    deep turned account side entry document row
days_all_turned = refl

days_all : account_both_of deep (entries_of 0 turned) None false
    (record { from = 757300000; to = 757468950; by = Day })
    ≡ row (codes "1") [] (Start 757296000) (pos 0) (pos 0) (pos 13) (pos 3) (pos 10) (pos 0)
    ∷ row (codes "1") [] (Start 757382400) (pos 10) (pos 0) (pos 0) (pos 4) (pos 6) (pos 0)
    ∷ row (codes "1") [] (Start 757468800) (pos 6) (pos 0) (pos 3) (pos 3) (pos 6) (pos 0)
    ∷ row (codes "11") [] (Start 757296000) (pos 0) (pos 0) (pos 13) (pos 0) (pos 0) (negsuc 12)
    ∷ row (codes "11") [] (Start 757382400) (pos 0) (negsuc 12) (pos 0) (pos 4) (pos 0) (negsuc 8)
    ∷ row (codes "11") [] (Start 757468800) (pos 0) (negsuc 8) (pos 0) (pos 3) (pos 0) (negsuc 5)
    ∷ row (codes "12") [] (Start 757296000) (pos 0) (pos 0) (pos 0) (pos 3) (pos 0) (pos 3)
    ∷ row (codes "12") [] (Start 757382400) (pos 0) (pos 3) (pos 0) (pos 0) (pos 0) (pos 3)
    ∷ row (codes "12") [] (Start 757468800) (pos 0) (pos 3) (pos 3) (pos 0) (pos 0) (pos 0)
    ∷ row (codes "2") [] (Start 757296000) (pos 0) (pos 0) (pos 0) (pos 10) (pos 0) (pos 10)
    ∷ row (codes "2") [] (Start 757382400) (pos 0) (pos 10) (pos 0) (pos 0) (pos 0) (pos 10)
    ∷ row (codes "2") [] (Start 757468800) (pos 0) (pos 10) (pos 0) (pos 0) (pos 0) (pos 10)
    ∷ row (codes "21") [] (Start 757296000) (pos 0) (pos 0) (pos 0) (pos 10) (negsuc 9) (pos 0)
    ∷ row (codes "21") [] (Start 757382400) (negsuc 9) (pos 0) (pos 0) (pos 0) (negsuc 9) (pos 0)
    ∷ row (codes "21") [] (Start 757468800) (negsuc 9) (pos 0) (pos 0) (pos 0) (negsuc 9) (pos 0)
    ∷ row (codes "211") [] (Start 757296000) (pos 0) (pos 0) (pos 0) (pos 10) (pos 0) (pos 10)
    ∷ row (codes "211") [] (Start 757382400) (pos 0) (pos 10) (pos 0) (pos 0) (pos 0) (pos 10)
    ∷ row (codes "211") [] (Start 757468800) (pos 0) (pos 10) (pos 0) (pos 0) (pos 0) (pos 10)
    ∷ row (codes "3") [] (Start 757382400) (pos 0) (pos 0) (pos 4) (pos 0) (pos 0) (negsuc 3)
    ∷ row (codes "3") [] (Start 757468800) (pos 0) (negsuc 3) (pos 0) (pos 0) (pos 0) (negsuc 3)
    ∷ row (codes "o") [] (Start 757468800) (pos 0) (pos 0) (pos 8) (pos 0) (pos 8) (pos 0)
    ∷ []
unfolding account_both_of starts_between starts_unit unit_start start_day account_at leads_to deep
    turned account side entry document row
days_all = refl

days_by_extras_turned : account_turnovers_of deep (entries_of 0 turned) (Some (codes "1")) true
    (record { from = 757300000; to = 757468950; by = Day })
    ≡ row (codes "11") (codes "x" ∷ []) (Start 757296000)
    (pos 0) (pos 0) (pos 10) (pos 0) (pos 0) (pos 0)
    ∷ row (codes "11") (codes "x" ∷ []) (Start 757382400)
    (pos 0) (pos 0) (pos 0) (pos 4) (pos 0) (pos 0)
    ∷ row (codes "11") (codes "y" ∷ []) (Start 757296000)
    (pos 0) (pos 0) (pos 3) (pos 0) (pos 0) (pos 0)
    ∷ row (codes "11") (codes "y" ∷ []) (Start 757468800)
    (pos 0) (pos 0) (pos 0) (pos 3) (pos 0) (pos 0)
    ∷ row (codes "12") [] (Start 757296000) (pos 0) (pos 0) (pos 0) (pos 3) (pos 0) (pos 0)
    ∷ row (codes "12") [] (Start 757468800) (pos 0) (pos 0) (pos 3) (pos 0) (pos 0) (pos 0)
    ∷ []
unfolding account_turnover_rows starts_between starts_unit unit_start start_day account_at leads_to
    deep turned account side entry document row
days_by_extras_turned = refl

days_by_extras : account_both_of deep (entries_of 0 turned) (Some (codes "1")) true
    (record { from = 757300000; to = 757468950; by = Day })
    ≡ row (codes "11") (codes "x" ∷ []) (Start 757296000)
    (pos 0) (pos 0) (pos 10) (pos 0) (pos 0) (negsuc 9)
    ∷ row (codes "11") (codes "x" ∷ []) (Start 757382400)
    (pos 0) (negsuc 9) (pos 0) (pos 4) (pos 0) (negsuc 5)
    ∷ row (codes "11") (codes "x" ∷ []) (Start 757468800)
    (pos 0) (negsuc 5) (pos 0) (pos 0) (pos 0) (negsuc 5)
    ∷ row (codes "11") (codes "y" ∷ []) (Start 757296000)
    (pos 0) (pos 0) (pos 3) (pos 0) (pos 0) (negsuc 2)
    ∷ row (codes "11") (codes "y" ∷ []) (Start 757382400)
    (pos 0) (negsuc 2) (pos 0) (pos 0) (pos 0) (negsuc 2)
    ∷ row (codes "11") (codes "y" ∷ []) (Start 757468800)
    (pos 0) (negsuc 2) (pos 0) (pos 3) (pos 0) (pos 0)
    ∷ row (codes "12") [] (Start 757296000) (pos 0) (pos 0) (pos 0) (pos 3) (pos 0) (pos 3)
    ∷ row (codes "12") [] (Start 757382400) (pos 0) (pos 3) (pos 0) (pos 0) (pos 0) (pos 3)
    ∷ row (codes "12") [] (Start 757468800) (pos 0) (pos 3) (pos 3) (pos 0) (pos 0) (pos 0)
    ∷ []
unfolding account_both_of starts_between starts_unit unit_start start_day account_at leads_to deep
    turned account side entry document row
days_by_extras = refl

days_of_part_turned : account_turnovers_of deep (entries_of 0 turned) (Some (codes "21")) false
    (record { from = 757300000; to = 757468950; by = Day })
    ≡ row (codes "21") [] (Start 757296000) (pos 0) (pos 0) (pos 0) (pos 10) (pos 0) (pos 0)
    ∷ row (codes "211") [] (Start 757296000) (pos 0) (pos 0) (pos 0) (pos 10) (pos 0) (pos 0)
    ∷ []
unfolding account_turnover_rows starts_between starts_unit unit_start start_day account_at leads_to
    deep turned account side entry document row
days_of_part_turned = refl

days_of_part : account_both_of deep (entries_of 0 turned) (Some (codes "21")) false
    (record { from = 757300000; to = 757468950; by = Day })
    ≡ row (codes "21") [] (Start 757296000) (pos 0) (pos 0) (pos 0) (pos 10) (negsuc 9) (pos 0)
    ∷ row (codes "21") [] (Start 757382400) (negsuc 9) (pos 0) (pos 0) (pos 0) (negsuc 9) (pos 0)
    ∷ row (codes "21") [] (Start 757468800) (negsuc 9) (pos 0) (pos 0) (pos 0) (negsuc 9) (pos 0)
    ∷ row (codes "211") [] (Start 757296000) (pos 0) (pos 0) (pos 0) (pos 10) (pos 0) (pos 10)
    ∷ row (codes "211") [] (Start 757382400) (pos 0) (pos 10) (pos 0) (pos 0) (pos 0) (pos 10)
    ∷ row (codes "211") [] (Start 757468800) (pos 0) (pos 10) (pos 0) (pos 0) (pos 0) (pos 10)
    ∷ []
unfolding account_both_of starts_between starts_unit unit_start start_day account_at leads_to deep
    turned account side entry document row
days_of_part = refl

weeks_all_turned : account_turnovers_of deep (entries_of 0 turned) None false
    (record { from = 757382399; to = 757987350; by = Week })
    ≡ row (codes "1") [] (Start 756777600) (pos 0) (pos 0) (pos 13) (pos 3) (pos 0) (pos 0)
    ∷ row (codes "1") [] (Start 757382400) (pos 0) (pos 0) (pos 3) (pos 7) (pos 0) (pos 0)
    ∷ row (codes "11") [] (Start 756777600) (pos 0) (pos 0) (pos 13) (pos 0) (pos 0) (pos 0)
    ∷ row (codes "11") [] (Start 757382400) (pos 0) (pos 0) (pos 0) (pos 7) (pos 0) (pos 0)
    ∷ row (codes "12") [] (Start 756777600) (pos 0) (pos 0) (pos 0) (pos 3) (pos 0) (pos 0)
    ∷ row (codes "12") [] (Start 757382400) (pos 0) (pos 0) (pos 3) (pos 0) (pos 0) (pos 0)
    ∷ row (codes "2") [] (Start 756777600) (pos 0) (pos 0) (pos 0) (pos 10) (pos 0) (pos 0)
    ∷ row (codes "2") [] (Start 757987200) (pos 0) (pos 0) (negsuc 0) (pos 0) (pos 0) (pos 0)
    ∷ row (codes "21") [] (Start 756777600) (pos 0) (pos 0) (pos 0) (pos 10) (pos 0) (pos 0)
    ∷ row (codes "21") [] (Start 757987200) (pos 0) (pos 0) (negsuc 0) (pos 0) (pos 0) (pos 0)
    ∷ row (codes "211") [] (Start 756777600) (pos 0) (pos 0) (pos 0) (pos 10) (pos 0) (pos 0)
    ∷ row (codes "211") [] (Start 757987200) (pos 0) (pos 0) (negsuc 0) (pos 0) (pos 0) (pos 0)
    ∷ row (codes "3") [] (Start 757382400) (pos 0) (pos 0) (pos 4) (pos 0) (pos 0) (pos 0)
    ∷ row (codes "3") [] (Start 757987200) (pos 0) (pos 0) (pos 0) (negsuc 0) (pos 0) (pos 0)
    ∷ row (codes "o") [] (Start 757382400) (pos 0) (pos 0) (pos 8) (pos 0) (pos 0) (pos 0)
    ∷ []
unfolding account_turnover_rows starts_between starts_unit unit_start start_day account_at leads_to
    deep turned account side entry document row
weeks_all_turned = refl

weeks_all : account_both_of deep (entries_of 0 turned) None false
    (record { from = 757382399; to = 757987350; by = Week })
    ≡ row (codes "1") [] (Start 756777600) (pos 0) (pos 0) (pos 13) (pos 3) (pos 10) (pos 0)
    ∷ row (codes "1") [] (Start 757382400) (pos 10) (pos 0) (pos 3) (pos 7) (pos 6) (pos 0)
    ∷ row (codes "1") [] (Start 757987200) (pos 6) (pos 0) (pos 0) (pos 0) (pos 6) (pos 0)
    ∷ row (codes "11") [] (Start 756777600) (pos 0) (pos 0) (pos 13) (pos 0) (pos 0) (negsuc 12)
    ∷ row (codes "11") [] (Start 757382400) (pos 0) (negsuc 12) (pos 0) (pos 7) (pos 0) (negsuc 5)
    ∷ row (codes "11") [] (Start 757987200) (pos 0) (negsuc 5) (pos 0) (pos 0) (pos 0) (negsuc 5)
    ∷ row (codes "12") [] (Start 756777600) (pos 0) (pos 0) (pos 0) (pos 3) (pos 0) (pos 3)
    ∷ row (codes "12") [] (Start 757382400) (pos 0) (pos 3) (pos 3) (pos 0) (pos 0) (pos 0)
    ∷ row (codes "2") [] (Start 756777600) (pos 0) (pos 0) (pos 0) (pos 10) (pos 0) (pos 10)
    ∷ row (codes "2") [] (Start 757382400) (pos 0) (pos 10) (pos 0) (pos 0) (pos 0) (pos 10)
    ∷ row (codes "2") [] (Start 757987200) (pos 0) (pos 10) (negsuc 0) (pos 0) (pos 0) (pos 11)
    ∷ row (codes "21") [] (Start 756777600) (pos 0) (pos 0) (pos 0) (pos 10) (negsuc 9) (pos 0)
    ∷ row (codes "21") [] (Start 757382400) (negsuc 9) (pos 0) (pos 0) (pos 0) (negsuc 9) (pos 0)
    ∷ row (codes "21") [] (Start 757987200)
    (negsuc 9) (pos 0) (negsuc 0) (pos 0) (negsuc 10) (pos 0)
    ∷ row (codes "211") [] (Start 756777600) (pos 0) (pos 0) (pos 0) (pos 10) (pos 0) (pos 10)
    ∷ row (codes "211") [] (Start 757382400) (pos 0) (pos 10) (pos 0) (pos 0) (pos 0) (pos 10)
    ∷ row (codes "211") [] (Start 757987200) (pos 0) (pos 10) (negsuc 0) (pos 0) (pos 0) (pos 11)
    ∷ row (codes "3") [] (Start 757382400) (pos 0) (pos 0) (pos 4) (pos 0) (pos 0) (negsuc 3)
    ∷ row (codes "3") [] (Start 757987200) (pos 0) (negsuc 3) (pos 0) (negsuc 0) (pos 0) (negsuc 4)
    ∷ row (codes "o") [] (Start 757382400) (pos 0) (pos 0) (pos 8) (pos 0) (pos 8) (pos 0)
    ∷ row (codes "o") [] (Start 757987200) (pos 8) (pos 0) (pos 0) (pos 0) (pos 8) (pos 0)
    ∷ []
unfolding account_both_of starts_between starts_unit unit_start start_day account_at leads_to deep
    turned account side entry document row
weeks_all = refl

weeks_by_extras_turned : account_turnovers_of deep (entries_of 0 turned) (Some (codes "1")) true
    (record { from = 757382399; to = 757987350; by = Week })
    ≡ row (codes "11") (codes "x" ∷ []) (Start 756777600)
    (pos 0) (pos 0) (pos 10) (pos 0) (pos 0) (pos 0)
    ∷ row (codes "11") (codes "x" ∷ []) (Start 757382400)
    (pos 0) (pos 0) (pos 0) (pos 4) (pos 0) (pos 0)
    ∷ row (codes "11") (codes "y" ∷ []) (Start 756777600)
    (pos 0) (pos 0) (pos 3) (pos 0) (pos 0) (pos 0)
    ∷ row (codes "11") (codes "y" ∷ []) (Start 757382400)
    (pos 0) (pos 0) (pos 0) (pos 3) (pos 0) (pos 0)
    ∷ row (codes "12") [] (Start 756777600) (pos 0) (pos 0) (pos 0) (pos 3) (pos 0) (pos 0)
    ∷ row (codes "12") [] (Start 757382400) (pos 0) (pos 0) (pos 3) (pos 0) (pos 0) (pos 0)
    ∷ []
unfolding account_turnover_rows starts_between starts_unit unit_start start_day account_at leads_to
    deep turned account side entry document row
weeks_by_extras_turned = refl

weeks_by_extras : account_both_of deep (entries_of 0 turned) (Some (codes "1")) true
    (record { from = 757382399; to = 757987350; by = Week })
    ≡ row (codes "11") (codes "x" ∷ []) (Start 756777600)
    (pos 0) (pos 0) (pos 10) (pos 0) (pos 0) (negsuc 9)
    ∷ row (codes "11") (codes "x" ∷ []) (Start 757382400)
    (pos 0) (negsuc 9) (pos 0) (pos 4) (pos 0) (negsuc 5)
    ∷ row (codes "11") (codes "x" ∷ []) (Start 757987200)
    (pos 0) (negsuc 5) (pos 0) (pos 0) (pos 0) (negsuc 5)
    ∷ row (codes "11") (codes "y" ∷ []) (Start 756777600)
    (pos 0) (pos 0) (pos 3) (pos 0) (pos 0) (negsuc 2)
    ∷ row (codes "11") (codes "y" ∷ []) (Start 757382400)
    (pos 0) (negsuc 2) (pos 0) (pos 3) (pos 0) (pos 0)
    ∷ row (codes "12") [] (Start 756777600) (pos 0) (pos 0) (pos 0) (pos 3) (pos 0) (pos 3)
    ∷ row (codes "12") [] (Start 757382400) (pos 0) (pos 3) (pos 3) (pos 0) (pos 0) (pos 0)
    ∷ []
unfolding account_both_of starts_between starts_unit unit_start start_day account_at leads_to deep
    turned account side entry document row
weeks_by_extras = refl

weeks_of_part_turned : account_turnovers_of deep (entries_of 0 turned) (Some (codes "21")) false
    (record { from = 757382399; to = 757987350; by = Week })
    ≡ row (codes "21") [] (Start 756777600) (pos 0) (pos 0) (pos 0) (pos 10) (pos 0) (pos 0)
    ∷ row (codes "21") [] (Start 757987200) (pos 0) (pos 0) (negsuc 0) (pos 0) (pos 0) (pos 0)
    ∷ row (codes "211") [] (Start 756777600) (pos 0) (pos 0) (pos 0) (pos 10) (pos 0) (pos 0)
    ∷ row (codes "211") [] (Start 757987200) (pos 0) (pos 0) (negsuc 0) (pos 0) (pos 0) (pos 0)
    ∷ []
unfolding account_turnover_rows starts_between starts_unit unit_start start_day account_at leads_to
    deep turned account side entry document row
weeks_of_part_turned = refl

weeks_of_part : account_both_of deep (entries_of 0 turned) (Some (codes "21")) false
    (record { from = 757382399; to = 757987350; by = Week })
    ≡ row (codes "21") [] (Start 756777600) (pos 0) (pos 0) (pos 0) (pos 10) (negsuc 9) (pos 0)
    ∷ row (codes "21") [] (Start 757382400) (negsuc 9) (pos 0) (pos 0) (pos 0) (negsuc 9) (pos 0)
    ∷ row (codes "21") [] (Start 757987200)
    (negsuc 9) (pos 0) (negsuc 0) (pos 0) (negsuc 10) (pos 0)
    ∷ row (codes "211") [] (Start 756777600) (pos 0) (pos 0) (pos 0) (pos 10) (pos 0) (pos 10)
    ∷ row (codes "211") [] (Start 757382400) (pos 0) (pos 10) (pos 0) (pos 0) (pos 0) (pos 10)
    ∷ row (codes "211") [] (Start 757987200) (pos 0) (pos 10) (negsuc 0) (pos 0) (pos 0) (pos 11)
    ∷ []
unfolding account_both_of starts_between starts_unit unit_start start_day account_at leads_to deep
    turned account side entry document row
weeks_of_part = refl
