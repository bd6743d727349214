-- What an entry that is accepted adds to the leaves that are not off-balance.
use Rattle.std.proofs.Common.{◌≡◌, ℕ, zero, suc, ℤ, pos, ◌+ℤ◌, Bool, true, false, not, ◌&&◌, ◌||◌}
use Rattle.std.proofs.Common.{cond, Option, Some, None, option_and_then, Ok, List, [], ◌∷◌, length}
use Rattle.std.proofs.Common.{map, refl, ap, ◌∙◌, sym}
use Rattle.std.specs.Prelude.{is_some, is_ok}
use Rattle.std.specs.Bool.{beq}
use Rattle.std.specs.Str.{bytes_eq}
use Rattle.std.specs.List.{list_any, All, AllByRecursion}
use Rattle.std.specs.List.Sorted.{IsStrictlySortedBy}
use Rattle.std.specs.Cmp.Lexicographic.{slice_cmp, same_text}
use Rattle.std.specs.Ordering.{nat_cmp, is_eq}
use Rattle.std.specs.declared.cmp.Ordering.TheVariants.{Less}
use Rattle.std.proofs.lemmas.Map.Text.{is_eq-slice_cmp}
use Rattle.reg_base.specs.Results.{◌>>=◌, unless}
use Rattle.reg_base.specs.declared.records.Side.{Side}
use Rattle.reg_base.specs.declared.fault.EntryFault.{EntryFault}
use Rattle.reg_base.specs.declared.fault.EntryFault.TheVariants.{UnknownAccount, GroupAccount}
use Rattle.reg_base.specs.declared.fault.EntryFault.TheVariants.{ExtraCount, Sides}
use Rattle.reg_base.specs.BookedEntries.{BookedEntry}
use Rattle.reg_base.specs.Sums.{sum_over}
use Rattle.cfg_model.specs.declared.ledger.Chart.{Chart}
use Rattle.cfg_model.specs.declared.account.Account.{Account}
use Rattle.cfg_model.specs.Places.{account_at}
use Rattle.cfg_model.specs.Accounts.{leads_to, parent_of}
use Rattle.cfg_model.specs.Resolving.{HasAccountsInOrder}
use Rattle.cfg_model.specs.Entries.{is_parent, is_off, is_leaf, has_account, is_off_balance}
use Rattle.cfg_model.specs.Entries.{of_side, has_extras, sides_fit, entry_check}
use Rattle.cfg_model.specs.AccountTables.{AccountKey, side_amount, debit_at, credit_at}
use Rattle.cfg_model.specs.LedgerLaws.{IsAcceptedEntry, is_on_balance_leaf}
use Rattle.cfg_model.proofs.SumLemmas.{zero_first, zero_last, sum_over-same, sum_over-same_on}
use Rattle.cfg_model.proofs.SumLemmas.{sum_over-zeros, sum_over-swap, cond-sum}

-- the parent is there and has this code
this : List ℕ → Option (List ℕ) → Bool
this code None = false
this code (Some parent) = bytes_eq parent code

is_parent-this : (code : List ℕ) (a : Account) (p : Option (List ℕ))
    → is_parent code (record a { parent = p }) ≡ this code p
unfolding this
is_parent-this code a None = refl
is_parent-this code a (Some p) = refl

pub or-first : (a b : Bool) → (a || b) ≡ false → a ≡ false
or-first true b h = h
or-first false b h = refl

pub or-second : (a b : Bool) → (a || b) ≡ false → b ≡ false
or-second true true h = h
or-second true false h = refl
or-second false b h = h

-- no account has a leaf for its parent
parent_of-leaf : (accounts : List Account) (code c : List ℕ)
    → list_any (is_parent code) accounts ≡ false → this code (parent_of accounts c) ≡ false
unfolding account_at this
parent_of-leaf [] code c h = refl
parent_of-leaf (a ∷ more) code c h =
    at (bytes_eq a.code c)
    (sym (is_parent-this code a a.parent)
    ∙ or-first (is_parent code a) (list_any (is_parent code) more) h)
    (parent_of-leaf more code c (or-second (is_parent code a) (list_any (is_parent code) more) h))
  where
    at : (b : Bool) → this code a.parent ≡ false → this code (parent_of more c) ≡ false
        → this code (option_and_then (λ q. q.parent) (cond b (Some a) (account_at c more)))
        ≡ false
    at true here later = here
    at false here later = later

-- so no way from parent to parent comes to a leaf
pub leads_to-leaf : (n : ℕ) (accounts : List Account) (code c : List ℕ)
    → list_any (is_parent code) accounts ≡ false
    → leads_to n accounts code (parent_of accounts c) ≡ false
unfolding leads_to this
leads_to-leaf zero accounts code c h = refl
leads_to-leaf (suc n) accounts code c h =
    at (parent_of accounts c) (parent_of-leaf accounts code c h)
    (λ p. leads_to-leaf n accounts code p h)
  where
    at : (o : Option (List ℕ)) → this code o ≡ false
        → ((p : List ℕ) → leads_to n accounts code (parent_of accounts p) ≡ false)
        → leads_to (suc n) accounts code o ≡ false
    at None here later = refl
    at (Some p) here later =
        ap (λ b. cond b true (leads_to n accounts code (parent_of accounts p))) here ∙ later p

-- the key of an account without extras
abbrev pub whole : List ℕ → AccountKey
whole code = record { account = code; extras = None }

leaf_of : (x y : Bool) → (not x && y) ≡ true → x ≡ false
leaf_of true y h = sym h
leaf_of false y h = refl

-- a side counts at a leaf exactly where it names it
leaf_point : (chart : Chart) (code : List ℕ) (s : Side) (amount : ℤ)
    → cond (is_on_balance_leaf chart code) (side_amount chart (whole code) (Some s) amount) (pos 0)
    ≡ cond (bytes_eq code s.account) (cond (is_on_balance_leaf chart s.account) amount (pos 0))
    (pos 0)
leaf_point chart code s amount =
    at (is_on_balance_leaf chart code) refl (bytes_eq code s.account) refl
  where
    at : (v : Bool) → is_on_balance_leaf chart code ≡ v
        → (w : Bool) → bytes_eq code s.account ≡ w
        → cond v (cond (w || leads_to (length chart.accounts) chart.accounts code
        (parent_of chart.accounts s.account)) amount (pos 0)) (pos 0)
        ≡ cond w (cond (is_on_balance_leaf chart s.account) amount (pos 0)) (pos 0)
    at true p true q = sym (ap (λ b. cond b amount (pos 0))
        (sym (ap (is_on_balance_leaf chart) (same_text code s.account (sym q))) ∙ p))
    at true p false q = ap (λ b. cond b amount (pos 0))
        (leads_to-leaf (length chart.accounts) chart.accounts code s.account (leaf_of _ _ p))
    at false p true q = sym (ap (λ b. cond b amount (pos 0))
        (sym (ap (is_on_balance_leaf chart) (same_text code s.account (sym q))) ∙ p))
    at false p false q = refl

-- accounts behind one of this code have other codes
absent-sum : (c : List ℕ) (v : ℤ) (more : List Account)
    → AllByRecursion (λ y. slice_cmp nat_cmp c y ≡ Less) (map (λ a. a.code) more)
    → sum_over (λ a. cond (bytes_eq a.code c) v (pos 0)) more ≡ pos 0
absent-sum c v [] h = refl
absent-sum c v (a ∷ more) h =
    ap (λ b. cond b v (pos 0) +ℤ sum_over (λ q. cond (bytes_eq q.code c) v (pos 0)) more)
    (other a.code h.0)
    ∙ zero_first (sum_over (λ q. cond (bytes_eq q.code c) v (pos 0)) more)
    ∙ absent-sum c v more h.1
  where
    other : (d : List ℕ) → slice_cmp nat_cmp c d ≡ Less → bytes_eq d c ≡ false
    other d less = differ (bytes_eq d c) refl
      where
        differ : (b : Bool) → bytes_eq d c ≡ b → b ≡ false
        differ false e = refl
        differ true e = let same = same_text d c (sym e) in
            sym e ∙ ap (λ x. bytes_eq x c) same ∙ sym (ap (λ x. bytes_eq c x) same)
            ∙ sym (is_eq-slice_cmp c d) ∙ ap is_eq less

-- of accounts with distinct codes, one at most has this code
present-sum : (c : List ℕ) (v : ℤ) (accounts : List Account)
    → IsStrictlySortedBy (slice_cmp nat_cmp) (map (λ a. a.code) accounts)
    → sum_over (λ a. cond (bytes_eq a.code c) v (pos 0)) accounts
    ≡ cond (is_some (account_at c accounts)) v (pos 0)
unfolding account_at IsStrictlySortedBy
present-sum c v [] h = refl
present-sum c v (a ∷ more) h = at (bytes_eq a.code c) refl (present-sum c v more h.1)
  where
    at : (b : Bool) → bytes_eq a.code c ≡ b
        → sum_over (λ q. cond (bytes_eq q.code c) v (pos 0)) more
        ≡ cond (is_some (account_at c more)) v (pos 0)
        → cond b v (pos 0) +ℤ sum_over (λ q. cond (bytes_eq q.code c) v (pos 0)) more
        ≡ cond (is_some (cond b (Some a) (account_at c more))) v (pos 0)
    at true e later = let same = same_text a.code c (sym e) in
        ap (λ t. v +ℤ t)
        (ap (λ x. sum_over (λ q. cond (bytes_eq q.code x) v (pos 0)) more) (sym same)
        ∙ absent-sum a.code v more h.0)
        ∙ zero_last v
    at false e later =
        zero_first (sum_over (λ q. cond (bytes_eq q.code c) v (pos 0)) more) ∙ later

-- the amount of a side whose account is a leaf and not off-balance
on_side : Chart → Option Side → ℤ → ℤ
on_side chart None amount = pos 0
on_side chart (Some s) amount = cond (is_on_balance_leaf chart s.account) amount (pos 0)

known : (l k o : Bool) (x : ℤ)
    → cond k (cond (l && (k && o)) x (pos 0)) (pos 0) ≡ cond (l && (k && o)) x (pos 0)
known l true o x = refl
known true false o x = refl
known false false o x = refl

cond-zero : (b : Bool) → cond b (pos 0) (pos 0) ≡ pos 0
cond-zero true = refl
cond-zero false = refl

-- a side adds its amount to the leaves that are not off-balance at most once
side_sum : (chart : Chart) → HasAccountsInOrder chart → (side : Option Side) (amount : ℤ)
    → sum_over (λ a. cond (is_on_balance_leaf chart a.code)
    (side_amount chart (whole a.code) side amount) (pos 0)) chart.accounts
    ≡ on_side chart side amount
unfolding on_side
side_sum chart sorted None amount =
    sum_over-zeros chart.accounts _ (λ a. cond-zero (is_on_balance_leaf chart a.code))
side_sum chart sorted (Some s) amount =
    sum_over-same _ _ (λ a. leaf_point chart a.code s amount) chart.accounts
    ∙ present-sum s.account (cond (is_on_balance_leaf chart s.account) amount (pos 0))
    chart.accounts sorted
    ∙ known (not (list_any (is_parent s.account) chart.accounts))
    (is_some (account_at s.account chart.accounts))
    (not (is_off (account_at s.account chart.accounts))) amount

-- what passes four tests passes each
passes : (a b c d : Bool) (f g h k : EntryFault)
    → (unless a f >>= λ _. unless b g >>= λ _. unless c h >>= λ _. unless d k) ≡ Ok tt
    → ((a && b) && d) ≡ true
passes false b c d f g h k e = ap is_ok e
passes true false c d f g h k e = ap is_ok e
passes true true false true f g h k e = refl
passes true true false false f g h k e = ap is_ok e
passes true true true true f g h k e = refl
passes true true true false f g h k e = ap is_ok e

alone : (k l o : Bool) → ((k && l) && o) ≡ true → (l && (k && not o)) ≡ false
alone false l o e = ap (λ b. cond b false (l && false)) e
alone true false o e = refl
alone true true true e = refl
alone true true false e = sym e

both : (kd kc ld lc od oc : Bool) → (((kd && kc) && (ld && lc)) && beq od oc) ≡ true
    → (ld && (kd && not od)) ≡ (lc && (kc && not oc))
both false kc ld lc od oc e = ap (λ b. cond b (lc && (kc && not oc)) (ld && false)) e
both true false ld lc od oc e = ap (λ b. cond b (lc && false) (ld && not od)) e
both true true false lc od oc e = ap (λ b. cond b (lc && not oc) false) e
both true true true false od oc e = ap (λ b. cond b false (not od)) e
both true true true true true true e = refl
both true true true true false false e = refl
both true true true true true false e = e
both true true true true false true e = sym e

-- an accepted entry has known accounts that are leaves, and sides that fit
pub fits : (chart : Chart) (d c : Option Side) → entry_check chart d c ≡ Ok tt
    → (((of_side (has_account chart) d && of_side (has_account chart) c)
    && (of_side (is_leaf chart) d && of_side (is_leaf chart) c)) && sides_fit chart d c) ≡ true
unfolding entry_check
fits chart d c e =
    passes (of_side (has_account chart) d && of_side (has_account chart) c)
    (of_side (is_leaf chart) d && of_side (is_leaf chart) c)
    (of_side (has_extras chart) d && of_side (has_extras chart) c) (sides_fit chart d c)
    UnknownAccount GroupAccount ExtraCount Sides e

-- the sides of an accepted entry add the same
accepted : (chart : Chart) (debit credit : Option Side) (amount : ℤ)
    → entry_check chart debit credit ≡ Ok tt
    → on_side chart debit amount ≡ on_side chart credit amount
unfolding on_side
accepted chart None None amount e = refl
accepted chart (Some s) None amount e =
    ap (λ b. cond b amount (pos 0)) (alone (has_account chart s) (is_leaf chart s)
    (is_off_balance chart s) (one (has_account chart s) (is_leaf chart s) (is_off_balance chart s)
    (fits chart (Some s) None e)))
  where
    one : (k l o : Bool) → (((k && true) && (l && true)) && o) ≡ true → ((k && l) && o) ≡ true
    one true true o h = h
    one true false o h = h
    one false l o h = h
accepted chart None (Some s) amount e =
    sym (ap (λ b. cond b amount (pos 0)) (alone (has_account chart s) (is_leaf chart s)
    (is_off_balance chart s) (fits chart None (Some s) e)))
accepted chart (Some d) (Some c) amount e =
    ap (λ b. cond b amount (pos 0)) (both (has_account chart d) (has_account chart c)
    (is_leaf chart d) (is_leaf chart c) (is_off_balance chart d) (is_off_balance chart c)
    (fits chart (Some d) (Some c) e))

-- what an entry adds to the leaves that are not off-balance
abbrev on_leaf : Chart → (AccountKey → BookedEntry → ℤ) → Account → BookedEntry → ℤ
on_leaf chart side a b = cond (is_on_balance_leaf chart a.code) (side (whole a.code) b) (pos 0)

-- an accepted entry adds the same to debits and to credits
per_entry : (chart : Chart) → HasAccountsInOrder chart
    → (b : BookedEntry) → IsAcceptedEntry chart b
    → sum_over (λ a. on_leaf chart (debit_at chart) a b) chart.accounts
    ≡ sum_over (λ a. on_leaf chart (credit_at chart) a b) chart.accounts
per_entry chart sorted b e =
    side_sum chart sorted b.entry.debit b.entry.amount
    ∙ accepted chart b.entry.debit b.entry.credit b.entry.amount e
    ∙ sym (side_sum chart sorted b.entry.credit b.entry.amount)

-- what the leaves that are not off-balance have on a side
abbrev pub on_leaves : Chart → (AccountKey → BookedEntry → ℤ) → List BookedEntry → ℤ
on_leaves chart side entries = sum_over (λ a. cond (is_on_balance_leaf chart a.code)
    (sum_over (side (whole a.code)) entries) (pos 0)) chart.accounts

by_entry : (chart : Chart) (side : AccountKey → BookedEntry → ℤ) (entries : List BookedEntry)
    → on_leaves chart side entries
    ≡ sum_over (λ b. sum_over (λ a. on_leaf chart side a b) chart.accounts) entries
by_entry chart side entries =
    sum_over-same _ (λ (a : Account). sum_over (on_leaf chart side a) entries)
    (λ a. cond-sum (is_on_balance_leaf chart a.code) (side (whole a.code)) entries) chart.accounts
    ∙ sum_over-swap (on_leaf chart side) chart.accounts entries

-- over accepted entries the leaves that are not off-balance have equal debits and credits
pub leaves-balance : (chart : Chart) → HasAccountsInOrder chart
    → (entries : List BookedEntry) → All (IsAcceptedEntry chart) entries
    → on_leaves chart (debit_at chart) entries ≡ on_leaves chart (credit_at chart) entries
leaves-balance chart sorted entries h =
    by_entry chart (debit_at chart) entries
    ∙ sum_over-same_on (IsAcceptedEntry chart)
    (λ b. sum_over (λ a. on_leaf chart (debit_at chart) a b) chart.accounts)
    (λ b. sum_over (λ a. on_leaf chart (credit_at chart) a b) chart.accounts)
    (per_entry chart sorted) entries h
    ∙ sym (by_entry chart (credit_at chart) entries)
