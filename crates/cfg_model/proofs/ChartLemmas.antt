-- Charts of accounts: the way to the parents, and the order of codes.
use Rattle.std.proofs.Common.{◌≡◌, ◌≢◌, ℕ, suc, ◌+◌, ◌≤◌, Bool, true, false, cond, ◌||◌, List}
use Rattle.std.proofs.Common.{[], ◌∷◌, map, length, Option, Some, None, Result, Ok, IfSome, codes}
use Rattle.std.proofs.Common.{refl, ap, ◌∙◌, sym, subst, arith, Ordering, Less, Equal, Greater}
use Rattle.std.proofs.Common.{nat_cmp}
use Rattle.std.specs.Prelude.{is_some}
use Rattle.std.specs.Cmp.Lexicographic.{slice_cmp}
use Rattle.std.specs.Ordering.{match_ordering, ordering_reverse}
use Rattle.std.specs.Str.{bytes_eq}
use Rattle.std.specs.List.{AllByRecursion}
use Rattle.std.specs.List.Sorted.{IsStrictlySortedBy}
use Rattle.std.specs.BTreeMap.{insert_entry}
use Rattle.std.proofs.lemmas.Cmp.{nat_list_cmp_total}
use Rattle.std.proofs.lemmas.Map.Lookups.{exact_bytes}
use Rattle.toml.specs.Data.{Members}
use Rattle.reg_base.specs.Results.{some_or}
use Rattle.cfg_model.specs.declared.account.Account.{Account}
use Rattle.cfg_model.specs.declared.fault.CfgFault.{CfgFault}
use Rattle.cfg_model.specs.declared.fault.CfgFault.TheVariants.{Field, Unknown}
use Rattle.cfg_model.specs.Words.{key_path}
use Rattle.cfg_model.specs.Limits.{account_limit, extra_limit}
use Rattle.cfg_model.specs.Walk.{at_most, of_shape, toml_list}
use Rattle.cfg_model.specs.Places.{account_at}
use Rattle.cfg_model.specs.Resolving.{AreAscending, above}
use Rattle.cfg_model.specs.Accounts.{put_account, by_code, toml_account}
use Rattle.cfg_model.specs.Accounts.{each_checked, few_extras, each_once, parent_known}
use Rattle.cfg_model.specs.Accounts.{has_known_parent, not_circular, read_accounts}
use Rattle.cfg_model.specs.Accounts.{check_accounts, check_parents}
use Rattle.cfg_model.specs.AccountMaps.{Keyed, AreKeyed, values_of}
use Rattle.cfg_model.proofs.CircleLemmas.{has_no_circle, ways-end_sorted}
use Rattle.cfg_model.proofs.SortedAccounts.{put_all}
use Rattle.cfg_model.proofs.Steps.{bind-Ok, same_Ok, unless-Ok}
use Rattle.cfg_model.proofs.ListLemmas.{at_most-Ok}
use Rattle.cfg_model.proofs.Walks.{none-ascend}

-- an account that enters a map by its code takes the same place among the accounts
pub put_account-entry : (a : Account) (es : List Keyed) → AreKeyed es
    → values_of (insert_entry (slice_cmp nat_cmp) es a.code a)
    ≡ put_account a (values_of es)
put_account-entry a [] h = refl
put_account-entry a (e ∷ es) h =
    ap (λ (code : List ℕ). values_of (match_ordering (slice_cmp nat_cmp a.code code)
    ((a.code, a) ∷ e ∷ es) ((e.0, a) ∷ es) (e ∷ insert_entry (slice_cmp nat_cmp) es a.code a))) h.0
    ∙ at (put_account-entry a es h.1) (slice_cmp nat_cmp a.code e.1.code)
  where
    at : values_of (insert_entry (slice_cmp nat_cmp) es a.code a)
        ≡ put_account a (values_of es)
        → (order : Ordering)
        → values_of (match_ordering order ((a.code, a) ∷ e ∷ es) ((e.0, a) ∷ es)
        (e ∷ insert_entry (slice_cmp nat_cmp) es a.code a))
        ≡ match_ordering order (a ∷ e.1 ∷ values_of es)
        (a ∷ values_of es) (e.1 ∷ put_account a (values_of es))
    at ih Less = refl
    at ih Equal = refl
    at ih Greater = ap (λ more. e.1 ∷ more) ih

-- and all keys are still codes
pub AreKeyed-entry : (a : Account) (es : List Keyed) → AreKeyed es
    → AreKeyed (insert_entry (slice_cmp nat_cmp) es a.code a)
AreKeyed-entry a [] h = (refl, tt)
AreKeyed-entry a (e ∷ es) h = at (AreKeyed-entry a es h.1) (slice_cmp nat_cmp a.code e.0) refl
  where
    at : AreKeyed (insert_entry (slice_cmp nat_cmp) es a.code a)
        → (order : Ordering) → slice_cmp nat_cmp a.code e.0 ≡ order
        → AreKeyed (match_ordering order ((a.code, a) ∷ e ∷ es) ((e.0, a) ∷ es)
        (e ∷ insert_entry (slice_cmp nat_cmp) es a.code a))
    at ih Less same = (refl, h)
    at ih Equal same = (
      exact_bytes e.0 a.code (nat_list_cmp_total.antisymm e.0 a.code
          ∙ ap ordering_reverse same),
      h.1,
    )
    at ih Greater same = (h.0, ih)

put_account-all : (P : Account → Type 0) (a : Account) (xs : List Account)
    → P a → AllByRecursion P xs → AllByRecursion P (put_account a xs)
put_account-all P a [] h all = (h, tt)
put_account-all P a (b ∷ xs) h all =
    at (put_account-all P a xs h all.1) (slice_cmp nat_cmp a.code b.code)
  where
    at : AllByRecursion P (put_account a xs) → (order : Ordering)
        → AllByRecursion P (match_ordering order (a ∷ b ∷ xs) (a ∷ xs) (b ∷ put_account a xs))
    at ih Less = (h, all)
    at ih Equal = (h, all.1)
    at ih Greater = (all.0, ih)

put_all-all : (P : Account → Type 0) (sorted accounts : List Account)
    → AllByRecursion P sorted → AllByRecursion P accounts
    → AllByRecursion P (put_all sorted accounts)
put_all-all P sorted [] all more = all
put_all-all P sorted (a ∷ accounts) all more =
    put_all-all P (put_account a sorted) accounts (put_account-all P a sorted more.0 all) more.1

put_account-length : (a : Account) (xs : List Account) → length (put_account a xs) ≤ length xs + 1
put_account-length a [] = omega arith
put_account-length a (b ∷ xs) = at (put_account-length a xs) (slice_cmp nat_cmp a.code b.code)
  where
    at : length (put_account a xs) ≤ length xs + 1 → (order : Ordering)
        → length (match_ordering order (a ∷ b ∷ xs) (a ∷ xs) (b ∷ put_account a xs)) ≤ suc
        (length xs) + 1
    at ih Less = omega arith
    at ih Equal = omega arith
    at ih Greater = omega (arith, ih)

put_all-length : (sorted accounts : List Account)
    → length (put_all sorted accounts) ≤ length sorted + length accounts
put_all-length sorted [] = omega arith
put_all-length sorted (a ∷ accounts) =
    let one = put_account-length a sorted in
    let more = put_all-length (put_account a sorted) accounts in
    omega (arith, one, more)

-- the codes of accounts
abbrev codes_of : List Account → List (List ℕ)
codes_of accounts = map (λ (a : Account). a.code) accounts

put_account-below : (code : List ℕ) (a : Account) (xs : List Account)
    → slice_cmp nat_cmp code a.code ≡ Less
    → AllByRecursion (λ c. slice_cmp nat_cmp code c ≡ Less) (codes_of xs)
    → AllByRecursion (λ c. slice_cmp nat_cmp code c ≡ Less) (codes_of (put_account a xs))
put_account-below code a [] h all = (h, tt)
put_account-below code a (b ∷ xs) h all =
    at (put_account-below code a xs h all.1) (slice_cmp nat_cmp a.code b.code)
  where
    at : AllByRecursion (λ c. slice_cmp nat_cmp code c ≡ Less) (codes_of (put_account a xs))
        → (order : Ordering) → AllByRecursion (λ c. slice_cmp nat_cmp code c ≡ Less)
        (codes_of (match_ordering order (a ∷ b ∷ xs) (a ∷ xs) (b ∷ put_account a xs)))
    at ih Less = (h, all)
    at ih Equal = (h, all.1)
    at ih Greater = (all.0, ih)

below-trans : (a b : List ℕ) (xs : List (List ℕ)) → slice_cmp nat_cmp a b ≡ Less
    → AllByRecursion (λ c. slice_cmp nat_cmp b c ≡ Less) xs
    → AllByRecursion (λ c. slice_cmp nat_cmp a c ≡ Less) xs
below-trans a b [] h all = tt
below-trans a b (c ∷ xs) h all =
    (nat_list_cmp_total.trans a b c h all.0, below-trans a b xs h all.1)

below-same : (a b : List ℕ) (xs : List (List ℕ)) → slice_cmp nat_cmp a b ≡ Equal
    → AllByRecursion (λ c. slice_cmp nat_cmp b c ≡ Less) xs
    → AllByRecursion (λ c. slice_cmp nat_cmp a c ≡ Less) xs
below-same a b xs h all =
    subst (λ (k : List ℕ). AllByRecursion (λ c. slice_cmp nat_cmp k c ≡ Less) xs)
    (sym (exact_bytes a b h)) all

put_account-ascends : (a : Account) (xs : List Account)
    → AreAscending (codes_of xs) → AreAscending (codes_of (put_account a xs))
unfolding IsStrictlySortedBy
put_account-ascends a [] h = (tt, tt)
put_account-ascends a (b ∷ xs) h =
    at (put_account-ascends a xs h.1) (slice_cmp nat_cmp a.code b.code) refl
  where
    at : AreAscending (codes_of (put_account a xs)) → (order : Ordering)
        → slice_cmp nat_cmp a.code b.code ≡ order
        → AreAscending (codes_of (match_ordering order (a ∷ b ∷ xs) (a ∷ xs)
        (b ∷ put_account a xs)))
    at ih Less p = ((p, below-trans a.code b.code (codes_of xs) p h.0), h)
    at ih Equal p = (below-same a.code b.code (codes_of xs) p h.0, h.1)
    at ih Greater p = (
      put_account-below b.code a xs
          (nat_list_cmp_total.antisymm b.code a.code ∙ ap ordering_reverse p) h.0,
      ih,
    )

put_all-ascends : (sorted accounts : List Account)
    → AreAscending (codes_of sorted) → AreAscending (codes_of (put_all sorted accounts))
put_all-ascends sorted [] h = h
put_all-ascends sorted (a ∷ accounts) h =
    put_all-ascends (put_account a sorted) accounts (put_account-ascends a sorted h)

or-twice : (p q : Bool) → (p || (p || q)) ≡ true → (p || q) ≡ true
or-twice true q h = refl
or-twice false q h = h

or-middle : (p q r s : Bool) → ((p || r) ≡ true → s ≡ true) → (p || (q || r)) ≡ true
    → (q || s) ≡ true
or-middle p true r s next h = refl
or-middle p false r s next h = next h

or-step : (s a r t : Bool) → ((a || s) ≡ true → t ≡ true) → (s || (a || r)) ≡ true → (t || r) ≡ true
or-step true true r t next h = ap (λ b. b || r) (next refl)
or-step true false r t next h = ap (λ b. b || r) (next refl)
or-step false true r t next h = ap (λ b. b || r) (next refl)
or-step false false r true next h = refl
or-step false false r false next h = h

-- whether there is an account of this code
abbrev has_code : List ℕ → List Account → Bool
has_code code accounts = is_some (account_at code accounts)

has_code-cons : (code : List ℕ) (a : Account) (xs : List Account)
    → has_code code (a ∷ xs) ≡ bytes_eq a.code code || has_code code xs
unfolding account_at
has_code-cons code a xs = at (bytes_eq a.code code)
  where
    at : (test : Bool) → is_some (cond test (Some a) (account_at code xs))
        ≡ test || is_some (account_at code xs)
    at true = refl
    at false = refl

has_code-none : (code : List ℕ) (found : Bool) → (found || has_code code []) ≡ true → found ≡ true
unfolding account_at
has_code-none code true h = refl
has_code-none code false h = h

-- an account is found under its code after it was put, and so are those that were there
put_account-has : (code : List ℕ) (a : Account) (xs : List Account)
    → (bytes_eq a.code code || has_code code xs) ≡ true → has_code code (put_account a xs) ≡ true
put_account-has code a [] h = has_code-cons code a [] ∙ h
put_account-has code a (b ∷ xs) h =
    at (put_account-has code a xs) (slice_cmp nat_cmp a.code b.code) refl
  where
    parts : (bytes_eq a.code code || (bytes_eq b.code code || has_code code xs)) ≡ true
    parts = ap (λ t. bytes_eq a.code code || t) (sym (has_code-cons code b xs)) ∙ h

    same : slice_cmp nat_cmp a.code b.code ≡ Equal
        → (bytes_eq a.code code || (bytes_eq a.code code || has_code code xs)) ≡ true
    same p = ap (λ (k : List ℕ). bytes_eq a.code code || (bytes_eq k code || has_code code xs))
        (exact_bytes a.code b.code p) ∙ parts

    at : ((bytes_eq a.code code || has_code code xs) ≡ true
        → has_code code (put_account a xs) ≡ true)
        → (order : Ordering) → slice_cmp nat_cmp a.code b.code ≡ order
        → has_code code (match_ordering order (a ∷ b ∷ xs) (a ∷ xs) (b ∷ put_account a xs)) ≡ true
    at ih Less p = has_code-cons code a (b ∷ xs) ∙ h
    at ih Equal p = has_code-cons code a xs
        ∙ or-twice (bytes_eq a.code code) (has_code code xs) (same p)
    at ih Greater p =
        has_code-cons code b (put_account a xs)
        ∙ or-middle (bytes_eq a.code code) (bytes_eq b.code code) (has_code code xs)
        (has_code code (put_account a xs)) ih parts

put_all-has : (code : List ℕ) (sorted accounts : List Account)
    → (has_code code sorted || has_code code accounts) ≡ true
    → has_code code (put_all sorted accounts) ≡ true
put_all-has code sorted [] h = has_code-none code (has_code code sorted) h
put_all-has code sorted (a ∷ accounts) h =
    put_all-has code (put_account a sorted) accounts
    (or-step (has_code code sorted) (bytes_eq a.code code) (has_code code accounts)
    (has_code code (put_account a sorted))
    (put_account-has code a sorted)
    (ap (λ t. has_code code sorted || t) (sym (has_code-cons code a accounts)) ∙ h))

-- where all accounts pass a check, what it says holds of each
pub each_checked-all : (check : Account → Result (Unit {0}) CfgFault) (P : Account → Type 0)
    → ((a : Account) (u : Unit {0}) → check a ≡ Ok u → P a)
    → (accounts : List Account) (u : Unit {0}) → each_checked check accounts ≡ Ok u
    → AllByRecursion P accounts
unfolding each_checked
each_checked-all check P each [] u e = tt
each_checked-all check P each (a ∷ accounts) u e =
    let (v, first, more) = bind-Ok (check a) _ u e in
    (each a v first, each_checked-all check P each accounts u more)

-- the parent of an account is one of these accounts
unfoldable pub HasParentAmong : List Account → Account → Type 0
HasParentAmong accounts a = IfSome a.parent (λ p. is_some (account_at p accounts) ≡ true)

pub parent-among : (accounts : List Account) (a : Account) (u : Unit {0})
    → has_known_parent accounts a ≡ Ok u → HasParentAmong accounts a
unfolding HasParentAmong parent_known
parent-among accounts a u e = at a.parent e
  where
    at : (parent : Option (List ℕ)) → parent_known accounts parent ≡ Ok u
        → IfSome parent (λ p. is_some (account_at p accounts) ≡ true)
    at None e = tt
    at (Some p) e = unless-Ok (is_some (account_at p accounts)) (Unknown p) u e

parent-sorted : (accounts : List Account) (a : Account)
    → HasParentAmong accounts a → HasParentAmong (by_code accounts) a
unfolding HasParentAmong account_at
parent-sorted accounts a h = at a.parent h
  where
    at : (parent : Option (List ℕ)) → IfSome parent (λ p. is_some (account_at p accounts) ≡ true)
        → IfSome parent (λ p. is_some (account_at p (by_code accounts)) ≡ true)
    at None h = tt
    at (Some p) h = put_all-has p [] accounts h

all-map : {X : Type 0} (P Q : X → Type 0) → ((x : X) → P x → Q x)
    → (xs : List X) → AllByRecursion P xs → AllByRecursion Q xs
all-map P Q each [] all = tt
all-map P Q each (x ∷ xs) all = (each x all.0, all-map P Q each xs all.1)

-- what holds of the accounts of a ledger that is read
pub record AreAccounts (accounts : List Account) : Type 0 where
  pub few : length accounts ≤ account_limit
  pub few_extras : AllByRecursion (λ a. length a.extras ≤ extra_limit) accounts
  pub ascend : AreAscending (map (λ (a : Account). a.code) accounts)
  pub parents : AllByRecursion (λ a. IfSome a.parent (λ p. is_some (account_at p accounts) ≡ true))
      accounts
  pub apart : (steps : ℕ) (code : List ℕ) → above (suc steps) accounts code ≢ Some code
  pub ends : (code : List ℕ) → above (suc (length accounts)) accounts code ≡ None

few_extras-Ok : (path : List ℕ) (a : Account) (u : Unit {0})
    → few_extras path a ≡ Ok u → length a.extras ≤ extra_limit
few_extras-Ok path a u e = at_most-Ok extra_limit path (length a.extras) u e

pub read_accounts-hold : (name : List ℕ) (keys : Members) (accounts : List Account)
    → read_accounts name keys ≡ Ok accounts → AreAccounts accounts
unfolding read_accounts check_accounts check_parents HasParentAmong
read_accounts-hold name keys accounts e =
    let path = key_path (codes "ledger") name (codes "accounts") in
    let held = of_shape (toml_list toml_account) (codes "accounts") keys in
    let (found, shape, a) = bind-Ok (some_or held (Field path)) _ accounts e in
    let (u, few, b) = bind-Ok (at_most account_limit path (length found)) _ accounts a in
    let (z, checked, made) = bind-Ok (check_accounts path found) _ accounts b in
    let (v, few_each, c) = bind-Ok (each_checked (few_extras path) found) _ z checked in
    let (w, once, d) = bind-Ok (each_once [] found) _ z c in
    let (x, known, f) = bind-Ok (each_checked (has_known_parent found) found) _ z d in
    let (y, straight, g) = bind-Ok (each_checked (not_circular found) found) _ z f in
    let number = at_most-Ok account_limit path (length found) u few in
    let long = put_all-length [] found in
    let extras = each_checked-all (few_extras path) (λ a. length a.extras ≤ extra_limit)
    (few_extras-Ok path) found v few_each in
    let among = each_checked-all (has_known_parent found) (HasParentAmong found)
    (parent-among found) found x known in
    let sorted = all-map (HasParentAmong found) (HasParentAmong (by_code found))
    (parent-sorted found) found among in
    let short : length (by_code found) ≤ length found = omega (arith, long) in
    subst AreAccounts (same_Ok _ _ made) (record {
      few = omega (arith, number, long);
      few_extras = put_all-all (λ a. length a.extras ≤ extra_limit) [] found tt extras;
      ascend = put_all-ascends [] found none-ascend;
      parents = put_all-all (HasParentAmong (by_code found)) [] found tt sorted;
      apart = has_no_circle found w y once straight short;
      ends = ways-end_sorted found w y once straight short;
    })
