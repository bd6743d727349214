-- Where no short way up leads back, none does, and each way up ends.
use Rattle.std.proofs.Common.{◌≡◌, ◌≢◌, ℕ, zero, suc, ◌+◌, ◌*◌, ◌<◌, ◌≤◌, Bool, true, false, not}
use Rattle.std.proofs.Common.{◌||◌, List, [], ◌∷◌, map, length, Option, Some, None, option_and_then}
use Rattle.std.proofs.Common.{option_map, Ok}
use Rattle.std.proofs.Common.{refl, ap, ◌∙◌, sym, subst, arith, cond}
use Rattle.std.specs.Cmp.{IsEquivalence}
use Rattle.std.specs.List.{AllByRecursion, IsDistinct}
use Rattle.std.specs.Set.{is_member}
use Rattle.std.specs.Str.{bytes_eq}
use Rattle.std.proofs.lemmas.List.{length-map}
use Rattle.std.proofs.lemmas.Map.Made.{length-le_from_is_member}
use Rattle.std.proofs.lemmas.Option.{same_Some}
use Rattle.std.proofs.lemmas.Slice.Eq.{bytes_eq-Decides}
use Rattle.reg_base.specs.Results.{unless}
use Rattle.cfg_model.specs.declared.account.Account.{Account}
use Rattle.cfg_model.specs.declared.fault.CfgFault.TheVariants.{Twice}
use Rattle.cfg_model.specs.Places.{account_at}
use Rattle.cfg_model.specs.Accounts.{parent_of, leads_to, not_circular, each_checked, each_once}
use Rattle.cfg_model.specs.Accounts.{by_code}
use Rattle.cfg_model.specs.Resolving.{above}
use Rattle.cfg_model.proofs.SortedAccounts.{parent_of-by_code}
use Rattle.cfg_model.proofs.Steps.{bind-Ok, unless-Ok}

same_truth : (a b : Bool) → (a ≡ true → b ≡ true) → (b ≡ true → a ≡ true) → a ≡ b
same_truth true b there back = sym (there refl)
same_truth false true there back = back refl
same_truth false false there back = refl

-- equality of bytes is an equivalence
bytes_eq-laws : IsEquivalence bytes_eq
bytes_eq-laws = record {
  refl = λ x. (bytes_eq-Decides x x).1 refl;
  symm = λ x y. same_truth (bytes_eq x y) (bytes_eq y x)
      (λ h. (bytes_eq-Decides y x).1 (sym ((bytes_eq-Decides x y).0 h)))
      (λ h. (bytes_eq-Decides x y).1 (sym ((bytes_eq-Decides y x).0 h)));
  congr = λ x y z h. ap (λ (k : List ℕ). bytes_eq k z) ((bytes_eq-Decides x y).0 h);
}

differ : (x y : List ℕ) → x ≢ y → bytes_eq x y ≡ false
differ x y apart = at (bytes_eq x y) refl
  where
    at : (test : Bool) → bytes_eq x y ≡ test → bytes_eq x y ≡ false
    at true e = absurd (apart ((bytes_eq-Decides x y).0 e))
    at false e = e

-- what holds of each account holds of the one of a code
pub account_at-all : (P : Account → Type 0) (code : List ℕ) (xs : List Account)
    → AllByRecursion P xs → (a : Account) → account_at code xs ≡ Some a → P a × (a.code ≡ code)
unfolding account_at
account_at-all P code [] all a e = absurd (cc)
account_at-all P code (x ∷ xs) all a e =
    at (account_at-all P code xs all.1 a) (bytes_eq x.code code) refl e
  where
    at : (account_at code xs ≡ Some a → P a × (a.code ≡ code))
        → (test : Bool) → bytes_eq x.code code ≡ test
        → cond test (Some x) (account_at code xs) ≡ Some a → P a × (a.code ≡ code)
    at ih true same e =
        subst (λ (b : Account). P b × (b.code ≡ code)) (same_Some _ _ e)
        (all.0, (bytes_eq-Decides x.code code).0 same)
    at ih false same e = ih e

-- the accounts above a parent
abbrev above_parent : ℕ → List Account → Option (List ℕ) → Option (List ℕ)
above_parent steps accounts parent = option_and_then (above steps accounts) parent

-- a way up that does not lead back in n steps leads back at none of them
leads_to-short : (n : ℕ) (accounts : List Account) (code : List ℕ) (parent : Option (List ℕ))
    → leads_to n accounts code parent ≡ false
    → (j : ℕ) → j < n → above_parent j accounts parent ≢ Some code
unfolding leads_to
leads_to-short zero accounts code parent e j below = absurd (omega arith)
leads_to-short (suc n) accounts code None e j below = λ found. absurd (cc)
leads_to-short (suc n) accounts code (Some p) e j below =
    at (leads_to-short n accounts code (parent_of accounts p)) (bytes_eq p code) refl e j below
  where
    at : (leads_to n accounts code (parent_of accounts p) ≡ false
        → (i : ℕ) → i < n → above_parent i accounts (parent_of accounts p) ≢ Some code)
        → (test : Bool) → bytes_eq p code ≡ test
        → cond test true (leads_to n accounts code (parent_of accounts p)) ≡ false
        → (j : ℕ) → j < suc n → above j accounts p ≢ Some code
    at ih true same e j below = absurd (cc)
    at ih false same e zero below = λ found.
        let equal = (bytes_eq-Decides p code).1 (same_Some _ _ found) in absurd (cc)
    at ih false same e (suc j) below = ih e j (omega (arith, below))

-- no account of these stands above itself by so few steps
abbrev pub HasNoShortCircle : List Account → ℕ → Type 0
HasNoShortCircle accounts n =
    (code : List ℕ) (j : ℕ) → j < n → above (suc j) accounts code ≢ Some code

-- where each account's way up does not lead back in n steps, there is no circle of so few
pub short-from_leads_to : (n : ℕ) (accounts : List Account)
    → AllByRecursion (λ (a : Account). leads_to n accounts a.code a.parent ≡ false) accounts
    → HasNoShortCircle accounts n
short-from_leads_to n accounts all code j below = λ found.
    at (account_at code accounts) refl found
  where
    at : (here : Option Account) → account_at code accounts ≡ here
        → above_parent j accounts (option_and_then (λ (a : Account). a.parent) here) ≡ Some code
        → ⊥
    at None is found = absurd (cc)
    at (Some a) is found =
        let (straight, own) = account_at-all
        (λ (b : Account). leads_to n accounts b.code b.parent ≡ false) code accounts all a is in
        let back = subst (λ (c : List ℕ). leads_to n accounts c a.parent ≡ false) own straight in
        leads_to-short n accounts code a.parent back j below found

-- the list, where there is one
abbrev listed : Option (List (List ℕ)) → List (List ℕ)
listed None = []
listed (Some xs) = xs

-- the codes on a way up of so many steps
abbrev way : ℕ → List Account → List ℕ → List (List ℕ)
way zero accounts code = []
way (suc k) accounts code =
    code ∷ listed (option_map (way k accounts) (parent_of accounts code))

-- a way that there is has a code for each step
way-length : (k : ℕ) (accounts : List Account) (code last : List ℕ)
    → above k accounts code ≡ Some last → length (way k accounts code) ≡ k
way-length zero accounts code last e = refl
way-length (suc k) accounts code last e =
    at (way-length k accounts) (parent_of accounts code) e
  where
    at : ((c l : List ℕ) → above k accounts c ≡ Some l → length (way k accounts c) ≡ k)
        → (parent : Option (List ℕ)) → above_parent k accounts parent ≡ Some last
        → length (code ∷ listed (option_map (way k accounts) parent)) ≡ suc k
    at ih None e = absurd (cc)
    at ih (Some p) e = ap suc (ih p last e)

-- the codes of accounts
abbrev codes_of : List Account → List (List ℕ)
codes_of accounts = map (λ (a : Account). a.code) accounts

-- a code that has an account is one of the codes
account_at-member : (code : List ℕ) (xs : List Account) (a : Account)
    → account_at code xs ≡ Some a → is_member bytes_eq (codes_of xs) code ≡ true
unfolding account_at
account_at-member code [] a e = absurd (cc)
account_at-member code (x ∷ xs) a e =
    at (account_at-member code xs a) (bytes_eq x.code code) refl e
  where
    at : (account_at code xs ≡ Some a → is_member bytes_eq (codes_of xs) code ≡ true)
        → (test : Bool) → bytes_eq x.code code ≡ test
        → cond test (Some x) (account_at code xs) ≡ Some a
        → (bytes_eq code x.code || is_member bytes_eq (codes_of xs) code) ≡ true
    at ih true same e = rw (bytes_eq-laws.symm code x.code ∙ same) refl
    at ih false same e = rw (bytes_eq-laws.symm code x.code ∙ same) (ih e)

parent_of-member : (code p : List ℕ) (accounts : List Account)
    → parent_of accounts code ≡ Some p → is_member bytes_eq (codes_of accounts) code ≡ true
parent_of-member code p accounts e = at (account_at code accounts) refl e
  where
    at : (here : Option Account) → account_at code accounts ≡ here
        → option_and_then (λ (a : Account). a.parent) here ≡ Some p
        → is_member bytes_eq (codes_of accounts) code ≡ true
    at None is e = absurd (cc)
    at (Some a) is e = account_at-member code accounts a is

-- each code on a way that there is has an account
way-member : (k : ℕ) (accounts : List Account) (code last : List ℕ)
    → above k accounts code ≡ Some last → (q : List ℕ)
    → is_member bytes_eq (way k accounts code) q ≡ true
    → is_member bytes_eq (codes_of accounts) q ≡ true
way-member zero accounts code last e q h = absurd (cc)
way-member (suc k) accounts code last e q h =
    at (way-member k accounts) (parent_of accounts code) refl e h
  where
    first : (p : List ℕ) → parent_of accounts code ≡ Some p → (test : Bool)
        → bytes_eq q code ≡ test
        → (is_member bytes_eq (way k accounts p) q ≡ true
        → is_member bytes_eq (codes_of accounts) q ≡ true)
        → (test || is_member bytes_eq (way k accounts p) q) ≡ true
        → is_member bytes_eq (codes_of accounts) q ≡ true
    first p is true same later h =
        subst (λ (c : List ℕ). is_member bytes_eq (codes_of accounts) c ≡ true)
        (sym ((bytes_eq-Decides q code).0 same)) (parent_of-member code p accounts is)
    first p is false same later h = later h

    at : ((c l : List ℕ) → above k accounts c ≡ Some l → (r : List ℕ)
        → is_member bytes_eq (way k accounts c) r ≡ true
        → is_member bytes_eq (codes_of accounts) r ≡ true)
        → (parent : Option (List ℕ)) → parent_of accounts code ≡ parent
        → above_parent k accounts parent ≡ Some last
        → (bytes_eq q code || is_member bytes_eq (listed (option_map (way k accounts) parent)) q)
        ≡ true
        → is_member bytes_eq (codes_of accounts) q ≡ true
    at ih None is e h = absurd (cc)
    at ih (Some p) is e h = first p is (bytes_eq q code) refl (ih p last e q) h

-- a code that is reached by none of so many steps is not on the way
way-apart : (k : ℕ) (accounts : List Account) (c code : List ℕ)
    → ((j : ℕ) → j < k → above j accounts c ≢ Some code)
    → AllByRecursion (λ y. bytes_eq code y ≡ false) (way k accounts c)
way-apart zero accounts c code h = tt
way-apart (suc k) accounts c code h = (
  differ code c (λ e. h 0 (omega arith) (ap Some (sym e))),
  at (way-apart k accounts) (parent_of accounts c) (λ j below. h (suc j) (omega (arith, below))),
)
  where
    at : ((d l : List ℕ) → ((j : ℕ) → j < k → above j accounts d ≢ Some l)
        → AllByRecursion (λ y. bytes_eq l y ≡ false) (way k accounts d))
        → (parent : Option (List ℕ))
        → ((j : ℕ) → j < k → above_parent j accounts parent ≢ Some code)
        → AllByRecursion (λ y. bytes_eq code y ≡ false)
        (listed (option_map (way k accounts) parent))
    at ih None h = tt
    at ih (Some p) h = ih p code h

-- where there is no short circle, no code stands on a short way twice
way-distinct : (k n : ℕ) (accounts : List Account) (code : List ℕ)
    → HasNoShortCircle accounts n → k ≤ suc n → IsDistinct bytes_eq (way k accounts code)
unfolding IsDistinct
way-distinct zero n accounts code short few = tt
way-distinct (suc k) n accounts code short few =
    at (λ c. way-distinct k n accounts c short (omega (arith, few)))
    (parent_of accounts code) (λ j below. short code j (omega (arith, below, few)))
  where
    at : ((c : List ℕ) → IsDistinct bytes_eq (way k accounts c)) → (parent : Option (List ℕ))
        → ((j : ℕ) → j < k → above_parent j accounts parent ≢ Some code)
        → IsDistinct bytes_eq (code ∷ listed (option_map (way k accounts) parent))
    at ih None h = (tt, tt)
    at ih (Some p) h = (way-apart k accounts p code h, ih p)

-- where there is no circle as short as the chart, each way up ends
pub ways-end : (accounts : List Account) → HasNoShortCircle accounts (length accounts)
    → (code : List ℕ) → above (suc (length accounts)) accounts code ≡ None
ways-end accounts short code = at (above (suc (length accounts)) accounts code) refl
  where
    at : (end : Option (List ℕ)) → above (suc (length accounts)) accounts code ≡ end → end ≡ None
    at None e = refl
    at (Some last) e =
        let steps = suc (length accounts) in
        let long = way-length steps accounts code last e in
        let few = length-le_from_is_member bytes_eq-laws (way steps accounts code)
        (codes_of accounts)
        (way-distinct steps (length accounts) accounts code short (omega arith))
        (way-member steps accounts code last e) in
        absurd (omega (arith, long, few, length-map accounts (λ (a : Account). a.code)))

-- steps after steps
above-then : (a b : ℕ) (accounts : List Account) (code : List ℕ)
    → above (a + b) accounts code ≡ above_parent b accounts (above a accounts code)
above-then zero b accounts code =
    let all : zero + b ≡ b = omega arith in ap (λ n. above n accounts code) all
above-then (suc a) b accounts code =
    let all : suc a + b ≡ suc (a + b) = omega arith in
    ap (λ n. above n accounts code) all
    ∙ at (above-then a b accounts) (parent_of accounts code)
  where
    at : ((c : List ℕ) → above (a + b) accounts c ≡ above_parent b accounts (above a accounts c))
        → (parent : Option (List ℕ))
        → above_parent (a + b) accounts parent
        ≡ above_parent b accounts (above_parent a accounts parent)
    at ih None = refl
    at ih (Some p) = ih p

-- round and round
above-again : (k r : ℕ) (accounts : List Account) (code : List ℕ)
    → above (suc k) accounts code ≡ Some code → above (r * suc k) accounts code ≡ Some code
above-again k zero accounts code once =
    let none : zero * suc k ≡ zero = omega arith in ap (λ n. above n accounts code) none
above-again k (suc r) accounts code once =
    let all : suc r * suc k ≡ suc k + r * suc k = grind arith in
    ap (λ n. above n accounts code) all
    ∙ above-then (suc k) (r * suc k) accounts code
    ∙ ap (above_parent (r * suc k) accounts) once
    ∙ above-again k r accounts code once

-- where each way up ends, no account stands above itself
pub none-above_itself : (accounts : List Account) (end : ℕ)
    → ((code : List ℕ) → above end accounts code ≡ None)
    → (k : ℕ) (code : List ℕ) → above (suc k) accounts code ≢ Some code
none-above_itself accounts end ends k code = λ once.
    let all : end * suc k ≡ end + end * k = grind arith in
    let round : above (end * suc k) accounts code ≡ Some code =
    above-again k end accounts code once in
    let over : above (end * suc k) accounts code ≡ None
    = ap (λ n. above n accounts code) all
    ∙ above-then end (end * k) accounts code
    ∙ ap (above_parent (end * k) accounts) (ends code) in
    absurd (cc)

-- where parents are the same, so is each way up
above-same : (k : ℕ) (xs ys : List Account)
    → ((code : List ℕ) → parent_of xs code ≡ parent_of ys code)
    → (code : List ℕ) → above k xs code ≡ above k ys code
above-same zero xs ys same code = refl
above-same (suc k) xs ys same code =
    ap (above_parent k xs) (same code) ∙ at (above-same k xs ys same) (parent_of ys code)
  where
    at : ((c : List ℕ) → above k xs c ≡ above k ys c) → (parent : Option (List ℕ))
        → above_parent k xs parent ≡ above_parent k ys parent
    at ih None = refl
    at ih (Some p) = ih p

-- accounts that passed the check do not lead back
straight : (accounts : List Account) (all : List Account) (u : Unit {0})
    → each_checked (not_circular accounts) all ≡ Ok u
    → AllByRecursion (λ (a : Account). leads_to (length accounts) accounts a.code a.parent ≡ false)
    all
unfolding each_checked
straight accounts [] u e = tt
straight accounts (a ∷ all) u e =
    let back = leads_to (length accounts) accounts a.code a.parent in
    let (v, first, more) = bind-Ok (unless (not back) (Twice a.code)) _ u e in
    (not-true back (unless-Ok (not back) (Twice a.code) v first), straight accounts all u more)
  where
    not-true : (test : Bool) → not test ≡ true → test ≡ false
    not-true true e = absurd (cc)
    not-true false e = refl

-- accounts that were read make no short circle, in their own order and in that of their codes
no_short_circle : (found : List Account) (once circles : Unit {0})
    → each_once [] found ≡ Ok once → each_checked (not_circular found) found ≡ Ok circles
    → length (by_code found) ≤ length found
    → HasNoShortCircle (by_code found) (length (by_code found))
no_short_circle found once circles is_once is_straight short code j below = λ back.
    let first = short-from_leads_to (length found) found (straight found found circles is_straight)
    in
    let same = above-same (suc j) (by_code found) found
    (λ c. parent_of-by_code c found once is_once) code in
    first code j (omega (arith, below, short)) (sym same ∙ back)

-- each way up among accounts that were read ends
pub ways-end_sorted : (found : List Account) (once circles : Unit {0})
    → each_once [] found ≡ Ok once → each_checked (not_circular found) found ≡ Ok circles
    → length (by_code found) ≤ length found → (code : List ℕ)
    → above (suc (length (by_code found))) (by_code found) code ≡ None
ways-end_sorted found once circles is_once is_straight short =
    ways-end (by_code found) (no_short_circle found once circles is_once is_straight short)

-- and none of them stands above itself
pub has_no_circle : (found : List Account) (once circles : Unit {0})
    → each_once [] found ≡ Ok once → each_checked (not_circular found) found ≡ Ok circles
    → length (by_code found) ≤ length found → (steps : ℕ) (code : List ℕ)
    → above (suc steps) (by_code found) code ≢ Some code
has_no_circle found once circles is_once is_straight short =
    none-above_itself (by_code found) (suc (length (by_code found)))
    (ways-end_sorted found once circles is_once is_straight short)
