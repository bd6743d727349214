-- Accounts in order of codes are found under their codes as those of the list that was sorted.
use Rattle.std.proofs.Common.{◌≡◌, ℕ, Bool, true, false, cond, not, ◌||◌, List, [], ◌∷◌, ◌++◌}
use Rattle.std.proofs.Common.{Option, Some, None, option_and_then, Ok}
use Rattle.std.proofs.Common.{refl, ap, ◌∙◌, sym, Ordering, Less, Equal, Greater, nat_cmp}
use Rattle.std.proofs.Common.{is_eq}
use Rattle.std.specs.Cmp.Lexicographic.{slice_cmp}
use Rattle.std.specs.List.{fold}
use Rattle.std.specs.Option.{option_or}
use Rattle.std.specs.Ordering.{match_ordering}
use Rattle.std.specs.Str.{bytes_eq}
use Rattle.std.proofs.lemmas.List.Folds.{list_any-append}
use Rattle.std.proofs.lemmas.Map.Lookups.{exact_bytes}
use Rattle.std.proofs.lemmas.Map.Text.{is_eq-slice_cmp}
use Rattle.std.proofs.lemmas.Slice.Eq.{bytes_eq-Decides}
use Rattle.reg_base.specs.Results.{unless}
use Rattle.cfg_model.specs.declared.account.Account.{Account}
use Rattle.cfg_model.specs.declared.fault.CfgFault.TheVariants.{Twice}
use Rattle.cfg_model.specs.Words.{is_one_of}
use Rattle.cfg_model.specs.Walk.{distinct}
use Rattle.cfg_model.specs.Places.{account_at}
use Rattle.cfg_model.specs.Accounts.{put_account, by_code, each_once, parent_of}
use Rattle.cfg_model.proofs.Steps.{bind-Ok, unless-Ok}

-- what is put among accounts at their places
abbrev pub put_all : List Account → List Account → List Account
put_all sorted accounts = fold (λ sorted a. put_account a sorted) sorted accounts

again : (test : Bool) (a b : Account) (more : Option Account)
    → cond test (Some a) more ≡ cond test (Some a) (cond test (Some b) more)
again true a b more = refl
again false a b more = refl

swap : (first second : Bool) (a b : Account) (more : Option Account)
    → (first ≡ true → second ≡ true → ⊥)
    → cond second (Some b) (cond first (Some a) more)
    ≡ cond first (Some a) (cond second (Some b) more)
swap true true a b more apart = absurd (apart refl refl)
swap true false a b more apart = refl
swap false second a b more apart = refl

-- a code is not that of two accounts of which one comes before the other
not_both : (code first second : List ℕ) → slice_cmp nat_cmp first second ≡ Greater
    → bytes_eq first code ≡ true → bytes_eq second code ≡ true → ⊥
not_both code first second order one other =
    let same : first ≡ second
    = (bytes_eq-Decides first code).0 one ∙ sym ((bytes_eq-Decides second code).0 other) in
    let equal : is_eq (slice_cmp nat_cmp first second) ≡ true
    = is_eq-slice_cmp first second ∙ (bytes_eq-Decides first second).1 same in
    let differ : is_eq (slice_cmp nat_cmp first second) ≡ false = ap is_eq order in
    absurd (cc)

-- an account that is put stands under its code, and each other one where it stood
put_account-at : (code : List ℕ) (a : Account) (xs : List Account)
    → account_at code (put_account a xs)
    ≡ cond (bytes_eq a.code code) (Some a) (account_at code xs)
unfolding account_at
put_account-at code a [] = refl
put_account-at code a (b ∷ xs) =
    at (put_account-at code a xs) (slice_cmp nat_cmp a.code b.code) refl
  where
    at : account_at code (put_account a xs)
        ≡ cond (bytes_eq a.code code) (Some a) (account_at code xs)
        → (order : Ordering) → slice_cmp nat_cmp a.code b.code ≡ order
        → account_at code (match_ordering order (a ∷ b ∷ xs) (a ∷ xs) (b ∷ put_account a xs))
        ≡ cond (bytes_eq a.code code) (Some a)
        (cond (bytes_eq b.code code) (Some b) (account_at code xs))
    at ih Less p = refl
    at ih Equal p =
        again (bytes_eq a.code code) a b (account_at code xs)
        ∙ ap (λ (k : List ℕ). cond (bytes_eq a.code code) (Some a)
        (cond (bytes_eq k code) (Some b) (account_at code xs))) (exact_bytes a.code b.code p)
    at ih Greater p =
        ap (cond (bytes_eq b.code code) (Some b)) ih
        ∙ swap (bytes_eq a.code code) (bytes_eq b.code code) a b (account_at code xs)
        (not_both code a.code b.code p)

-- a code among those that were seen is that of no account behind them
each_once-none : (code : List ℕ) (seen : List (List ℕ)) (accounts : List Account) (u : Unit {0})
    → each_once seen accounts ≡ Ok u → is_one_of seen code ≡ true → account_at code accounts ≡ None
unfolding each_once account_at
each_once-none code seen [] u e among = refl
each_once-none code seen (a ∷ more) u e among =
    let (v, free, b) = bind-Ok (unless (not (is_one_of seen a.code)) (Twice a.code)) _ u e in
    let (w, extras, c) = bind-Ok (distinct (λ name. name) (λ name. false) a.extras) _ u b in
    let still = list_any-append (λ word. bytes_eq word code) seen (a.code ∷ [])
    ∙ ap (λ test. test || is_one_of (a.code ∷ []) code) among in
    at (each_once-none code (seen ++ a.code ∷ []) more u c still)
    (unless-Ok (not (is_one_of seen a.code)) (Twice a.code) v free) (bytes_eq a.code code) refl
  where
    at : account_at code more ≡ None → not (is_one_of seen a.code) ≡ true
        → (test : Bool) → bytes_eq a.code code ≡ test
        → cond test (Some a) (account_at code more) ≡ None
    at ih free true same =
        let taken = ap (is_one_of seen) ((bytes_eq-Decides a.code code).0 same) ∙ among in
        let used = ap not taken in
        absurd (cc)
    at ih free false same = ih

-- among accounts of which no code stands twice, one is found where it was, or in the list in front
put_all-at : (code : List ℕ) (seen : List (List ℕ)) (sorted accounts : List Account) (u : Unit {0})
    → each_once seen accounts ≡ Ok u
    → account_at code (put_all sorted accounts)
    ≡ option_or (account_at code accounts) (account_at code sorted)
unfolding each_once account_at
put_all-at code seen sorted [] u e = refl
put_all-at code seen sorted (a ∷ more) u e =
    let (v, free, b) = bind-Ok (unless (not (is_one_of seen a.code)) (Twice a.code)) _ u e in
    let (w, extras, c) = bind-Ok (distinct (λ name. name) (λ name. false) a.extras) _ u b in
    put_all-at code (seen ++ a.code ∷ []) (put_account a sorted) more u c
    ∙ ap (option_or (account_at code more)) (put_account-at code a sorted)
    ∙ at c (bytes_eq a.code code) refl
  where
    at : each_once (seen ++ a.code ∷ []) more ≡ Ok u → (test : Bool) → bytes_eq a.code code ≡ test
        → option_or (account_at code more) (cond test (Some a) (account_at code sorted))
        ≡ option_or (cond test (Some a) (account_at code more)) (account_at code sorted)
    at rest true same =
        let own = list_any-append (λ word. bytes_eq word code) seen (a.code ∷ [])
        ∙ ap (λ test. is_one_of seen code || (test || false)) same
        ∙ or_true (is_one_of seen code) in
        ap (λ found. option_or found (Some a))
        (each_once-none code (seen ++ a.code ∷ []) more u rest own)
      where
        or_true : (test : Bool) → test || true ≡ true
        or_true true = refl
        or_true false = refl
    at rest false same = refl

or_None : (found : Option Account) → option_or found None ≡ found
or_None None = refl
or_None (Some a) = refl

-- the parent of a code is the same in order of codes
pub parent_of-by_code : (code : List ℕ) (accounts : List Account) (u : Unit {0})
    → each_once [] accounts ≡ Ok u → parent_of (by_code accounts) code ≡ parent_of accounts code
unfolding account_at
parent_of-by_code code accounts u e =
    ap (option_and_then (λ (a : Account). a.parent))
    (put_all-at code [] [] accounts u e ∙ or_None (account_at code accounts))
