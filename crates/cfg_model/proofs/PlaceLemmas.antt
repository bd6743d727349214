-- The places of accounts by their codes.
use Rattle.std.proofs.Common.{◌≡◌, ℕ, suc, ◌+◌, ◌-◌, ◌<◌, ◌≤◌, nat_lt, IfSome, Bool, true}
use Rattle.std.proofs.Common.{false, cond, ◌||◌, not, List, [], ◌∷◌, ◌++◌, map, length, take, drop}
use Rattle.std.proofs.Common.{get_or, Option, Some, None, option_map, option_and_then, Result}
use Rattle.std.proofs.Common.{Err, refl, ap, ◌∙◌, sym, subst, arith}
use Rattle.std.specs.Prelude.{is_some, slice_get}
use Rattle.std.specs.Borrow.{Bor}
use Rattle.std.specs.Option.{option_or}
use Rattle.std.specs.Str.{bytes_eq}
use Rattle.std.proofs.lemmas.List.{at_drop_more, take_more, length-take, map-append}
use Rattle.std.proofs.lemmas.Bool.Decides.{nat_tests}
use Rattle.std.proofs.lemmas.Option.{slice_get_past, slice_get_read}
use Rattle.std.proofs.lemmas.Slice.Eq.{bytes_eq-Decides}
use Rattle.reg_base.specs.Results.{◌>>=◌, unless}
use Rattle.cfg_model.specs.declared.account.Account.{Account}
use Rattle.cfg_model.specs.declared.fault.CfgFault.{CfgFault}
use Rattle.cfg_model.specs.declared.fault.CfgFault.TheVariants.{Twice}
use Rattle.cfg_model.specs.Words.{is_one_of}
use Rattle.cfg_model.specs.Walk.{distinct}
use Rattle.cfg_model.specs.Accounts.{each_once, leads_to, parent_of}
use Rattle.cfg_model.specs.Places.{account_at}
use Rattle.cfg_model.specs.AccountMaps.{Placed, place_at, first_place, LeadsToPlaces}

-- the account at the place of a code is the first one of that code
pub account_at-place : (code : List ℕ) (xs : List Account)
    → option_and_then (λ i. slice_get xs i) (first_place code xs) ≡ account_at code xs
unfolding account_at
account_at-place code [] = refl
account_at-place code (a ∷ xs) = at (account_at-place code xs) (bytes_eq a.code code)
  where
    later : (place : Option ℕ) → option_and_then (λ i. slice_get (a ∷ xs) i) (option_map suc place)
        ≡ option_and_then (λ i. slice_get xs i) place
    later None = refl
    later (Some i) = refl

    at : option_and_then (λ i. slice_get xs i) (first_place code xs) ≡ account_at code xs
        → (test : Bool)
        → option_and_then (λ i. slice_get (a ∷ xs) i)
        (cond test (Some 0) (option_map suc (first_place code xs)))
        ≡ cond test (Some a) (account_at code xs)
    at ih true = refl
    at ih false = later (first_place code xs) ∙ ih

-- what a slice has at an index is what the list has there
pub slice_get-found : {X : Type 0} (xs : List X) (i : ℕ) (found : Option (Bor X))
    → is_some found ≡ nat_lt i (length xs)
    → IfSome found (λ x. x.now ≡ get_or xs i x.now)
    → option_map (λ a. a.now) found ≡ slice_get xs i
slice_get-found xs i None within is =
    let past : length xs ≤ i = grind (arith, nat_tests) in
    sym (slice_get_past xs i past)
slice_get-found xs i (Some x) within is =
    let more : i < length xs = grind (arith, nat_tests) in
    sym (slice_get_read xs (length xs) i x.now refl more is)

-- a code has a place where it is one of the codes
pub is_some-first_place : (code : List ℕ) (xs : List Account)
    → is_some (first_place code xs) ≡ is_one_of (map (λ (a : Account). a.code) xs) code
is_some-first_place code [] = refl
is_some-first_place code (a ∷ xs) = at (is_some-first_place code xs) (bytes_eq a.code code)
  where
    later : (place : Option ℕ) → is_some (option_map suc place) ≡ is_some place
    later None = refl
    later (Some i) = refl

    at : is_some (first_place code xs) ≡ is_one_of (map (λ (a : Account). a.code) xs) code
        → (test : Bool)
        → is_some (cond test (Some 0) (option_map suc (first_place code xs)))
        ≡ test || is_one_of (map (λ (a : Account). a.code) xs) code
    at ih true = refl
    at ih false = later (first_place code xs) ∙ ih

-- with one account more, a code that had no place may have that of the new one
first_place-more : (code : List ℕ) (a : Account) (xs : List Account)
    → first_place code (xs ++ a ∷ [])
    ≡ option_or (first_place code xs) (cond (bytes_eq a.code code) (Some (length xs)) None)
first_place-more code a [] = alone (bytes_eq a.code code)
  where
    first : Option ℕ
    first = Some 0

    alone : (test : Bool) → cond test first None ≡ option_or None (cond test first None)
    alone true = refl
    alone false = refl
first_place-more code a (b ∷ xs) = at (first_place-more code a xs) (bytes_eq b.code code)
  where
    later : (place : Option ℕ) (test : Bool)
        → option_map suc (option_or place (cond test (Some (length xs)) None))
        ≡ option_or (option_map suc place) (cond test (Some (suc (length xs))) None)
    later None true = refl
    later None false = refl
    later (Some i) test = refl

    at : first_place code (xs ++ a ∷ [])
        ≡ option_or (first_place code xs) (cond (bytes_eq a.code code) (Some (length xs)) None)
        → (test : Bool)
        → cond test (Some 0) (option_map suc (first_place code (xs ++ a ∷ [])))
        ≡ option_or (cond test (Some 0) (option_map suc (first_place code xs)))
        (cond (bytes_eq a.code code) (Some (suc (length xs))) None)
    at ih true = refl
    at ih false = ap (option_map suc) ih ∙ later (first_place code xs) (bytes_eq a.code code)

nothing : (place : Option ℕ) → is_some place ≡ false → place ≡ None
nothing None e = refl
nothing (Some i) e = absurd (cc)

or-None : (place : Option ℕ) → place ≡ option_or place None
or-None None = refl
or-None (Some i) = refl

-- no account so far has this code, and the map leads to its place from now on
pub LeadsToPlaces-more : (old new : List Placed) (xs : List Account) (a : Account)
    → LeadsToPlaces old xs → is_one_of (map (λ (a : Account). a.code) xs) a.code ≡ false
    → ((code : List ℕ) → place_at code new
    ≡ cond (bytes_eq a.code code) (Some (length xs)) (place_at code old))
    → LeadsToPlaces new (xs ++ a ∷ [])
LeadsToPlaces-more old new xs a leads free updates = λ code.
    updates code
    ∙ at code (bytes_eq a.code code) refl
    ∙ sym (first_place-more code a xs)
  where
    none : (code : List ℕ) → a.code ≡ code → first_place code xs ≡ None
    none code same =
        ap (λ (k : List ℕ). first_place k xs) (sym same)
        ∙ nothing (first_place a.code xs) (is_some-first_place a.code xs ∙ free)

    at : (code : List ℕ) (test : Bool) → bytes_eq a.code code ≡ test
        → cond test (Some (length xs)) (place_at code old)
        ≡ option_or (first_place code xs) (cond test (Some (length xs)) None)
    at code true e =
        let same = (bytes_eq-Decides a.code code).0 e in
        ap (λ place. option_or place (Some (length xs))) (sym (none code same))
    at code false e = leads code ∙ or-None (first_place code xs)

-- whether the map has a code says whether it is one of the codes
pub is_some-place_at : (entries : List Placed) (xs : List Account) → LeadsToPlaces entries xs
    → (code : List ℕ)
    → is_some (place_at code entries) ≡ is_one_of (map (λ (a : Account). a.code) xs) code
is_some-place_at entries xs leads code = ap is_some (leads code) ∙ is_some-first_place code xs

-- the codes of accounts
abbrev codes_of : List Account → List (List ℕ)
codes_of accounts = map (λ (a : Account). a.code) accounts

-- the first of the accounts that are left is the next one
take-next : (xs : List Account) (i : ℕ) (a : Account) → i < length xs → a ≡ get_or xs i a
    → take (i + 1) xs ≡ take i xs ++ a ∷ []
take-next xs i a more is = take_more xs i a more ∙ ap (λ b. take i xs ++ b ∷ []) (sym is)

-- an account that is judged behind these codes, and what comes after it
abbrev pub once : List (List ℕ) → Account → Result (Unit {0}) CfgFault
    → Result (Unit {0}) CfgFault
once seen a rest = do
  _ ← unless (not (is_one_of seen a.code)) (Twice a.code)
  _ ← distinct (λ name. name) (λ name. false) a.extras
  rest

-- the accounts from a place on are the one there, and those behind it
pub each_once-at : (xs : List Account) (i : ℕ) (a : Account) → i < length xs → a ≡ get_or xs i a
    → each_once (codes_of (take i xs)) (drop i xs)
    ≡ once (codes_of (take i xs)) a (each_once (codes_of (take (i + 1) xs)) (drop (i + 1) xs))
unfolding each_once
each_once-at xs i a more is =
    let seen = codes_of (take i xs) in
    let behind = drop (i + 1) xs in
    at_drop_more (each_once seen) xs i a more
    ∙ ap (λ b. each_once seen (b ∷ behind)) (sym is)
    ∙ ap (λ codes. once seen a (each_once codes behind))
    (sym (ap codes_of (take-next xs i a more is)
    ∙ map-append (λ (b : Account). b.code) (take i xs) (a ∷ [])))

-- where its code is taken, that is the fault
pub once-taken : (seen : List (List ℕ)) (a : Account) (rest : Result (Unit {0}) CfgFault)
    → is_one_of seen a.code ≡ true → once seen a rest ≡ Err (Twice a.code)
once-taken seen a rest taken = rw taken refl

-- where it is free, the extras come next
pub once-free : (seen : List (List ℕ)) (a : Account) (rest : Result (Unit {0}) CfgFault)
    → is_one_of seen a.code ≡ false
    → once seen a rest ≡ (distinct (λ name. name) (λ name. false) a.extras >>= (λ _. rest))
once-free seen a rest free = rw free refl

-- the map with the next account leads to the places of one account more
pub LeadsToPlaces-next : (old new : List Placed) (xs : List Account) (i : ℕ) (a : Account)
    → i < length xs → a ≡ get_or xs i a
    → LeadsToPlaces old (take i xs) → is_one_of (codes_of (take i xs)) a.code ≡ false
    → ((code : List ℕ) → place_at code new
    ≡ cond (bytes_eq a.code code) (Some i) (place_at code old))
    → LeadsToPlaces new (take (i + 1) xs)
LeadsToPlaces-next old new xs i a more is leads free updates =
    let long : i ≡ length (take i xs) = omega (arith, more, length-take i xs) in
    subst (LeadsToPlaces new) (sym (take-next xs i a more is))
    (LeadsToPlaces-more old new (take i xs) a leads free
    (λ code. updates code
    ∙ ap (λ n. cond (bytes_eq a.code code) (Some n) (place_at code old)) long))

-- a parent that is another one leads to the code where its own parent does
pub leads_to-next : (n counter : ℕ) (accounts : List Account) (code p : List ℕ)
    → counter < n → bytes_eq p code ≡ false
    → leads_to (n - counter) accounts code (Some p)
    ≡ leads_to (n - (counter + 1)) accounts code (parent_of accounts p)
unfolding leads_to
leads_to-next n counter accounts code p more other =
    let left : n - counter ≡ suc (n - (counter + 1)) = omega (arith, more) in
    rw left (rw other refl)
