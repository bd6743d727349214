-- What holds of each element of a list that was read, and how many there are.
use Rattle.std.proofs.Common.{◌≡◌, ℕ, suc, ◌≤◌, nat_le, true, false, Bool, ◌&&◌, ◌||◌, cond, List}
use Rattle.std.proofs.Common.{[], ◌∷◌, ◌++◌, length, map, Option}
use Rattle.std.proofs.Common.{Some, None, option_map, Result, Ok}
use Rattle.std.proofs.Common.{refl, sym, ap, subst, arith}
use Rattle.std.specs.List.{AllByRecursion, filter, list_all, list_any}
use Rattle.std.proofs.lemmas.List.Folds.{list_any-append}
use Rattle.std.proofs.lemmas.Bool.{and_parts}
use Rattle.std.proofs.lemmas.Bool.Decides.{nat_tests}
use Rattle.std.proofs.lemmas.Option.{same_Some}
use Rattle.toml.specs.Data.{Data, Items, no_items, item, Members, no_members, member, get_member}
use Rattle.toml.specs.Data.{as_array, as_str, as_table}
use Rattle.reg_base.specs.Results.{◌>>=◌, unless, some_or, none_or}
use Rattle.cfg_model.specs.declared.fault.CfgFault.{CfgFault}
use Rattle.cfg_model.specs.declared.fault.CfgFault.TheVariants.{Field, Count, Twice, Unknown}
use Rattle.cfg_model.specs.Words.{is_one_of}
use Rattle.cfg_model.specs.Walk.{member_count, at_most, is_second, first_second, distinct}
use Rattle.cfg_model.specs.Walk.{each_entry, group_entries}
use Rattle.cfg_model.specs.Walk.{read_group, of_shape, toml_each, toml_text, toml_texts, all_known}
use Rattle.cfg_model.proofs.Steps.{bind-Ok, same_Ok, unless-Ok, and_then-Some, map-Some}

-- a list in which none stands twice is the list
pub distinct-Ok : {X : Type 0} (label : X → List ℕ) (sole : X → Bool) (xs ys : List X)
    → distinct label sole xs ≡ Ok ys → xs ≡ ys
distinct-Ok label sole xs ys e = let (u, first, second) = bind-Ok _ (λ _. Ok xs) ys e in cc

or-false : (a b : Bool) → (a || b) ≡ false → b ≡ false
or-false true true e = e
or-false true false e = refl
or-false false b e = e

-- no fault means that nothing was found
none_found : {X : Type 0} (fault : X → CfgFault) (found : Option X) (u : Unit {0})
    → none_or (option_map fault found) ≡ Ok u → found ≡ None
none_found fault None u e = refl
none_found fault (Some x) u e = absurd (cc)

-- where no second stands behind those before, one of the sole sort does at the most, and none
-- where there is one before
sole-few : {X : Type 0} (label : X → List ℕ) (sole : X → Bool) (xs seen : List X)
    → first_second label sole seen xs ≡ None
    → length (filter sole xs) ≤ cond (list_any sole seen) 0 1
sole-few label sole [] seen e = omega arith
sole-few {X} label sole (x ∷ xs) seen e =
    at (is_second label sole seen x) refl (λ h. sole-few label sole xs (seen ++ x ∷ []) h) e
  where
    -- one of the sort more, where there was none before
    counted : (t n : Bool) → t && n ≡ false → (rest : ℕ)
        → rest ≤ cond (n || (t || false)) 0 1 → cond t (suc rest) rest ≤ cond n 0 1
    counted true true h rest few = absurd (cc)
    counted true false h rest few = omega arith
    counted false true h rest few = few
    counted false false h rest few = few

    length-cond : (t : Bool) (y : X) (ys : List X)
        → length (cond t (y ∷ ys) ys) ≡ cond t (suc (length ys)) (length ys)
    length-cond true y ys = refl
    length-cond false y ys = refl

    at : (s : Bool) → is_second label sole seen x ≡ s
        → (first_second label sole (seen ++ x ∷ []) xs ≡ None
        → length (filter sole xs) ≤ cond (list_any sole (seen ++ x ∷ [])) 0 1)
        → cond s (Some x) (first_second label sole (seen ++ x ∷ []) xs) ≡ None
        → length (cond (sole x) (x ∷ filter sole xs) (filter sole xs))
        ≤ cond (list_any sole seen) 0 1
    at true is later h = absurd (cc)
    at false is later h =
        let few : length (filter sole xs) ≤ cond (list_any sole seen || (sole x || false)) 0 1 =
        subst (λ (b : Bool). length (filter sole xs) ≤ cond b 0 1)
        (list_any-append sole seen (x ∷ [])) (later h) in
        subst (λ (n : ℕ). n ≤ cond (list_any sole seen) 0 1)
        (sym (length-cond (sole x) x (filter sole xs)))
        (counted (sole x) (list_any sole seen)
        (or-false (is_one_of (map label seen) (label x)) (sole x && list_any sole seen) is)
        (length (filter sole xs)) few)

-- of the sort that stands once at the most, a list in which none stands twice has one at the most
pub distinct-one : {X : Type 0} (label : X → List ℕ) (sole : X → Bool) (xs ys : List X)
    → distinct label sole xs ≡ Ok ys → length (filter sole ys) ≤ 1
distinct-one label sole xs ys e =
    let (u, first, second) = bind-Ok _ (λ _. Ok xs) ys e in
    subst (λ (zs : List _). length (filter sole zs) ≤ 1) (same_Ok _ _ second)
    (sole-few label sole xs [] (none_found (λ x. Twice (label x)) (first_second label sole [] xs) u
    first))

-- so many were at most so many
pub at_most-Ok : (limit : ℕ) (path : List ℕ) (number : ℕ) (u : Unit {0})
    → at_most limit path number ≡ Ok u → number ≤ limit
at_most-Ok limit path number u e =
    let test = unless-Ok (nat_le number limit) (Count path number) u e in
    grind (arith, nat_tests)

-- what holds of each item that has its shape holds of a list of them
pub toml_each-all : {X : Type 0} (shape : Data → Option X) (P : X → Type 0)
    → ((d : Data) (x : X) → shape d ≡ Some x → P x)
    → (items : Items) (xs : List X) → toml_each shape items ≡ Some xs → AllByRecursion P xs
toml_each-all shape P each no_items xs e = subst (AllByRecursion P) (same_Some _ _ e) tt
toml_each-all shape P each (item d ds) xs e =
    let (x, is_first, more) = and_then-Some _ (shape d) xs e in
    let (rest, are_rest, value) = map-Some _ (toml_each shape ds) xs more in
    subst (AllByRecursion P) value (each d x is_first, toml_each-all shape P each ds rest are_rest)

-- what holds of each text that spells something holds of a list of texts under a key
pub toml_texts-all : {X : Type 0} (reads : List ℕ → Option X) (P : X → Type 0)
    → ((text : List ℕ) (x : X) → reads text ≡ Some x → P x)
    → (key : List ℕ) (keys : Members) (xs : List X)
    → of_shape (toml_texts reads) key keys ≡ Some xs → AllByRecursion P xs
toml_texts-all reads P each key keys xs e =
    let (d, held, read) = and_then-Some (toml_texts reads) (get_member key keys) xs e in
    let (items, is_array, are_spelled) =
    and_then-Some (toml_each (toml_text reads)) (as_array d) xs read in
    toml_each-all (toml_text reads) P spelled items xs are_spelled
  where
    spelled : (d : Data) (x : _) → toml_text reads d ≡ Some x → P x
    spelled d x e = let (text, is_text, is_read) = and_then-Some reads (as_str d) x e in
        each text x is_read

-- what holds of each entry that is read holds of the list of a group
pub each_entry-all : {X : Type 0} (read : List ℕ → Data → Result X CfgFault) (P : X → Type 0)
    → ((name : List ℕ) (d : Data) (x : X) → read name d ≡ Ok x → P x)
    → (ms : Members) (xs : List X) → each_entry read ms ≡ Ok xs → AllByRecursion P xs
unfolding each_entry
each_entry-all read P each no_members xs e = subst (AllByRecursion P) (same_Ok _ _ e) tt
each_entry-all read P each (member name d ms) xs e =
    let (x, is_first, more) = bind-Ok (read name d) _ xs e in
    let (rest, are_rest, value) = bind-Ok (each_entry read ms) _ xs more in
    let all = each_entry-all read P each ms rest are_rest in
    subst (AllByRecursion P) (same_Ok _ _ value) (each name d x is_first, all)

-- and that list is as long as the group
each_entry-length : {X : Type 0} (read : List ℕ → Data → Result X CfgFault)
    → (ms : Members) (xs : List X) → each_entry read ms ≡ Ok xs → length xs ≡ member_count ms
unfolding each_entry
each_entry-length read no_members xs e = sym (ap length (same_Ok _ _ e))
each_entry-length read (member name d ms) xs e =
    let (x, is_first, more) = bind-Ok (read name d) _ xs e in
    let (rest, are_rest, value) = bind-Ok (each_entry read ms) _ xs more in
    let ih = each_entry-length read ms rest are_rest in
    let made = ap length (same_Ok _ _ value) in
    omega (arith, ih, made)

-- a group has no more entries than its limit
group_entries-few : (group : List ℕ) (limit : ℕ) (found : Option Data) (entries : Members)
    → group_entries group limit found ≡ Ok entries → member_count entries ≤ limit
unfolding group_entries
group_entries-few group limit None entries e =
    let none : no_members ≡ entries = same_Ok _ _ e in
    subst (λ (ms : Members). member_count ms ≤ limit) none (omega arith)
group_entries-few group limit (Some d) entries e =
    let few_of : Members → Result (Unit {0}) CfgFault =
    λ ms. at_most limit group (member_count ms) in
    let (found, is_table, more) =
    bind-Ok (some_or (as_table d) (Field group)) (λ ms. few_of ms >>= (λ _. Ok ms)) entries e in
    let (u, few, value) = bind-Ok (few_of found) (λ _. Ok found) entries more in
    subst (λ (ms : Members). member_count ms ≤ limit) (same_Ok _ _ value)
    (at_most-Ok limit group (member_count found) u few)

-- the entries of a group that is read are not too many
pub read_group-few : {X : Type 0} (group : List ℕ) (limit : ℕ)
    → (read : List ℕ → Data → Result X CfgFault) (top : Members) (xs : List X)
    → read_group group limit read top ≡ Ok xs → length xs ≤ limit
unfolding read_group
read_group-few group limit read top xs e =
    let found = get_member group top in
    let (entries, opened, more) = bind-Ok (group_entries group limit found) _ xs e in
    let few = group_entries-few group limit found entries opened in
    let long = each_entry-length read entries xs more in
    omega (arith, few, long)

-- what holds of each entry that is read holds of a group
pub read_group-all : {X : Type 0} (group : List ℕ) (limit : ℕ)
    → (read : List ℕ → Data → Result X CfgFault) (P : X → Type 0)
    → ((name : List ℕ) (d : Data) (x : X) → read name d ≡ Ok x → P x)
    → (top : Members) (xs : List X)
    → read_group group limit read top ≡ Ok xs → AllByRecursion P xs
unfolding read_group
read_group-all group limit read P each top xs e =
    let found = get_member group top in
    let (entries, opened, more) = bind-Ok (group_entries group limit found) _ xs e in
    each_entry-all read P each entries xs more

-- where all names are known, each is
pub all_known-Ok : (is_known : List ℕ → Bool) (names : List (List ℕ)) (u : Unit {0})
    → all_known is_known names ≡ Ok u → AllByRecursion (λ name. is_known name ≡ true) names
unfolding all_known
all_known-Ok is_known [] u e = tt
all_known-Ok is_known (name ∷ names) u e =
    let (v, first, more) = bind-Ok (unless (is_known name) (Unknown name)) _ u e in
    (unless-Ok (is_known name) (Unknown name) v first, all_known-Ok is_known names u more)

-- where a test holds of all, it holds of each
pub list_all-each : {X : Type 0} (test : X → Bool) (xs : List X)
    → list_all test xs ≡ true → AllByRecursion (λ x. test x ≡ true) xs
list_all-each test [] e = tt
list_all-each test (x ∷ xs) e =
    let (first, more) = and_parts (test x) (list_all test xs) e in
    (first, list_all-each test xs more)
