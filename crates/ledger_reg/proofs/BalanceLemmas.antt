-- The rows that sums make are those of the balances of accounts.
use Rattle.std.proofs.Common.{◌≡◌, ℕ, zero, suc, ℤ, pos, negsuc, neg_ℤ, int_lt, Bool, true, false}
use Rattle.std.proofs.Common.{not, ◌||◌, cond, Option, Some, None, List, [], ◌∷◌, ◌++◌, map, refl}
use Rattle.std.proofs.Common.{ap, ◌∙◌, sym, arith}
use Rattle.std.specs.List.{filter, flat_map}
use Rattle.std.specs.Ordering.{int_eq, match_ordering}
use Rattle.std.specs.declared.cmp.Ordering.{Ordering}
use Rattle.std.specs.declared.cmp.Ordering.TheVariants.{Less, Equal, Greater}
use Rattle.std.proofs.lemmas.Int.{ints}
use Rattle.std.proofs.lemmas.List.{map-append}
use Rattle.std.proofs.lemmas.Bool.Decides.{Decides-int_eq}
use Rattle.reg_base.specs.declared.records.Side.{Side}
use Rattle.reg_base.specs.declared.records.Document.{Document}
use Rattle.reg_base.specs.declared.tables.AccountRow.{AccountRow}
use Rattle.reg_base.specs.declared.cut.Cut.{Cut}
use Rattle.reg_base.specs.Records.{put_once}
use Rattle.reg_base.specs.BookedEntries.{BookedEntry, entered_by, entries_of, entries_within}
use Rattle.reg_base.specs.Sums.{in_order_once}
use Rattle.reg_base.proofs.ForTables.{IsPermutation-filter, entries_of-permutation}
use Rattle.cfg_model.specs.declared.ledger.Chart.{Chart}
use Rattle.cfg_model.specs.declared.account.Nature.{Nature}
use Rattle.cfg_model.specs.declared.account.Nature.TheVariants.{Active, Passive, Both}
use Rattle.cfg_model.specs.AccountTables.{AccountKey, is_asked, has_amount, nature_at, net_at}
use Rattle.cfg_model.specs.AccountTables.{account_key_cmp, keys_of_side}
use Rattle.cfg_model.specs.AccountTables.{keys_of_entry, balance_row, balance_rows}
use Rattle.cfg_model.specs.AccountTables.{account_balance_of}
use Rattle.ledger_reg.specs.declared.walk.Span.TheVariants.{Inside}
use Rattle.ledger_reg.specs.declared.sides.AccountSum.{AccountSum}
use Rattle.ledger_reg.specs.Walks.{counts}
use Rattle.ledger_reg.specs.Sides.{SidePlace, SideAmounts, amounts_of, sides_of, place_cmp}
use Rattle.ledger_reg.specs.Sides.{place_sums, side_sums, account_sum, account_sums, is_moved}
use Rattle.ledger_reg.specs.Balances.{net_of, net_below, net_row, net_rows, whole_key, whole_row}
use Rattle.ledger_reg.specs.Balances.{place_key, place_row, shown_balances}
use Rattle.ledger_reg.proofs.SideLemmas.{account_sums-permutation}
use Rattle.ledger_reg.proofs.EntrySums.{key_at, net-place, net_below-entries, unmoved-net}

-- ---- rows that are asked for and shown

-- elements that each have the row of their key, where it is asked for and shown
pub shown-rows : {X K R : Type 0} (key : X → K) (asked : K → Bool) (row : K → R)
    (shown : R → Bool) (f : X → List R)
    → ((x : X) → f x
    ≡ cond (asked (key x)) (cond (shown (row (key x))) (row (key x) ∷ []) []) [])
    → (xs : List X) → flat_map f xs ≡ filter shown (map row (filter asked (map key xs)))
shown-rows key asked row shown f each [] = refl
shown-rows {X} {K} {R} key asked row shown f each (x ∷ xs) =
    ap (λ t. t ++ flat_map f xs) (each x)
    ∙ at (asked (key x)) (shown (row (key x))) refl (shown-rows key asked row shown f each xs)
  where
    rest : List R
    rest = filter shown (map row (filter asked (map key xs)))

    at : (a s : Bool) → shown (row (key x)) ≡ s → flat_map f xs ≡ rest
        → cond a (cond s (row (key x) ∷ []) []) [] ++ flat_map f xs
        ≡ filter shown (map row
        (cond a (key x ∷ filter asked (map key xs)) (filter asked (map key xs))))
    at true true e ih =
        ap (λ t. row (key x) ∷ t) ih ∙ ap (λ b. cond b (row (key x) ∷ rest) rest) (sym e)
    at true false e ih = ih ∙ ap (λ b. cond b (row (key x) ∷ rest) rest) (sym e)
    at false true e ih = ih
    at false false e ih = ih

-- elements without rows may be left out
pub flat_map-filter : {X R : Type 0} (f : X → List R) (test : X → Bool)
    → ((x : X) → test x ≡ false → f x ≡ []) → (xs : List X)
    → flat_map f (filter test xs) ≡ flat_map f xs
flat_map-filter f test h [] = refl
flat_map-filter {X} f test h (x ∷ xs) = at (test x) refl (flat_map-filter f test h xs)
  where
    at : (b : Bool) → test x ≡ b → flat_map f (filter test xs) ≡ flat_map f xs
        → flat_map f (cond b (x ∷ filter test xs) (filter test xs)) ≡ f x ++ flat_map f xs
    at true e ih = ap (λ t. f x ++ t) ih
    at false e ih = ih ∙ ap (λ t. t ++ flat_map f xs) (sym (h x e))

pub flat_map-map : {X Y R : Type 0} (f : Y → List R) (g : X → Y) (xs : List X)
    → flat_map f (map g xs) ≡ flat_map (λ x. f (g x)) xs
flat_map-map f g [] = refl
flat_map-map f g (x ∷ xs) = ap (λ t. f (g x) ++ t) (flat_map-map f g xs)

-- ---- which nets are shown

or-false : (b : Bool) → (b || false) ≡ b
or-false true = refl
or-false false = refl

above-zero : (n : ℕ) → int_eq (pos (suc n)) (pos 0) ≡ false
above-zero n = at (int_eq (pos (suc n)) (pos 0)) refl
  where
    at : (b : Bool) → int_eq (pos (suc n)) (pos 0) ≡ b → int_eq (pos (suc n)) (pos 0) ≡ false
    at true e = absurd (omega (arith, ints, (Decides-int_eq (pos (suc n)) (pos 0)).0 e))
    at false e = e

neg-zero : (n : ℤ) → int_eq (neg_ℤ n) (pos 0) ≡ int_eq n (pos 0)
neg-zero (pos zero) = refl
neg-zero (pos (suc n)) = sym (above-zero n)
neg-zero (negsuc n) = above-zero n

-- a row of a net has an amount exactly where the net is not zero
pub has_amount-net : (key : AccountKey) (nature : Nature) (n : ℤ)
    → has_amount (net_row key nature n) ≡ not (int_eq n (pos 0))
has_amount-net key Active n = or-false (not (int_eq n (pos 0)))
has_amount-net key Passive n =
    or-false (not (int_eq (neg_ℤ n) (pos 0))) ∙ ap not (neg-zero n)
has_amount-net key Both n = at (int_lt (pos 0) n)
  where
    at : (above : Bool)
        → (not (int_eq (cond {A = ℤ × ℤ} above (n, pos 0) (pos 0, neg_ℤ n)).0 (pos 0))
        || (not (int_eq (cond {A = ℤ × ℤ} above (n, pos 0) (pos 0, neg_ℤ n)).1 (pos 0)) || false))
        ≡ not (int_eq n (pos 0))
    at true = or-false (not (int_eq n (pos 0)))
    at false = or-false (not (int_eq (neg_ℤ n) (pos 0))) ∙ ap not (neg-zero n)

module _ (chart : Chart) (asked : Option (List ℕ)) (es : List BookedEntry) where
  -- the rows of a key, by its net
  net-shown : (key : AccountKey) (n : ℤ) → n ≡ net_at chart key es
      → net_rows chart key n
      ≡ cond (has_amount (balance_row chart es key)) (balance_row chart es key ∷ []) []
  net-shown key n e =
      ap (net_rows chart key) e
      ∙ ap (λ b. cond b (balance_row chart es key ∷ []) [])
      (sym (has_amount-net key (nature_at chart key.account) (net_at chart key es)))

  abbrev asked_key : AccountKey → Bool
  asked_key key = is_asked chart asked key.account

  -- the rows of accounts, each with those below it
  pub whole-rows : flat_map (whole_row chart asked (account_sums es)) chart.accounts
      ≡ balance_rows chart asked false es
  unfolding balance_rows
  whole-rows =
      shown-rows whole_key asked_key (balance_row chart es) has_amount
      (whole_row chart asked (account_sums es))
      (λ a. ap (λ rows. cond (is_asked chart asked a.code) rows [])
      (net-shown (whole_key a) (net_below chart a.code (account_sums es))
      (net_below-entries chart a.code es))) chart.accounts

-- ---- the keys of entries

-- keys in order once, seen as others in the same order
put_once-map : {X Y : Type 0} (R : X → X → Ordering) (S : Y → Y → Ordering) (view : X → Y)
    → ((a b : X) → R a b ≡ S (view a) (view b)) → (x : X) (xs : List X)
    → map view (put_once R x xs) ≡ put_once S (view x) (map view xs)
put_once-map R S view same x [] = refl
put_once-map {X} {Y} R S view same x (y ∷ ys) =
    at (R x y) (put_once-map R S view same x ys)
    ∙ ap (λ r. match_ordering r (view x ∷ view y ∷ map view ys) (view y ∷ map view ys)
    (view y ∷ put_once S (view x) (map view ys))) (same x y)
  where
    at : (r : Ordering) → map view (put_once R x ys) ≡ put_once S (view x) (map view ys)
        → map view (match_ordering r (x ∷ y ∷ ys) (y ∷ ys) (y ∷ put_once R x ys))
        ≡ match_ordering r (view x ∷ view y ∷ map view ys) (view y ∷ map view ys)
        (view y ∷ put_once S (view x) (map view ys))
    at Less ih = refl
    at Equal ih = refl
    at Greater ih = ap (λ t. view y ∷ t) ih

pub in_order_once-map : {X Y : Type 0} (R : X → X → Ordering) (S : Y → Y → Ordering) (view : X → Y)
    → ((a b : X) → R a b ≡ S (view a) (view b)) → (xs : List X)
    → map view (in_order_once R xs) ≡ in_order_once S (map view xs)
in_order_once-map R S view same [] = refl
in_order_once-map R S view same (x ∷ xs) =
    put_once-map R S view same x (in_order_once R xs)
    ∙ ap (put_once S (view x)) (in_order_once-map R S view same xs)

-- the place that a side has
abbrev pub place_of : SideAmounts → SidePlace
place_of s = s.place

keys-sides : (d c : Option Side) (n : ℤ)
    → map key_at (map place_of (amounts_of d n (pos 0) ++ amounts_of c (pos 0) n))
    ≡ keys_of_side d ++ keys_of_side c
keys-sides None None n = refl
keys-sides None (Some c) n = refl
keys-sides (Some d) None n = refl
keys-sides (Some d) (Some c) n = refl

keys-entries : (es : List BookedEntry)
    → map key_at (map place_of (flat_map sides_of es)) ≡ flat_map keys_of_entry es
keys-entries [] = refl
keys-entries (b ∷ es) =
    ap (map key_at) (map-append place_of (sides_of b) (flat_map sides_of es))
    ∙ map-append key_at (map place_of (sides_of b)) (map place_of (flat_map sides_of es))
    ∙ ap (λ t. t ++ map key_at (map place_of (flat_map sides_of es)))
    (keys-sides b.entry.debit b.entry.credit b.entry.amount)
    ∙ ap (λ t. keys_of_entry b ++ t) (keys-entries es)

-- ---- the rows of accounts with extras

module _ (chart : Chart) (asked : Option (List ℕ)) (es : List BookedEntry) where
  -- the sums that a place has
  abbrev at_sums : SidePlace → AccountSum
  at_sums p = account_sum (p, place_sums (flat_map sides_of es) p)

  unmoved-row : (s : AccountSum) → is_moved s ≡ false → place_row chart asked s ≡ []
  unmoved-row s h =
      ap (λ n. cond (is_asked chart asked s.account) (net_rows chart (place_key s) n) [])
      (unmoved-net s h)
      ∙ at (is_asked chart asked s.account)
    where
      at : (b : Bool) → cond {A = List AccountRow} b [] [] ≡ []
      at true = refl
      at false = refl

  pub place-rows : flat_map (place_row chart asked) (account_sums es)
      ≡ balance_rows chart asked true es
  unfolding balance_rows
  place-rows =
      let sides : List SideAmounts = flat_map sides_of es in
      let places : List SidePlace = in_order_once place_cmp (map place_of sides) in
      flat_map-filter (place_row chart asked) is_moved unmoved-row
      (map account_sum (side_sums sides))
      ∙ flat_map-map (place_row chart asked) account_sum (side_sums sides)
      ∙ flat_map-map (λ e. place_row chart asked (account_sum e))
      (λ (p : SidePlace). (p, place_sums sides p)) places
      ∙ shown-rows key_at (asked_key chart asked es) (balance_row chart es)
      has_amount (λ p. place_row chart asked (at_sums p))
      (λ p. ap (λ rows. cond (is_asked chart asked p.account) rows [])
      (net-shown chart asked es (key_at p) (net_of (at_sums p)) (net-place chart p es)))
      places
      ∙ ap (λ ks. filter has_amount (map (balance_row chart es)
      (filter (asked_key chart asked es) ks)))
      (in_order_once-map place_cmp account_key_cmp key_at (λ p q. refl)
      (map place_of sides)
      ∙ ap (in_order_once account_key_cmp) (keys-entries es))

  pub shown-balances : (extras : Bool) → shown_balances chart asked extras (account_sums es)
      ≡ balance_rows chart asked extras es
  shown-balances false = whole-rows chart asked es
  shown-balances true = place-rows

-- the rows over the entries as the documents hold them
pub shown-account_balance : (chart : Chart) (asked : Option (List ℕ)) (extras : Bool) (cut : Cut)
    (ledger : ℕ) (documents : List Document)
    → shown_balances chart asked extras
    (account_sums (filter (counts (Inside cut)) (flat_map (entered_by ledger) documents)))
    ≡ account_balance_of chart (entries_of ledger documents) asked extras cut
shown-account_balance chart asked extras cut ledger documents =
    ap (shown_balances chart asked extras)
    (account_sums-permutation _ (entries_within cut (entries_of ledger documents))
    (IsPermutation-filter (counts (Inside cut)) (flat_map (entered_by ledger) documents)
    (entries_of ledger documents) (entries_of-permutation ledger documents)))
    ∙ shown-balances chart asked (entries_within cut (entries_of ledger documents)) extras
