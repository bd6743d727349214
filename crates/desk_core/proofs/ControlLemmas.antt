-- Controls: which combinations fell, and the first control that fails.
use Rattle.std.proofs.Common.{◌≡◌, ℕ, zero, suc, ◌+◌, ◌<◌, ℤ, pos, ◌+ℤ◌, Bool, true, false, not}
use Rattle.std.proofs.Common.{◌&&◌, ◌||◌, cond, Option, Some, None, List, [], ◌∷◌, ◌++◌, map, refl}
use Rattle.std.proofs.Common.{length, drop, get_or, ap, ◌∙◌, sym, subst, arith}
use Rattle.std.specs.Prelude.{int_lt, slice_get}
use Rattle.std.specs.List.{All, filter, filter_map, cons_option, prefix_len, insert}
use Rattle.std.specs.Ordering.{match_ordering, nat_cmp, is_eq, is_lt, int_eq}
use Rattle.std.specs.Ordering.{ordering_then, ordering_reverse}
use Rattle.std.specs.declared.cmp.Ordering.{Ordering}
use Rattle.std.specs.declared.cmp.Ordering.TheVariants.{Less, Equal, Greater}
use Rattle.std.proofs.lemmas.Int.{ints}
use Rattle.std.proofs.lemmas.Bool.Decides.{Decides-int_eq}
use Rattle.std.proofs.lemmas.Cmp.{nat_cmp_total}
use Rattle.std.proofs.lemmas.List.{map-append, drop_more}
use Rattle.std.proofs.lemmas.List.Elements.{All-filter, All-map}
use Rattle.reg_base.specs.declared.value.Value.{Value}
use Rattle.reg_base.specs.declared.records.Mark.{Mark}
use Rattle.reg_base.specs.declared.records.Mark.TheVariants.{Receipt, Expense, Turn}
use Rattle.reg_base.specs.declared.records.Rec.{Rec}
use Rattle.reg_base.specs.declared.records.Document.{Document}
use Rattle.reg_base.specs.declared.records.SumRow.{SumRow}
use Rattle.reg_base.specs.Records.{Booked, values_cmp, put_once, amount_at, signed_amount}
use Rattle.reg_base.specs.Records.{records_of, put, in_order}
use Rattle.reg_base.specs.Balances.{groups_of, contribution, total, row_of, is_shown, sum_rows}
use Rattle.rule_lang.specs.declared.statement.Statement.{Statement}
use Rattle.post_model.specs.Makes.{option_or}
use Rattle.cfg_model.specs.declared.config.Config.{Config}
use Rattle.cfg_model.specs.declared.register.Register.{Register}
use Rattle.cfg_model.specs.declared.register.Resource.{Resource}
use Rattle.desk_words.specs.declared.reply.Refusal.{Refusal}
use Rattle.desk_model.specs.Controls.{own_records, has_fallen, control_refusal, first_below}
use Rattle.desk_model.specs.Controls.{controlled_by, control_cmp, controls_in}
use Rattle.desk_model.specs.Controls.{control_of, control_at, first_control}
use Rattle.row_sums.specs.Sums.{booked, groups_in, sum_at}
use Rattle.desk_core.specs.Controls.{opposite, change_of, changes_of, own_set, AreChanges}
use Rattle.desk_core.proofs.ControlSums.{total-append}

-- ---- what changes

module _ (place : ℕ) where
  back-amount : (r : Rec) → amount_at 0 (change_of true place r) +ℤ amount_at place r ≡ pos 0
  back-amount r = at r.mark _
    where
      at : (m : Mark) (n : ℤ)
          → signed_amount (opposite m) n +ℤ signed_amount m n
          ≡ pos 0
      at Receipt n = omega (arith, ints)
      at Turn n = omega (arith, ints)
      at Expense n = omega (arith, ints)

  module _ (g : List Value) where
    part-sum : (b : Bool) (x y : ℤ) → x +ℤ y ≡ pos 0
        → cond b x (pos 0) +ℤ cond b y (pos 0) ≡ pos 0
    part-sum true x y h = h
    part-sum false x y h = refl

    four : (a b c d : ℤ) → a +ℤ c ≡ pos 0 → b +ℤ d ≡ pos 0
        → (a +ℤ b) +ℤ (c +ℤ d) ≡ pos 0
    four a b c d h k = omega (arith, ints, h, k)

    total-back : (n : ℕ) (set : List Rec)
        → total None g (map (booked 0) (map (change_of true place) set)) 0
        +ℤ total None g (map (booked n) set) place ≡ pos 0
    total-back n [] = refl
    total-back n (r ∷ rs) =
        four (contribution None g 0 (booked 0 (change_of true place r)))
        (total None g (map (booked 0) (map (change_of true place) rs)) 0)
        (contribution None g place (booked n r)) (total None g (map (booked n) rs) place)
        (part-sum (is_eq (values_cmp r.values g)) (amount_at 0 (change_of true place r))
        (amount_at place r) (back-amount r))
        (total-back n rs)

    total-again : (n : ℕ) (set : List Rec)
        → total None g (map (booked 0) (map (change_of false place) set)) 0
        ≡ total None g (map (booked n) set) place
    total-again n [] = refl
    total-again n (r ∷ rs) =
        ap (λ t. contribution None g place (booked n r) +ℤ t) (total-again n rs)

-- the document that a record is booked to
abbrev number_of : Option Document → ℕ
number_of None = 0
number_of (Some d) = d.doc.number

own-set : (register : ℕ) (d : Option Document)
    → own_records register d ≡ map (booked (number_of d)) (own_set register d)
own-set register None = refl
own-set register (Some d) = refl

module _ (place : ℕ) where
  groups-again : (n : ℕ) (set : List Rec)
      → groups_of None (map (booked 0) (map (change_of false place) set))
      ≡ groups_of None (map (booked n) set)
  groups-again n [] = refl
  groups-again n (r ∷ rs) = ap (put_once values_cmp r.values) (groups-again n rs)

  groups-changes : (m n : ℕ) (xs ys : List Rec)
      → groups_of None (changes_of place xs ys)
      ≡ groups_of None (map (booked m) xs ++ map (booked n) ys)
  groups-changes m n [] ys = groups-again n ys
  groups-changes m n (x ∷ xs) ys = ap (put_once values_cmp x.values) (groups-changes m n xs ys)

-- a sum with another taken back is below zero where it is below the other
fell-below : (back counted before after : ℤ) → back +ℤ before ≡ pos 0 → counted ≡ after
    → int_lt (back +ℤ counted) (pos 0) ≡ int_lt after before
fell-below back counted before after h k =
    at (int_lt (back +ℤ counted) (pos 0)) (int_lt after before) refl refl
  where
    at : (p q : Bool) → int_lt (back +ℤ counted) (pos 0) ≡ p → int_lt after before ≡ q → p ≡ q
    at true true e f = refl
    at false false e f = refl
    at true false e f = absurd (omega (arith, ints, h, k, e, f))
    at false true e f = absurd (omega (arith, ints, h, k, e, f))

module _ (place register : ℕ) (before after : Option Document) where
  abbrev moves : List Booked
  moves = changes_of place (own_set register before) (own_set register after)

  abbrev former : List Booked
  former = own_records register before

  abbrev latter : List Booked
  latter = own_records register after

  tells : (g : List Value)
      → int_lt (total None g moves 0) (pos 0) ≡ has_fallen place former latter g
  tells g =
      let xs = own_set register before in
      let ys = own_set register after in
      let counts : List Rec → Bool → List Booked = λ set back.
      map (booked 0) (map (change_of back place) set) in
      ap (λ t. int_lt t (pos 0))
      (ap (λ zs. total None g zs 0)
      (map-append (booked 0) (map (change_of true place) xs) (map (change_of false place) ys))
      ∙ total-append g 0 (counts xs true) (counts ys false))
      ∙ fell-below (total None g (counts xs true) 0) (total None g (counts ys false) 0)
      (total None g former place) (total None g latter place)
      (ap (λ zs. total None g (counts xs true) 0 +ℤ total None g zs place)
      (own-set register before)
      ∙ total-back place g (number_of before) xs)
      (total-again place g (number_of after) ys
      ∙ ap (λ zs. total None g zs place) (sym (own-set register after)))

  -- the rows of what changes tell where a sum fell
  pub changes-tell : (rows : List SumRow) → rows ≡ sum_rows 1 None moves
      → AreChanges place former latter rows
  unfolding sum_rows
  changes-tell rows e =
      let P : SumRow → Type 0 = λ row. int_lt (sum_at row.sums 0) (pos 0)
      ≡ has_fallen place former latter row.group in
      subst (All P) (sym e)
      (All-filter is_shown P (map (row_of 1 None moves) (groups_of None moves))
      (All-map P (row_of 1 None moves) (groups_of None moves) (λ i g l. tells _)))

  module _ (register_of : Register) (resource : Resource) (all : List Booked) where
    abbrev first : List (List Value) → Option Refusal
    first gs = first_below register_of resource place former latter all gs

    -- a combination without a row has not fallen
    first-shown : (gs : List (List Value))
        → first (groups_in (filter is_shown (map (row_of 1 None moves) gs))) ≡ first gs
    first-shown [] = refl
    first-shown (g ∷ gs) = at (int_eq (total None g moves 0) (pos 0)) refl (first-shown gs)
      where
        rest : List SumRow
        rest = filter is_shown (map (row_of 1 None moves) gs)

        at : (b : Bool) → int_eq (total None g moves 0) (pos 0) ≡ b
            → first (groups_in rest) ≡ first gs
            → first (groups_in (cond (not b || false) (row_of 1 None moves g ∷ rest) rest))
            ≡ first (g ∷ gs)
        at false p ih =
            ap (λ t. cond (has_fallen place former latter g
            && int_lt (total None g all place) (pos 0))
            (Some (control_refusal register_of resource g (total None g all place))) t) ih
        at true p ih =
            let none : total None g moves 0 ≡ pos 0 =
            (Decides-int_eq (total None g moves 0) (pos 0)).0 p in
            let stays : has_fallen place former latter g ≡ false =
            sym (tells g) ∙ ap (λ t. int_lt t (pos 0)) none in
            ih
            ∙ ap (λ b. cond (b && int_lt (total None g all place) (pos 0))
            (Some (control_refusal register_of resource g (total None g all place))) (first gs))
            (sym stays)

    -- the first that fails is among those that have rows
    pub first-changes : (rows : List SumRow) → rows ≡ sum_rows 1 None moves
        → first (groups_in rows) ≡ first (groups_of None (former ++ latter))
    unfolding sum_rows
    first-changes rows e =
        ap (λ xs. first (groups_in xs)) e
        ∙ first-shown (groups_of None moves)
        ∙ ap first
        (groups-changes place (number_of before) (number_of after) (own_set register before)
        (own_set register after)
        ∙ (λ i. groups_of None (sym (own-set register before) i ++ sym (own-set register after) i)))

-- a row more, which fails or not
module _ (register : Register) (resource : Resource) (place : ℕ) (before after all : List Booked)
  where
    abbrev first_of : List SumRow → Option Refusal
    first_of rows = first_below register resource place before after all (groups_in rows)

    pub first-row : (rows : List SumRow) (i : ℕ) (row : SumRow)
        → AreChanges place before after rows → i < length rows → row ≡ get_or rows i row
        → (balance : ℤ) → balance ≡ total None row.group all place
        → (b : Bool) → b ≡ (int_lt (sum_at row.sums 0) (pos 0) && int_lt balance (pos 0))
        → first_of (drop i rows)
        ≡ cond b (Some (control_refusal register resource row.group balance))
        (first_of (drop (i + 1) rows))
    first-row rows i row changes l e balance sum b is =
        let P : SumRow → Type 0 = λ r. int_lt (sum_at r.sums 0) (pos 0)
        ≡ has_fallen place before after r.group in
        let fell : int_lt (sum_at row.sums 0) (pos 0) ≡ has_fallen place before after row.group =
        subst P (sym e) (changes i row l) in
        let fails : has_fallen place before after row.group
        && int_lt (total None row.group all place) (pos 0) ≡ b =
        (λ k. sym fell k && int_lt (sym sum k) (pos 0)) ∙ sym is in
        ap first_of (drop_more rows i row l ∙ ap (λ r. r ∷ drop (i + 1) rows) (sym e))
        ∙ (λ k. cond (fails k)
        (Some (control_refusal register resource row.group (sym sum k)))
        (first_of (drop (i + 1) rows)))

-- ---- controls in order

flip-then : (a b : Ordering)
    → ordering_then (ordering_reverse a) (ordering_reverse b)
    ≡ ordering_reverse (ordering_then a b)
flip-then Less b = refl
flip-then Equal b = refl
flip-then Greater b = refl

flip-control : (x y : ℕ × ℕ) → control_cmp y x ≡ ordering_reverse (control_cmp x y)
flip-control x y =
    (λ i. ordering_then (nat_cmp_total.antisymm y.0 x.0 i) (nat_cmp_total.antisymm y.1 x.1 i))
    ∙ flip-then (nat_cmp x.0 y.0) (nat_cmp x.1 y.1)

-- a control inserted behind those before it
pub insert-put : (x : ℕ × ℕ) (ys : List (ℕ × ℕ))
    → insert ys (prefix_len (λ c. is_lt (control_cmp c x)) ys) x ≡ put control_cmp x ys
insert-put x [] = refl
insert-put x (y ∷ ys) =
    ap (λ r. insert (y ∷ ys) (cond (is_lt r) (1 + n) 0) x) (flip-control x y)
    ∙ at (control_cmp x y) (insert-put x ys)
  where
    n : ℕ
    n = prefix_len (λ c. is_lt (control_cmp c x)) ys

    at : (r : Ordering) → insert ys n x ≡ put control_cmp x ys
        → insert (y ∷ ys) (cond (is_lt (ordering_reverse r)) (1 + n) 0) x
        ≡ match_ordering r (x ∷ y ∷ ys) (x ∷ y ∷ ys) (y ∷ put control_cmp x ys)
    at Less ih = refl
    at Equal ih = refl
    at Greater ih =
        let more : 1 + n ≡ suc n = omega arith in
        ap (λ m. insert (y ∷ ys) m x) more ∙ ap (λ t. y ∷ t) ih

-- the controls of a statement more, in front
pub controls-more : (statements : List Statement) (i : ℕ) (s : Statement) → i < length statements
    → s ≡ get_or statements i s
    → controls_in (drop i statements)
    ≡ in_order control_cmp (cons_option (controlled_by s.act)
    (filter_map (λ x. controlled_by x.act) (drop (i + 1) statements)))
controls-more statements i s l e =
    ap controls_in
    (drop_more statements i s l ∙ ap (λ x. x ∷ drop (i + 1) statements) (sym e))

-- the first combination that fails is what a control comes to
pub control-failure : (registers : List Register) (control : ℕ × ℕ) (documents : List Document)
    (before after : Option Document) (register : Register) (resource : Resource)
    → slice_get registers control.0 ≡ Some register
    → slice_get register.resources control.1 ≡ Some resource
    → (rows : List SumRow) → rows ≡ sum_rows 1 None
    (changes_of control.1 (own_set control.0 before) (own_set control.0 after))
    → first_below register resource control.1 (own_records control.0 before)
    (own_records control.0 after) (records_of control.0 documents) (groups_in rows)
    ≡ control_at (slice_get registers control.0) control documents before after
control-failure registers control documents before after register resource e f rows is =
    first-changes control.1 control.0 before after register resource
    (records_of control.0 documents) rows is
    ∙ ap (control_of register control documents before after) (sym f)
    ∙ ap (λ o. control_at o control documents before after) (sym e)

-- a resource that is there is within the register
pub resource-within : (resources : List Resource) (i : ℕ) (resource : Resource)
    → slice_get resources i ≡ Some resource → i < length resources
resource-within [] i resource e = absurd (cc)
resource-within (r ∷ rs) zero resource e = omega arith
resource-within (r ∷ rs) (suc i) resource e =
    let l = resource-within rs i resource e in omega (arith, l)

-- a control more: what it comes to, or what those behind it do
pub first-control : (config : Config) (controls : List (ℕ × ℕ)) (i : ℕ) (d : ℕ × ℕ)
    (documents : List Document) (before after : Option Document) → i < length controls
    → first_control config (drop i controls) documents before after
    ≡ option_or (control_at (slice_get config.registers (get_or controls i d).0)
    (get_or controls i d) documents before after)
    (first_control config (drop (i + 1) controls) documents before after)
first-control config controls i d documents before after l =
    ap (λ xs. first_control config xs documents before after) (drop_more controls i d l)
