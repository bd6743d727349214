-- The JSON of the parts of a request is plain, and nests a few levels deep.
use Rattle.std.proofs.Common.{◌≡◌, ℕ, ◌≤◌, Bool, true, ◌&&◌, Option, Some, None, IfSome, option_map}
use Rattle.std.proofs.Common.{List, [], ◌∷◌, map, IsUtf8, codes, refl, ap, ◌∙◌, arith}
use Rattle.std.proofs.Common.{Ordering, Less, Equal, Greater, nat_cmp, is_gt}
use Rattle.std.proofs.lemmas.Bool.{and_parts}
use Rattle.std.proofs.lemmas.Cmp.{nat_list_cmp_total}
use Rattle.std.specs.Cmp.Lexicographic.{slice_cmp}
use Rattle.std.specs.List.{AllByRecursion}
use Rattle.std.specs.Ordering.{match_ordering, ordering_reverse}
use Rattle.serde_json.specs.Data.{Data, string, depth, items_depth, Members, no_members, member}
use Rattle.serde_json.specs.Data.{put, members_depth}
use Rattle.serde_json.specs.View.{items_of}
use Rattle.json_laws.specs.Plain.{IsPlain, ItemsArePlain, MembersArePlain, stands_before}
use Rattle.reg_base.specs.declared.records.Mark.{Mark}
use Rattle.reg_base.specs.declared.records.Mark.TheVariants.{Receipt, Expense, Turn}
use Rattle.reg_base.specs.declared.records.Side.{Side}
use Rattle.reg_base.proofs.ForAbove.{IsUtf8-tested, IsUtf8-code, IsUtf8-name}
use Rattle.desk_words.specs.declared.request.FieldText.{FieldText}
use Rattle.desk_words.specs.declared.request.FilterText.{FilterText}
use Rattle.desk_words.specs.declared.request.SetText.{SetText}
use Rattle.desk_words.specs.declared.request.RecordText.{RecordText}
use Rattle.desk_words.specs.declared.request.RecordText.TheVariants.{Register, Ledger}
use Rattle.desk_words.specs.FieldTexts.{fields_data, lines_data}
use Rattle.desk_words.specs.JsonValues.{texts_data, put_if, put_named}
use Rattle.desk_words.specs.TableTexts.{filters_data}
use Rattle.desk_words.specs.WellFormedTables.{IsFilterText, AreFilters}
use Rattle.desk_words.specs.RequestTexts.{mark_name, side_data, register_data, ledger_data}
use Rattle.desk_words.specs.RequestTexts.{record_data, set_data, sets_data}
use Rattle.desk_words.specs.WellFormedParts.{IsCode}
use Rattle.desk_words.specs.WellFormed.{IsSide, IsRecordText, IsSetText, IsFieldText, AreFields}

-- ---- members that are put in

after_reverse : (k l : List ℕ) → slice_cmp nat_cmp k l ≡ Less → is_gt (slice_cmp nat_cmp l k) ≡ true
after_reverse k l p = ap is_gt (nat_list_cmp_total.antisymm l k ∙ ap ordering_reverse p)

both : (a b : Bool) → a ≡ true → b ≡ true → (a && b) ≡ true
both a b p q = λ i. p i && q i

is_gt-Greater : (o : Ordering) → is_gt o ≡ true → o ≡ Greater
is_gt-Greater Less h = absurd cc
is_gt-Greater Equal h = absurd cc
is_gt-Greater Greater h = refl

-- a name before one that stands before others stands before them
stands_before-trans : (k l : List ℕ) (ms : Members) → slice_cmp nat_cmp k l ≡ Less
    → stands_before l ms ≡ true → stands_before k ms ≡ true
stands_before-trans k l no_members p h = refl
stands_before-trans k l (member n d ms) p h =
    let parts = and_parts (is_gt (slice_cmp nat_cmp n l)) (stands_before l ms) h in
    let below : slice_cmp nat_cmp l n ≡ Less =
    nat_list_cmp_total.antisymm l n ∙ ap ordering_reverse
    (is_gt-Greater (slice_cmp nat_cmp n l) parts.0) in
    both _ _ (after_reverse k n (nat_list_cmp_total.trans k l n p below))
    (stands_before-trans k l ms p parts.1)

stands_before-put : (l k : List ℕ) (d : Data) (ms : Members) → is_gt (slice_cmp nat_cmp k l) ≡ true
    → stands_before l ms ≡ true → stands_before l (put k d ms) ≡ true
stands_before-put l k d no_members p h = both _ _ p refl
stands_before-put l k d (member n e ms) p h =
    at (stands_before-put l k d ms p parts.1) (slice_cmp nat_cmp k n)
  where
    parts : (is_gt (slice_cmp nat_cmp n l) ≡ true) × (stands_before l ms ≡ true)
    parts = and_parts (is_gt (slice_cmp nat_cmp n l)) (stands_before l ms) h

    at : stands_before l (put k d ms) ≡ true → (order : Ordering)
        → stands_before l (match_ordering order (member k d (member n e ms)) (member n d ms)
        (member n e (put k d ms))) ≡ true
    at ih Less = both _ _ p h
    at ih Equal = h
    at ih Greater = both _ _ parts.0 ih

pub MembersArePlain-put : (k : List ℕ) (d : Data) (ms : Members) → IsUtf8 k → IsPlain d
    → MembersArePlain ms → MembersArePlain (put k d ms)
MembersArePlain-put k d no_members utf8 plain h = ((utf8, refl), plain, tt)
MembersArePlain-put k d (member l e ms) utf8 plain h =
    at (MembersArePlain-put k d ms utf8 plain h.2) (slice_cmp nat_cmp k l) refl
  where
    at : MembersArePlain (put k d ms) → (order : Ordering) → slice_cmp nat_cmp k l ≡ order
        → MembersArePlain (match_ordering order (member k d (member l e ms)) (member l d ms)
        (member l e (put k d ms)))
    at ih Less p = (
      (utf8, both _ _ (after_reverse k l p) (stands_before-trans k l ms p h.0.1)),
      plain,
      h,
    )
    at ih Equal p = (h.0, plain, h.2)
    at ih Greater p = ((h.0.0, stands_before-put l k d ms (ap is_gt p) h.0.1), h.1, ih)

-- members with one more in its place, where it is there
pub MembersArePlain-put_if : {X : Type 0} (name : List ℕ) (data_of : X → Data) (P : X → Type 0)
    → ((x : X) → P x → IsPlain (data_of x)) → IsUtf8 name → (o : Option X) → IfSome o P
    → (ms : Members) → MembersArePlain ms
    → MembersArePlain (put_if name (option_map data_of o) ms)
MembersArePlain-put_if name data_of P plain utf8 None is ms h = h
MembersArePlain-put_if name data_of P plain utf8 (Some x) is ms h =
    MembersArePlain-put name (data_of x) ms utf8 (plain x is) h

-- ---- plain values

-- members with those of a list that are plain
pub MembersArePlain-named : {X : Type 0} (name_of : X → List ℕ) (data_of : X → Data)
    → (P : X → Type 0) → ((x : X) → P x → IsUtf8 (name_of x) × IsPlain (data_of x))
    → (ms : Members) (xs : List X) → MembersArePlain ms → AllByRecursion P xs
    → MembersArePlain (put_named name_of data_of ms xs)
MembersArePlain-named name_of data_of P plain ms [] h all = h
MembersArePlain-named name_of data_of P plain ms (x ∷ xs) h all =
    MembersArePlain-named name_of data_of P plain (put (name_of x) (data_of x) ms) xs
    (MembersArePlain-put (name_of x) (data_of x) ms (plain x all.0).0 (plain x all.0).1 h) all.1

IsPlain-field : (field : FieldText) → IsFieldText field
    → IsUtf8 field.name × IsPlain (string field.text)
IsPlain-field field is = (IsUtf8-name field.name is.0, is.1)

pub IsPlain-fields_data : (fields : List FieldText) → AreFields fields
    → IsPlain (fields_data fields)
IsPlain-fields_data fields h =
    MembersArePlain-named (λ (field : FieldText). field.name)
    (λ (field : FieldText). string field.text) IsFieldText IsPlain-field no_members fields tt h.0

ItemsArePlain-each : {X : Type 0} (data_of : X → Data) (P : X → Type 0)
    → ((x : X) → P x → IsPlain (data_of x)) → (xs : List X) → AllByRecursion P xs
    → ItemsArePlain (items_of (map data_of xs))
ItemsArePlain-each data_of P plain [] h = tt
ItemsArePlain-each data_of P plain (x ∷ xs) h =
    (plain x h.0, ItemsArePlain-each data_of P plain xs h.1)

pub IsPlain-texts_data : (P : List ℕ → Type 0) → ((text : List ℕ) → P text → IsUtf8 text)
    → (texts : List (List ℕ)) → AllByRecursion P texts → IsPlain (texts_data texts)
unfolding texts_data
IsPlain-texts_data P utf8 texts h = ItemsArePlain-each string P utf8 texts h

same : (text : List ℕ) → IsUtf8 text → IsUtf8 text
same text h = h

IsPlain-filter : (filter : FilterText) → IsFilterText filter
    → IsUtf8 filter.name × IsPlain (texts_data filter.values)
IsPlain-filter filter is =
    (IsUtf8-name filter.name is.0, IsPlain-texts_data IsUtf8 same filter.values is.1)

pub IsPlain-filters_data : (filters : List FilterText) → AreFilters filters
    → IsPlain (filters_data filters)
IsPlain-filters_data filters h =
    MembersArePlain-named (λ (filter : FilterText). filter.name)
    (λ (filter : FilterText). texts_data filter.values) IsFilterText IsPlain-filter no_members
    filters tt h.0

IsUtf8-mark_name : (mark : Mark) → IsUtf8 (mark_name mark)
IsUtf8-mark_name Receipt = IsUtf8-tested (codes "receipt") refl
IsUtf8-mark_name Expense = IsUtf8-tested (codes "expense") refl
IsUtf8-mark_name Turn = IsUtf8-tested (codes "turn") refl

IsPlain-side_data : (side : Option Side) → IfSome side IsSide → IsPlain (side_data side)
IsPlain-side_data None h = tt
IsPlain-side_data (Some side) h =
    IsPlain-texts_data IsCode IsUtf8-code (side.account ∷ side.extras) h

IsPlain-record_data : (given : RecordText) → IsRecordText given → IsPlain (record_data given)
unfolding register_data ledger_data
IsPlain-record_data (Register r) h = (
  (IsUtf8-tested (codes "kind") refl, refl),
  IsUtf8-mark_name r.mark,
  (
    (IsUtf8-tested (codes "sums") refl, refl),
    IsPlain-texts_data IsUtf8 same r.sums h.0,
    (
      (IsUtf8-tested (codes "values") refl, refl),
      IsPlain-texts_data IsUtf8 same r.values h.1,
      tt,
    ),
  ),
)
IsPlain-record_data (Ledger r) h = (
  (IsUtf8-tested (codes "amount") refl, refl),
  h.0,
  (
    (IsUtf8-tested (codes "credit") refl, refl),
    IsPlain-side_data r.credit h.1,
    ((IsUtf8-tested (codes "debit") refl, refl), IsPlain-side_data r.debit h.2, tt),
  ),
)

IsPlain-set_data : (set : SetText) → IsSetText set → IsPlain (set_data set)
unfolding set_data
IsPlain-set_data set h = (
  (IsUtf8-tested (codes "records") refl, refl),
  ItemsArePlain-each record_data IsRecordText IsPlain-record_data set.records h.1,
  ((IsUtf8-tested (codes "space") refl, refl), IsUtf8-name set.space h.0, tt),
)

pub IsPlain-sets_data : (sets : List SetText) → AllByRecursion IsSetText sets
    → IsPlain (sets_data sets)
unfolding sets_data
IsPlain-sets_data sets h = ItemsArePlain-each set_data IsSetText IsPlain-set_data sets h

pub IsPlain-lines_data : (lines : List (List FieldText)) → AllByRecursion AreFields lines
    → IsPlain (lines_data lines)
unfolding lines_data
IsPlain-lines_data lines h = ItemsArePlain-each fields_data AreFields IsPlain-fields_data lines h

-- ---- how deep they nest

pub members_depth-put : (most : ℕ) (k : List ℕ) (d : Data) (ms : Members) → depth d ≤ most
    → members_depth ms ≤ most → members_depth (put k d ms) ≤ most
members_depth-put most k d no_members p h = omega (arith, p)
members_depth-put most k d (member l e ms) p h =
    at (members_depth-put most k d ms p (omega (arith, h))) (slice_cmp nat_cmp k l)
  where
    at : members_depth (put k d ms) ≤ most → (order : Ordering)
        → members_depth (match_ordering order (member k d (member l e ms)) (member l d ms)
        (member l e (put k d ms))) ≤ most
    at ih Less = omega (arith, p, h)
    at ih Equal = omega (arith, p, h)
    at ih Greater = omega (arith, h, ih)

-- members with one more in its place, where it is there
pub members_depth-put_if : {X : Type 0} (most : ℕ) (name : List ℕ) (data_of : X → Data)
    → ((x : X) → depth (data_of x) ≤ most) → (o : Option X) (ms : Members)
    → members_depth ms ≤ most → members_depth (put_if name (option_map data_of o) ms) ≤ most
members_depth-put_if most name data_of shallow None ms h = h
members_depth-put_if most name data_of shallow (Some x) ms h =
    members_depth-put most name (data_of x) ms (shallow x) h

-- members with those of a list
pub members_depth-named : {X : Type 0} (most : ℕ) (name_of : X → List ℕ) (data_of : X → Data)
    → ((x : X) → depth (data_of x) ≤ most) → (ms : Members) (xs : List X)
    → members_depth ms ≤ most → members_depth (put_named name_of data_of ms xs) ≤ most
members_depth-named most name_of data_of shallow ms [] h = h
members_depth-named most name_of data_of shallow ms (x ∷ xs) h =
    members_depth-named most name_of data_of shallow (put (name_of x) (data_of x) ms) xs
    (members_depth-put most (name_of x) (data_of x) ms (shallow x) h)

pub depth-fields_data : (fields : List FieldText) → depth (fields_data fields) ≤ 1
depth-fields_data fields =
    let shallow = members_depth-named 0 (λ (field : FieldText). field.name)
    (λ (field : FieldText). string field.text) (λ field. omega arith) no_members fields
    (omega arith) in
    omega (arith, shallow)

items_depth-each : {X : Type 0} (data_of : X → Data) (most : ℕ)
    → ((x : X) → depth (data_of x) ≤ most) → (xs : List X)
    → items_depth (items_of (map data_of xs)) ≤ most
items_depth-each data_of most h [] = omega arith
items_depth-each data_of most h (x ∷ xs) = omega (arith, h x, items_depth-each data_of most h xs)

pub depth-texts_data : (texts : List (List ℕ)) → depth (texts_data texts) ≤ 1
unfolding texts_data
depth-texts_data texts = omega (arith, items_depth-each string 0 (λ text. omega arith) texts)

pub depth-filters_data : (filters : List FilterText) → depth (filters_data filters) ≤ 2
depth-filters_data filters =
    let shallow = members_depth-named 1 (λ (filter : FilterText). filter.name)
    (λ (filter : FilterText). texts_data filter.values) (λ filter. depth-texts_data filter.values)
    no_members filters (omega arith) in
    omega (arith, shallow)

depth-side_data : (side : Option Side) → depth (side_data side) ≤ 1
depth-side_data None = omega arith
depth-side_data (Some side) = depth-texts_data (side.account ∷ side.extras)

depth-record_data : (given : RecordText) → depth (record_data given) ≤ 2
unfolding register_data ledger_data
depth-record_data (Register r) = omega (arith, depth-texts_data r.sums, depth-texts_data r.values)
depth-record_data (Ledger r) = omega (arith, depth-side_data r.credit, depth-side_data r.debit)

depth-set_data : (set : SetText) → depth (set_data set) ≤ 4
unfolding set_data
depth-set_data set = omega (arith, items_depth-each record_data 2 depth-record_data set.records)

pub depth-sets_data : (sets : List SetText) → depth (sets_data sets) ≤ 5
unfolding sets_data
depth-sets_data sets = omega (arith, items_depth-each set_data 4 depth-set_data sets)

pub depth-lines_data : (lines : List (List FieldText)) → depth (lines_data lines) ≤ 2
unfolding lines_data
depth-lines_data lines = omega (arith, items_depth-each fields_data 1 depth-fields_data lines)
