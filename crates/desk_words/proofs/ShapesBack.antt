-- What has a shape is read from its JSON.
use Rattle.std.proofs.Common.{◌≡◌, ℕ, ◌≤◌, true, nat_le, Option, Some, None, IfSome, List, []}
use Rattle.std.proofs.Common.{◌∷◌, map, Ok, refl, ap, sym, ◌∙◌, rules, tests}
use Rattle.std.proofs.Common.{Greater, Less, nat_cmp}
use Rattle.std.proofs.lemmas.Cmp.{nat_list_cmp_total}
use Rattle.std.specs.Cmp.Lexicographic.{slice_cmp}
use Rattle.std.specs.List.{AllByRecursion}
use Rattle.std.specs.List.Sorted.{IsStrictlySortedBy}
use Rattle.std.specs.Ordering.{ordering_reverse}
use Rattle.serde_json.specs.Data.{Data, string, Members, no_members, member, put}
use Rattle.serde_json.specs.View.{items_of}
use Rattle.reg_base.specs.Cuts.{IsCut, cut_text}
use Rattle.reg_base.specs.Dates.{date_text}
use Rattle.reg_base.specs.declared.cut.Cut.{Cut}
use Rattle.reg_base.specs.declared.records.Mark.{Mark}
use Rattle.reg_base.specs.declared.records.Mark.TheVariants.{Receipt, Expense, Turn}
use Rattle.reg_base.specs.declared.records.Side.{Side}
use Rattle.reg_base.specs.declared.tables.Periodicity.{Periodicity}
use Rattle.reg_base.specs.declared.tables.Periodicity.TheVariants.{Period, Record, Recorder, Day}
use Rattle.reg_base.specs.declared.tables.Periodicity.TheVariants.{Week, TenDays, Month, Quarter}
use Rattle.reg_base.specs.declared.tables.Periodicity.TheVariants.{HalfYear, Year}
use Rattle.reg_base.specs.declared.tables.Method.{Method}
use Rattle.reg_base.specs.declared.tables.Method.TheVariants.{Movements}
use Rattle.reg_base.specs.declared.tables.Method.TheVariants.{MovementsAndPeriodBoundaries}
use Rattle.reg_base.proofs.ForAbove.{parse_date-text, parse_date_end-text, parse_cut-text}
use Rattle.desk_words.specs.declared.fault.Member.{Member}
use Rattle.desk_words.specs.declared.request.FieldText.{FieldText}
use Rattle.desk_words.specs.declared.request.FilterText.{FilterText}
use Rattle.desk_words.specs.declared.request.SetText.{SetText}
use Rattle.desk_words.specs.declared.request.RecordText.{RecordText}
use Rattle.desk_words.specs.declared.request.RecordText.TheVariants.{Register, Ledger}
use Rattle.desk_words.specs.Members.{member_names}
use Rattle.desk_words.specs.Shapes.{OrFault, value_at, json_object, json_items, json_text}
use Rattle.desk_words.specs.Shapes.{json_name, json_code, json_date, json_cut, json_number}
use Rattle.desk_words.specs.Shapes.{json_each, json_texts, json_codes, json_comment}
use Rattle.desk_words.specs.Sets.{json_mark, json_side, register_record, ledger_record, json_record}
use Rattle.desk_words.specs.Sets.{json_records, json_set, json_sets}
use Rattle.desk_words.specs.Shapes.{json_names, json_date_end, each_named}
use Rattle.desk_words.specs.Fields.{json_field, json_fields, json_lines}
use Rattle.desk_words.specs.TableShapes.{json_filter, json_filters, json_by, json_account_by}
use Rattle.desk_words.specs.TableShapes.{json_method}
use Rattle.desk_words.specs.FieldTexts.{fields_data, lines_data}
use Rattle.desk_words.specs.JsonValues.{whole, texts_data, put_named}
use Rattle.desk_words.specs.TableTexts.{by_data, method_data, date_data, filters_data}
use Rattle.desk_words.specs.WellFormedTables.{IsFilterText, AreFilters, AreNames, IsAccountBy}
use Rattle.desk_words.specs.RequestTexts.{mark_name, side_data, register_data, ledger_data}
use Rattle.desk_words.specs.RequestTexts.{record_data, set_data, sets_data}
use Rattle.desk_words.specs.WellFormedParts.{IsCode, IsName, IsNumber, IsDate, IsComment}
use Rattle.desk_words.specs.WellFormed.{IsFieldText, AreFields, IsSide, IsRecordText}
use Rattle.desk_words.specs.WellFormed.{IsSetText}

-- ---- lists, records and sets are read from their JSON

-- where each element is read from what stands for it, the list is
json_each-back : {X : Type 0} (shape : Data → OrFault X) (data_of : X → Data) (P : X → Type 0)
    → ((x : X) → P x → shape (data_of x) ≡ Ok x) → (xs : List X) → AllByRecursion P xs
    → json_each shape (items_of (map data_of xs)) ≡ Ok xs
json_each-back shape data_of P back [] h = refl
json_each-back shape data_of P back (x ∷ xs) h =
    rw (back x h.0, json_each-back shape data_of P back xs h.1)

texts_back : (m : Member) (texts : List (List ℕ))
    → json_each (json_text m) (items_of (map string texts)) ≡ Ok texts
unfolding json_text
texts_back m [] = refl
texts_back m (text ∷ texts) = rw (texts_back m texts)

json_texts-back : (m : Member) (texts : List (List ℕ)) → json_texts m (texts_data texts) ≡ Ok texts
unfolding json_texts json_items texts_data
json_texts-back m texts = texts_back m texts

pub json_code-back : (m : Member) (code : List ℕ) → IsCode code
    → json_code m (string code) ≡ Ok code
unfolding json_code json_text
json_code-back m code is = rw is

json_side-back : (m : Member) (side : Option Side) → IfSome side IsSide
    → json_side m (side_data side) ≡ Ok side
unfolding json_side json_codes json_items texts_data
json_side-back m None h = refl
json_side-back m (Some side) h =
    rw (json_each-back (json_code m) string IsCode (json_code-back m) (side.account ∷ side.extras)
    h)

json_mark-back : (m : Member) (mark : Mark) → json_mark m (string (mark_name mark)) ≡ Ok mark
unfolding json_mark json_text
json_mark-back m Receipt = refl
json_mark-back m Expense = refl
json_mark-back m Turn = refl

json_record-back : (m : Member) (given : RecordText) → IsRecordText given
    → json_record m (record_data given) ≡ Ok given
unfolding json_record json_object register_record ledger_record register_data ledger_data value_at
    json_text
json_record-back m (Register r) h =
    rw (json_mark-back m r.mark, json_texts-back m r.sums, json_texts-back m r.values)
json_record-back m (Ledger r) h = rw (json_side-back m r.credit h.1, json_side-back m r.debit h.2)

pub json_name-back : (m : Member) (name : List ℕ) → IsName name
    → json_name m (string name) ≡ Ok name
unfolding json_name json_text
json_name-back m name is = rw is

json_set-back : (m : Member) (set : SetText) → IsSetText set → json_set m (set_data set) ≡ Ok set
unfolding json_set json_object json_records json_items set_data value_at
json_set-back m set h =
    rw (
      json_name-back m set.space h.0,
      json_each-back (json_record m) record_data IsRecordText
          (json_record-back m) set.records h.1,
    )

pub json_sets-back : (m : Member) (sets : List SetText) → AllByRecursion IsSetText sets
    → json_sets m (sets_data sets) ≡ Ok sets
unfolding json_sets json_items sets_data
json_sets-back m sets h = json_each-back (json_set m) set_data IsSetText (json_set-back m) sets h

-- ---- texts and numbers

pub json_date-back : (m : Member) (date : ℕ) → IsDate date
    → json_date m (string (date_text date)) ≡ Ok date
unfolding json_date json_text
json_date-back m date within = rw (parse_date-text date within)

pub json_number-back : (m : Member) (n : ℕ) → IsNumber n → json_number m (whole n) ≡ Ok n
unfolding json_number
json_number-back m n is =
    let first : 1 ≤ n = is.0 in
    let last : n ≤ 4_294_967_295 = is.1 in
    let low : nat_le 1 n ≡ true = search (rules, tests) in
    let high : nat_le n 4_294_967_295 ≡ true = search (rules, tests) in
    rw (low, high)

pub json_cut-back : (m : Member) (cut : Cut) → IsCut cut
    → json_cut m (string (cut_text cut)) ≡ Ok cut
unfolding json_cut json_text
json_cut-back m cut is = rw (parse_cut-text cut is)

pub json_comment-back : (m : Member) (text : List ℕ) → IsComment text
    → json_comment m (string text) ≡ Ok text
unfolding json_comment json_text
json_comment-back m text is = rw is.0

-- ---- members under their names

-- members before others
abbrev before : Members → Members → Members
before no_members ms = ms
before (member k d front) ms = member k d (before front ms)

before-none : (ms : Members) → before ms no_members ≡ ms
before-none no_members = refl
before-none (member k d ms) = ap (member k d) (before-none ms)

before-assoc : (front middle back : Members)
    → before (before front middle) back ≡ before front (before middle back)
before-assoc no_members middle back = refl
before-assoc (member k d front) middle back = ap (member k d) (before-assoc front middle back)

-- a name comes behind those of all members
abbrev IsBehind : List ℕ → Members → Type 0
IsBehind name ms = AllByRecursion (λ l. slice_cmp nat_cmp name l ≡ Greater) (member_names ms)

put-last : (k : List ℕ) (d : Data) (ms : Members) → IsBehind k ms
    → put k d ms ≡ before ms (member k d no_members)
put-last k d no_members h = refl
put-last k d (member l e ms) h = rw h.0 (ap (member l e) (put-last k d ms h.1))

-- the elements of a list as members, in their order
abbrev members_of_named : {X : Type 0} → (X → List ℕ) → (X → Data) → List X → Members
members_of_named name_of data_of [] = no_members
members_of_named name_of data_of (x ∷ xs) =
    member (name_of x) (data_of x) (members_of_named name_of data_of xs)

behind-last : (name k : List ℕ) (d : Data) (front : Members) → IsBehind name front
    → slice_cmp nat_cmp name k ≡ Greater → IsBehind name (before front (member k d no_members))
behind-last name k d no_members h p = (p, tt)
behind-last name k d (member l e ms) h p = (h.0, behind-last name k d ms h.1 p)

-- the names of all elements come behind those of the members
abbrev AreBehind : {X : Type 0} → (X → List ℕ) → List X → Members → Type 0
AreBehind name_of xs front = AllByRecursion (λ x. IsBehind (name_of x) front) xs

are_behind-last : {X : Type 0} (name_of : X → List ℕ) (k : List ℕ) (d : Data) (front : Members)
    → (xs : List X) → AreBehind name_of xs front
    → AllByRecursion (λ n. slice_cmp nat_cmp k n ≡ Less) (map name_of xs)
    → AreBehind name_of xs (before front (member k d no_members))
are_behind-last name_of k d front [] h less = tt
are_behind-last name_of k d front (x ∷ xs) h less = (
  behind-last (name_of x) k d front h.0
      (nat_list_cmp_total.antisymm (name_of x) k ∙ ap ordering_reverse less.0),
  are_behind-last name_of k d front xs h.1 less.1,
)

are_behind-none : {X : Type 0} (name_of : X → List ℕ) (xs : List X)
    → AreBehind name_of xs no_members
are_behind-none name_of [] = tt
are_behind-none name_of (x ∷ xs) = (tt, are_behind-none name_of xs)

-- elements in byte order of their names stay in their order
put_named-in_order : {X : Type 0} (name_of : X → List ℕ) (data_of : X → Data) (front : Members)
    → (xs : List X) → AreBehind name_of xs front
    → IsStrictlySortedBy (slice_cmp nat_cmp) (map name_of xs)
    → put_named name_of data_of front xs ≡ before front (members_of_named name_of data_of xs)
unfolding IsStrictlySortedBy
put_named-in_order name_of data_of front [] h sorted = sym (before-none front)
put_named-in_order name_of data_of front (x ∷ xs) h sorted =
    let one = member (name_of x) (data_of x) no_members in
    ap (λ ms. put_named name_of data_of ms xs) (put-last (name_of x) (data_of x) front h.0)
    ∙ put_named-in_order name_of data_of (before front one) xs
    (are_behind-last name_of (name_of x) (data_of x) front xs h.1 sorted.0) sorted.1
    ∙ before-assoc front one (members_of_named name_of data_of xs)

-- where each element is read from what stands for it, the members are
each_named-back : {X : Type 0} (name_of : X → List ℕ) (data_of : X → Data)
    → (shape : List ℕ → Data → OrFault X) (P : X → Type 0)
    → ((x : X) → P x → shape (name_of x) (data_of x) ≡ Ok x) → (xs : List X)
    → AllByRecursion P xs → IsStrictlySortedBy (slice_cmp nat_cmp) (map name_of xs)
    → each_named shape (put_named name_of data_of no_members xs) ≡ Ok xs
each_named-back {X} name_of data_of shape P back xs all sorted =
    ap (each_named shape) (put_named-in_order name_of data_of no_members xs
    (are_behind-none name_of xs) sorted)
    ∙ each xs all
  where
    each : (ys : List X) → AllByRecursion P ys
        → each_named shape (members_of_named name_of data_of ys) ≡ Ok ys
    each [] h = refl
    each (y ∷ ys) h = rw (back y h.0, each ys h.1)

-- ---- fields and filters

json_field-back : (m : Member) (field : FieldText) → IsFieldText field
    → json_field m field.name (string field.text) ≡ Ok field
unfolding json_field json_text
json_field-back m field is = rw is.0

pub json_fields-back : (m : Member) (fields : List FieldText) → AreFields fields
    → json_fields m (fields_data fields) ≡ Ok fields
unfolding json_fields json_object
json_fields-back m fields h =
    each_named-back (λ (field : FieldText). field.name) (λ (field : FieldText). string field.text)
    (json_field m) IsFieldText (json_field-back m) fields h.0 h.1

pub json_lines-back : (m : Member) (lines : List (List FieldText))
    → AllByRecursion AreFields lines → json_lines m (lines_data lines) ≡ Ok lines
unfolding json_lines json_items lines_data
json_lines-back m lines h =
    json_each-back (json_fields m) fields_data AreFields (json_fields-back m) lines h

json_filter-back : (m : Member) (filter : FilterText) → IsFilterText filter
    → json_filter m filter.name (texts_data filter.values) ≡ Ok filter
unfolding json_filter
json_filter-back m filter is = rw (is.0, json_texts-back m filter.values)

pub json_filters-back : (m : Member) (filters : List FilterText) → AreFilters filters
    → json_filters m (filters_data filters) ≡ Ok filters
unfolding json_filters json_object
json_filters-back m filters h =
    each_named-back (λ (filter : FilterText). filter.name)
    (λ (filter : FilterText). texts_data filter.values)
    (json_filter m) IsFilterText (json_filter-back m) filters h.0 h.1

pub json_names-back : (m : Member) (names : List (List ℕ)) → AreNames names
    → json_names m (texts_data names) ≡ Ok names
unfolding json_names json_items texts_data
json_names-back m names h = json_each-back (json_name m) string IsName (json_name-back m) names h

-- ---- words of tables

pub json_date_end-back : (m : Member) (date : ℕ) → IsDate date
    → json_date_end m (date_data date) ≡ Ok date
unfolding json_date_end json_text
json_date_end-back m date within = rw (parse_date_end-text date within)

pub json_by-back : (m : Member) (by : Periodicity) → json_by m (by_data by) ≡ Ok by
unfolding json_by json_text
json_by-back m Period = refl
json_by-back m Record = refl
json_by-back m Recorder = refl
json_by-back m Day = refl
json_by-back m Week = refl
json_by-back m TenDays = refl
json_by-back m Month = refl
json_by-back m Quarter = refl
json_by-back m HalfYear = refl
json_by-back m Year = refl

pub json_account_by-back : (m : Member) (by : Periodicity) → IsAccountBy by
    → json_account_by m (by_data by) ≡ Ok by
unfolding json_account_by json_text
json_account_by-back m by is = rw is

pub json_method-back : (m : Member) (method : Method)
    → json_method m (method_data method) ≡ Ok method
unfolding json_method json_text
json_method-back m Movements = refl
json_method-back m MovementsAndPeriodBoundaries = refl
