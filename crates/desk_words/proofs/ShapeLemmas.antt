-- What has a shape is well formed.
use Rattle.std.proofs.Common.{◌≡◌, ℕ, Bool, true, false, if◌then◌else◌, ◌&&◌, ◌==◌, nat_le, Option}
use Rattle.std.proofs.Common.{Some, None, IfSome, List, [], ◌∷◌, map, Result, Ok, Err, IfOk, IsUtf8}
use Rattle.std.proofs.Common.{codes}
use Rattle.std.proofs.Common.{refl, sym, subst, arith}
use Rattle.std.proofs.lemmas.Bool.Decides.{nat_tests}
use Rattle.std.specs.List.{AllByRecursion}
use Rattle.std.specs.List.Sorted.{IsStrictlySortedBy}
use Rattle.std.specs.Ordering.{nat_cmp}
use Rattle.std.specs.Cmp.Lexicographic.{slice_cmp}
use Rattle.std.specs.Result.{result_ok}
use Rattle.std.specs.Prelude.{⊤, option_and_then}
use Rattle.serde_json.specs.Data.{Data, Members, no_members, member}
use Rattle.serde_json.specs.Events.{members_len}
use Rattle.serde_json.specs.Find.{get_member, as_null, as_number, as_u64}
use Rattle.json_laws.specs.Plain.{MembersHaveUtf8}
use Rattle.reg_base.specs.Codes.{is_code, is_name}
use Rattle.reg_base.specs.Comments.{is_comment}
use Rattle.reg_base.specs.Cuts.{IsCut, parse_cut}
use Rattle.reg_base.specs.Dates.{parse_date, parse_date_end}
use Rattle.reg_base.specs.Results.{◌>>=◌, unless, some_or}
use Rattle.reg_base.specs.declared.records.Side.{Side}
use Rattle.reg_base.specs.declared.tables.Periodicity.{Periodicity}
use Rattle.reg_base.specs.declared.tables.Periodicity.TheVariants.{Period, Day, Week, TenDays}
use Rattle.reg_base.specs.declared.tables.Periodicity.TheVariants.{Month, Quarter, HalfYear, Year}
use Rattle.reg_base.proofs.ForAbove.{parse_date-within, parse_date_end-within, parse_cut-IsCut}
use Rattle.reg_base.proofs.ForAbove.{IfOk-then, IfOk-next, IfOk-unless, IfOk-some_or}
use Rattle.desk_words.specs.declared.fault.Member.{Member}
use Rattle.desk_words.specs.declared.fault.WordFault.TheVariants.{BadMember}
use Rattle.desk_words.specs.declared.request.RecordText.TheVariants.{Register, Ledger}
use Rattle.desk_words.specs.Members.{member_names}
use Rattle.desk_words.specs.Shapes.{value_at, json_object, json_text, json_name, json_code}
use Rattle.desk_words.specs.Shapes.{json_date, json_cut, json_number, json_comment}
use Rattle.desk_words.specs.Shapes.{json_texts, json_codes}
use Rattle.desk_words.specs.Sets.{json_mark, side_from, side_if, json_side, register_record}
use Rattle.desk_words.specs.Sets.{ledger_record, record_if, json_record, json_records, json_set}
use Rattle.desk_words.specs.Sets.{json_sets}
use Rattle.desk_words.specs.Shapes.{OrFault, json_names, json_date_end, each_named}
use Rattle.desk_words.specs.Fields.{json_field, json_fields, json_lines}
use Rattle.desk_words.specs.TableShapes.{json_filter, json_filters, account_by_named}
use Rattle.desk_words.specs.TableShapes.{json_account_by}
use Rattle.desk_words.specs.WellFormedTables.{IsFilterText, AreFilters, AreNames, IsAccountBy}
use Rattle.desk_words.specs.WellFormedParts.{IsName, IsCode, IsNumber, IsDate, IsComment}
use Rattle.desk_words.specs.WellFormed.{IsFieldText, AreFields, IsSide, IsRegisterText}
use Rattle.desk_words.specs.WellFormed.{IsLedgerText, IsRecordText, IsSetText}
use Rattle.desk_words.proofs.OrderLemmas.{MembersAscend}
use Rattle.desk_words.proofs.ReadValues.{IsRead, AreRead, json_object-AreRead, json_text-IsUtf8}
use Rattle.desk_words.proofs.ReadValues.{at_name, json_list-All}

pub json_name-IsName : (m : Member) (d : Data) → IsRead d → IfOk (json_name m d) IsName
unfolding json_name
json_name-IsName m d h =
    IfOk-next IsName (json_text m d) _
    (λ text. IfOk-unless IsName (is_name text) (BadMember m) (λ _. Ok text) (λ is. is))

pub json_code-IsCode : (m : Member) (d : Data) → IsRead d → IfOk (json_code m d) IsCode
unfolding json_code
json_code-IsCode m d h =
    IfOk-next IsCode (json_text m d) _
    (λ text. IfOk-unless IsCode (is_code text) (BadMember m) (λ _. Ok text) (λ is. is))

IfSome-result_ok : {X F : Type 0} (P : X → Type 0) (r : Result X F) → IfOk r P
    → IfSome (result_ok r) P
IfSome-result_ok P (Ok x) h = h
IfSome-result_ok P (Err fault) h = tt

pub json_date-IsDate : (m : Member) (d : Data) → IsRead d → IfOk (json_date m d) IsDate
unfolding json_date
json_date-IsDate m d h =
    IfOk-next IsDate (json_text m d) _ (λ text.
    IfOk-some_or IsDate (result_ok (parse_date text)) (BadMember m)
    (IfSome-result_ok IsDate (parse_date text) (parse_date-within text)))

pub json_cut-IsCut : (m : Member) (d : Data) → IsRead d → IfOk (json_cut m d) IsCut
unfolding json_cut
json_cut-IsCut m d h =
    IfOk-next IsCut (json_text m d) _ (λ text.
    IfOk-some_or IsCut (result_ok (parse_cut text)) (BadMember m)
    (IfSome-result_ok IsCut (parse_cut text) (parse_cut-IsCut text)))

number_tested : (m : Member) (n : ℕ)
    → IfOk (unless (nat_le 1 n && nat_le n 4_294_967_295) (BadMember m) >>= λ _. Ok n) IsNumber
number_tested m n =
    IfOk-unless IsNumber (nat_le 1 n && nat_le n 4_294_967_295) (BadMember m) (λ _. Ok n)
    (λ within. (grind (arith, nat_tests), grind (arith, nat_tests)))

pub json_number-IsNumber : (m : Member) (d : Data) → IsRead d → IfOk (json_number m d) IsNumber
unfolding json_number
json_number-IsNumber m d h =
    IfOk-next IsNumber (some_or (option_and_then as_u64 (as_number d)) (BadMember m)) _
    (λ n. number_tested m n)

pub json_comment-IsComment : (m : Member) (d : Data) → IsRead d → IfOk (json_comment m d) IsComment
unfolding json_comment
json_comment-IsComment m d h =
    IfOk-then IsUtf8 IsComment (json_text m d) _ (json_text-IsUtf8 m d h) (λ text u.
    IfOk-unless IsComment (is_comment text) (BadMember m) (λ _. Ok text) (λ is. (is, u)))

-- ---- sets

json_texts-All : (m : Member) (d : Data) → IsRead d → IfOk (json_texts m d) (AllByRecursion IsUtf8)
unfolding json_texts
json_texts-All m d h = json_list-All (json_text m) IsUtf8 (json_text-IsUtf8 m) m d h

json_codes-All : (m : Member) (d : Data) → IsRead d → IfOk (json_codes m d) (AllByRecursion IsCode)
unfolding json_codes
json_codes-All m d h = json_list-All (json_code m) IsCode (json_code-IsCode m) m d h

side_from-IsSide : (m : Member) (codes : List (List ℕ)) → AllByRecursion IsCode codes
    → IfOk (side_from m codes) IsSide
side_from-IsSide m [] h = tt
side_from-IsSide m (account ∷ extras) h = h

abbrev IsSideIf : Option Side → Type 0
IsSideIf side = IfSome side IsSide

side_if-IsSide : (m : Member) (absent : Option ⊤) (d : Data) → IsRead d
    → IfOk (side_if m absent d) IsSideIf
side_if-IsSide m (Some absent) d h = tt
side_if-IsSide m None d h =
    IfOk-then (AllByRecursion IsCode) IsSideIf (json_codes m d) _ (json_codes-All m d h)
    (λ codes all.
    IfOk-then IsSide IsSideIf (side_from m codes) (λ side. Ok (Some side))
    (side_from-IsSide m codes all) (λ side is. is))

json_side-IsSide : (m : Member) (d : Data) → IsRead d → IfOk (json_side m d) IsSideIf
unfolding json_side
json_side-IsSide m d h = side_if-IsSide m (as_null d) d h

register_record-Is : (m : Member) (object : Members) → AreRead object
    → IfOk (register_record m object) IsRegisterText
unfolding register_record
register_record-Is m object h =
    IfOk-unless IsRegisterText (members_len object == 3) (BadMember m) _ (λ _.
    IfOk-next IsRegisterText (value_at m (codes "kind") object >>= json_mark m) _ (λ mark.
    IfOk-then (AllByRecursion IsUtf8) IsRegisterText
    (value_at m (codes "sums") object >>= json_texts m) _
    (at_name (AllByRecursion IsUtf8) (json_texts m) (json_texts-All m) m (codes "sums") object
    h) (λ sums s.
    IfOk-then (AllByRecursion IsUtf8) IsRegisterText
    (value_at m (codes "values") object >>= json_texts m) _
    (at_name (AllByRecursion IsUtf8) (json_texts m) (json_texts-All m) m (codes "values") object
    h) (λ values v. (s, v)))))

ledger_record-Is : (m : Member) (object : Members) → AreRead object
    → IfOk (ledger_record m object) IsLedgerText
unfolding ledger_record
ledger_record-Is m object h =
    IfOk-unless IsLedgerText (members_len object == 3) (BadMember m) _ (λ _.
    IfOk-then IsUtf8 IsLedgerText (value_at m (codes "amount") object >>= json_text m) _
    (at_name IsUtf8 (json_text m) (json_text-IsUtf8 m) m (codes "amount") object h) (λ amount a.
    IfOk-then IsSideIf IsLedgerText (value_at m (codes "credit") object >>= json_side m) _
    (at_name IsSideIf (json_side m) (json_side-IsSide m) m (codes "credit") object h)
    (λ credit c.
    IfOk-then IsSideIf IsLedgerText (value_at m (codes "debit") object >>= json_side m) _
    (at_name IsSideIf (json_side m) (json_side-IsSide m) m (codes "debit") object h)
    (λ debit d. (a, c, d)))))

record_if-Is : (m : Member) (amount : Option Data) (object : Members) → AreRead object
    → IfOk (record_if m amount object) IsRecordText
record_if-Is m (Some amount) object h =
    IfOk-then IsLedgerText IsRecordText (ledger_record m object) (λ r. Ok (Ledger r))
    (ledger_record-Is m object h) (λ r is. is)
record_if-Is m None object h =
    IfOk-then IsRegisterText IsRecordText (register_record m object) (λ r. Ok (Register r))
    (register_record-Is m object h) (λ r is. is)

json_record-Is : (m : Member) (d : Data) → IsRead d → IfOk (json_record m d) IsRecordText
unfolding json_record
json_record-Is m d h =
    IfOk-then AreRead IsRecordText (json_object m d) _ (json_object-AreRead m d h)
    (λ object u. record_if-Is m (get_member (codes "amount") object) object u)

json_records-Is : (m : Member) (d : Data) → IsRead d
    → IfOk (json_records m d) (AllByRecursion IsRecordText)
unfolding json_records
json_records-Is m d h = json_list-All (json_record m) IsRecordText (json_record-Is m) m d h

json_set-Is : (m : Member) (d : Data) → IsRead d → IfOk (json_set m d) IsSetText
unfolding json_set
json_set-Is m d h =
    IfOk-then AreRead IsSetText (json_object m d) _ (json_object-AreRead m d h) (λ object u.
    IfOk-unless IsSetText (members_len object == 2) (BadMember m) _ (λ _.
    IfOk-then IsName IsSetText (value_at m (codes "space") object >>= json_name m) _
    (at_name IsName (json_name m) (json_name-IsName m) m (codes "space") object u)
    (λ space n.
    IfOk-then (AllByRecursion IsRecordText) IsSetText
    (value_at m (codes "records") object >>= json_records m) _
    (at_name (AllByRecursion IsRecordText) (json_records m) (json_records-Is m) m
    (codes "records") object u) (λ records r. (n, r)))))

pub json_sets-Is : (m : Member) (d : Data) → IsRead d
    → IfOk (json_sets m d) (AllByRecursion IsSetText)
unfolding json_sets
json_sets-Is m d h = json_list-All (json_set m) IsSetText (json_set-Is m) m d h

-- ---- members under their names

-- what has P has Q
IfOk-weaker : {X F : Type 0} (P Q : X → Type 0) (r : Result X F) → IfOk r P
    → ((x : X) → P x → Q x) → IfOk r Q
IfOk-weaker P Q (Ok x) h more = more x h
IfOk-weaker P Q (Err fault) h more = tt

-- it has P and this name
abbrev IsNamed : {X : Type 0} → (X → Type 0) → (X → List ℕ) → List ℕ → X → Type 0
IsNamed P name_of name x = P x × (name_of x ≡ name)

-- all have P, and their names are those of the members
abbrev AreNamed : {X : Type 0} → (X → Type 0) → (X → List ℕ) → Members → List X → Type 0
AreNamed P name_of ms xs = AllByRecursion P xs × (map name_of xs ≡ member_names ms)

-- all have P, and their names ascend
abbrev pub AreInOrder : {X : Type 0} → (X → Type 0) → (X → List ℕ) → List X → Type 0
AreInOrder P name_of xs =
    AllByRecursion P xs × IsStrictlySortedBy (slice_cmp nat_cmp) (map name_of xs)

each_named-Are : {X : Type 0} (P : X → Type 0) (name_of : X → List ℕ)
    → (shape : List ℕ → Data → OrFault X)
    → ((name : List ℕ) (d : Data) → IsRead d → IfOk (shape name d) (IsNamed P name_of name))
    → (ms : Members) → MembersHaveUtf8 ms → MembersAscend ms
    → IfOk (each_named shape ms) (AreNamed P name_of ms)
each_named-Are P name_of shape is no_members u a = (tt, refl)
each_named-Are P name_of shape is (member l e ms) u a =
    IfOk-then (IsNamed P name_of l) (AreNamed P name_of (member l e ms)) (shape l e) _
    (is l e (u.1, a.0)) (λ x p.
    IfOk-then (AreNamed P name_of ms) (AreNamed P name_of (member l e ms)) (each_named shape ms) _
    (each_named-Are P name_of shape is ms u.2 a.1) (λ xs q. ((p.0, q.0), λ i. p.1 i ∷ q.1 i)))

-- what the members of an object are read as stands in byte order of their names
members-AreInOrder : {X : Type 0} (P : X → Type 0) (name_of : X → List ℕ)
    → (shape : List ℕ → Data → OrFault X)
    → ((name : List ℕ) (d : Data) → IsRead d → IfOk (shape name d) (IsNamed P name_of name))
    → (ms : Members) → AreRead ms → IfOk (each_named shape ms) (AreInOrder P name_of)
members-AreInOrder P name_of shape is ms h =
    IfOk-weaker (AreNamed P name_of ms) (AreInOrder P name_of) (each_named shape ms)
    (each_named-Are P name_of shape is ms h.0 h.1.1)
    (λ xs are. (
      are.0,
      subst (λ names. IsStrictlySortedBy (slice_cmp nat_cmp) names)
          (sym are.1) h.1.0,
    ))

-- ---- fields and filters

json_field-Is : (m : Member) (name : List ℕ) (d : Data) → IsRead d
    → IfOk (json_field m name d) (IsNamed IsFieldText (λ field. field.name) name)
unfolding json_field
json_field-Is m name d h =
    let Is = IsNamed IsFieldText (λ field. field.name) name in
    IfOk-unless Is (is_name name) (BadMember m) _ (λ is.
    IfOk-then IsUtf8 Is (json_text m d) _ (json_text-IsUtf8 m d h) (λ text u. ((is, u), refl)))

pub json_fields-Are : (m : Member) (d : Data) → IsRead d → IfOk (json_fields m d) AreFields
unfolding json_fields
json_fields-Are m d h =
    IfOk-then AreRead AreFields (json_object m d) _ (json_object-AreRead m d h)
    (members-AreInOrder IsFieldText (λ field. field.name) (json_field m) (json_field-Is m))

pub json_lines-Are : (m : Member) (d : Data) → IsRead d
    → IfOk (json_lines m d) (AllByRecursion AreFields)
unfolding json_lines
json_lines-Are m d h = json_list-All (json_fields m) AreFields (json_fields-Are m) m d h

json_filter-Is : (m : Member) (name : List ℕ) (d : Data) → IsRead d
    → IfOk (json_filter m name d) (IsNamed IsFilterText (λ filter. filter.name) name)
unfolding json_filter
json_filter-Is m name d h =
    let Is = IsNamed IsFilterText (λ filter. filter.name) name in
    IfOk-unless Is (is_name name) (BadMember m) _ (λ is.
    IfOk-then (AllByRecursion IsUtf8) Is (json_texts m d) _ (json_texts-All m d h)
    (λ values v. ((is, v), refl)))

pub json_filters-Are : (m : Member) (d : Data) → IsRead d → IfOk (json_filters m d) AreFilters
unfolding json_filters
json_filters-Are m d h =
    IfOk-then AreRead AreFilters (json_object m d) _ (json_object-AreRead m d h)
    (members-AreInOrder IsFilterText (λ filter. filter.name) (json_filter m) (json_filter-Is m))

pub json_names-Are : (m : Member) (d : Data) → IsRead d → IfOk (json_names m d) AreNames
unfolding json_names
json_names-Are m d h = json_list-All (json_name m) IsName (json_name-IsName m) m d h

-- ---- words of tables

pub json_date_end-IsDate : (m : Member) (d : Data) → IsRead d → IfOk (json_date_end m d) IsDate
unfolding json_date_end
json_date_end-IsDate m d h =
    IfOk-next IsDate (json_text m d) _ (λ text.
    IfOk-some_or IsDate (result_ok (parse_date_end text)) (BadMember m)
    (IfSome-result_ok IsDate (parse_date_end text) (parse_date_end-within text)))

unfoldable IsIfAccountBy : Option Periodicity → Type 0
IsIfAccountBy by = IfSome by IsAccountBy

none_is : IsIfAccountBy None
unfolding IsIfAccountBy
none_is = tt

if_account_by : (test : Bool) (by : Periodicity) (others : Option Periodicity) → IsAccountBy by
    → IsIfAccountBy others → IsIfAccountBy (if test then Some by else others)
unfolding IsIfAccountBy
if_account_by true by others is h = is
if_account_by false by others is h = h

account_by_named-Is : (word : List ℕ) → IsIfAccountBy (account_by_named word)
account_by_named-Is word =
    if_account_by _ Period _ refl (if_account_by _ Day _ refl (if_account_by _ Week _ refl
    (if_account_by _ TenDays _ refl (if_account_by _ Month _ refl (if_account_by _ Quarter _ refl
    (if_account_by _ HalfYear _ refl (if_account_by _ Year _ refl none_is)))))))

pub json_account_by-Is : (m : Member) (d : Data) → IsRead d
    → IfOk (json_account_by m d) IsAccountBy
unfolding json_account_by IsIfAccountBy
json_account_by-Is m d h =
    IfOk-next IsAccountBy (json_text m d) _ (λ word.
    IfOk-some_or IsAccountBy (account_by_named word) (BadMember m) (account_by_named-Is word))
