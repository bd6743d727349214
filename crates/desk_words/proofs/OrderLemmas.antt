-- In a value that is read the members of each object stand in byte order of their names, each once.
use Rattle.std.proofs.Common.{◌≡◌, ℕ, Bool, true, false, cond, Option, Some, None, option_map}
use Rattle.std.proofs.Common.{option_and_then, ◌==◌, length, List, IfSome, refl, ap, ◌∙◌, subst}
use Rattle.std.proofs.Common.{Ordering, Less, Equal, Greater, nat_cmp}
use Rattle.std.specs.Cmp.Lexicographic.{slice_cmp}
use Rattle.std.specs.List.{AllByRecursion}
use Rattle.std.specs.List.Sorted.{IsStrictlySortedBy}
use Rattle.std.specs.Ordering.{match_ordering, ordering_reverse}
use Rattle.std.specs.Str.Lossy.{utf8_valid_len}
use Rattle.std.proofs.lemmas.Cmp.{nat_list_cmp_total}
use Rattle.json.specs.Json as json
use Rattle.json.specs.Lex.{tokens}
use Rattle.serde_json.specs.Data.{Num, Data, null, boolean, number, string, array, object}
use Rattle.serde_json.specs.Data.{Items, no_items, item, Members, no_members, member, put}
use Rattle.serde_json.specs.Read.{read, max_depth, of_json, of_items, of_members, number_of}
use Rattle.desk_words.specs.Members.{member_names}
use Rattle.desk_words.specs.Reading.{json_document}

-- names that stand in byte order, each once
abbrev pub Ascend : Members → Type 0
Ascend ms = IsStrictlySortedBy (slice_cmp nat_cmp) (member_names ms)

none_ascend : Ascend no_members
unfolding IsStrictlySortedBy
none_ascend = tt

-- a name comes before those of all members
abbrev IsBelow : List ℕ → Members → Type 0
IsBelow name ms = AllByRecursion (λ l. slice_cmp nat_cmp name l ≡ Less) (member_names ms)

put-below : (low k : List ℕ) (d : Data) (ms : Members) → slice_cmp nat_cmp low k ≡ Less
    → IsBelow low ms → IsBelow low (put k d ms)
put-below low k d no_members h all = (h, tt)
put-below low k d (member l e ms) h all =
    at (put-below low k d ms h all.1) (slice_cmp nat_cmp k l)
  where
    at : IsBelow low (put k d ms) → (order : Ordering)
        → IsBelow low (match_ordering order (member k d (member l e ms)) (member l d ms)
        (member l e (put k d ms)))
    at ih Less = (h, all)
    at ih Equal = all
    at ih Greater = (all.0, ih)

below-trans : (a b : List ℕ) (ms : Members) → slice_cmp nat_cmp a b ≡ Less
    → IsBelow b ms → IsBelow a ms
below-trans a b no_members h all = tt
below-trans a b (member l e ms) h all =
    (nat_list_cmp_total.trans a b l h all.0, below-trans a b ms h all.1)

put-ascends : (k : List ℕ) (d : Data) (ms : Members) → Ascend ms → Ascend (put k d ms)
unfolding IsStrictlySortedBy
put-ascends k d no_members h = (tt, tt)
put-ascends k d (member l e ms) h =
    at (put-ascends k d ms h.1) (slice_cmp nat_cmp k l) refl
  where
    at : Ascend (put k d ms) → (order : Ordering) → slice_cmp nat_cmp k l ≡ order
        → Ascend (match_ordering order (member k d (member l e ms)) (member l d ms)
        (member l e (put k d ms)))
    at ih Less p = ((p, below-trans k l ms p h.0), h)
    at ih Equal p = h
    at ih Greater p = (
      put-below l k d ms (nat_list_cmp_total.antisymm l k ∙ ap ordering_reverse p) h.0,
      ih,
    )

-- the names of each object inside a value ascend
abbrev mutual
  pub NamesAscend : Data → Type 0
  NamesAscend null = Unit {0}
  NamesAscend (boolean b) = Unit {0}
  NamesAscend (number n) = Unit {0}
  NamesAscend (string s) = Unit {0}
  NamesAscend (array ds) = ItemsAscend ds
  NamesAscend (object ms) = Ascend ms × MembersAscend ms

  pub ItemsAscend : Items → Type 0
  ItemsAscend no_items = Unit {0}
  ItemsAscend (item d ds) = NamesAscend d × ItemsAscend ds

  pub MembersAscend : Members → Type 0
  MembersAscend no_members = Unit {0}
  MembersAscend (member k d ms) = NamesAscend d × MembersAscend ms

put-each : (k : List ℕ) (d : Data) (ms : Members) → NamesAscend d → MembersAscend ms
    → MembersAscend (put k d ms)
put-each k d no_members is h = (is, tt)
put-each k d (member l e ms) is h = at (put-each k d ms is h.1) (slice_cmp nat_cmp k l)
  where
    at : MembersAscend (put k d ms) → (order : Ordering)
        → MembersAscend (match_ordering order (member k d (member l e ms)) (member l d ms)
        (member l e (put k d ms)))
    at ih Less = (is, h)
    at ih Equal = (is, h.1)
    at ih Greater = (h.0, ih)

abbrev AreInOrder : Members → Type 0
AreInOrder ms = NamesAscend (object ms)

put-in_order : (k : List ℕ) (d : Data) (ms : Members) → NamesAscend d → AreInOrder ms
    → AreInOrder (put k d ms)
put-in_order k d ms is h = (put-ascends k d ms h.0, put-each k d ms is h.1)

number-ascends : (n : Option Num) → IfSome (option_map number n) NamesAscend
number-ascends None = tt
number-ascends (Some n) = tt

array-ascends : (ds : Option Items) → IfSome ds ItemsAscend
    → IfSome (option_map array ds) NamesAscend
array-ascends None h = tt
array-ascends (Some ds) h = h

object-ascends : (ms : Option Members) → IfSome ms AreInOrder
    → IfSome (option_map object ms) NamesAscend
object-ascends None h = tt
object-ascends (Some ms) h = h

more-ascends : (d : Data) (ds : Option Items) → NamesAscend d → IfSome ds ItemsAscend
    → IfSome (option_map (item d) ds) ItemsAscend
more-ascends d None is h = tt
more-ascends d (Some ds) is h = (is, h)

-- what has P leads to what has Q
IfSome-and_then : {X Y : Type 0} (P : X → Type 0) (Q : Y → Type 0) (o : Option X)
    (next : X → Option Y) → IfSome o P → ((x : X) → P x → IfSome (next x) Q)
    → IfSome (option_and_then next o) Q
IfSome-and_then P Q None next h then = tt
IfSome-and_then P Q (Some x) next h then = then x h

mutual
  of_json-ascends : (j : json.Json) → IfSome (of_json j) NamesAscend
  of_json-ascends json.null = tt
  of_json-ascends (json.boolean b) = tt
  of_json-ascends (json.number s) = number-ascends (number_of s)
  of_json-ascends (json.string s) = tt
  of_json-ascends (json.array js) = array-ascends (of_items js) (of_items-ascend js)
  of_json-ascends (json.object js) =
      object-ascends (of_members js no_members) (of_members-ascend js no_members (none_ascend, tt))

  of_items-ascend : (js : json.Items) → IfSome (of_items js) ItemsAscend
  of_items-ascend json.no_items = tt
  of_items-ascend (json.item j js) =
      IfSome-and_then NamesAscend ItemsAscend (of_json j) (λ d. option_map (item d) (of_items js))
      (of_json-ascends j) (λ d is. more-ascends d (of_items js) is (of_items-ascend js))

  of_members-ascend : (js : json.Members) (found : Members) → AreInOrder found
      → IfSome (of_members js found) AreInOrder
  of_members-ascend json.no_members found h = h
  of_members-ascend (json.member k j js) found h =
      IfSome-and_then NamesAscend AreInOrder (of_json j) (λ d. of_members js (put k d found))
      (of_json-ascends j) (λ d is. of_members-ascend js (put k d found)
      (put-in_order k d found is h))

read-ascends : (value : Option json.Json) → IfSome (option_and_then of_json value) NamesAscend
read-ascends None = tt
read-ascends (Some j) = of_json-ascends j

-- the names inside the value that a line is read as ascend
pub json_document-ascends : (bytes : List ℕ) → IfSome (json_document bytes) NamesAscend
unfolding json_document
json_document-ascends bytes = at (utf8_valid_len bytes == length bytes)
  where
    at : (test : Bool) → IfSome (cond test (read bytes) None) NamesAscend
    at true = read-ascends
        (option_and_then (λ p. json.if_last p.0 p.1) (json.value max_depth (tokens bytes)))
    at false = tt

-- so do the members of an object that a line is
pub members-ascend : (bytes : List ℕ) (ms : Members) → json_document bytes ≡ Some (object ms)
    → IsStrictlySortedBy (slice_cmp nat_cmp) (member_names ms)
members-ascend bytes ms is =
    let h : NamesAscend (object ms) =
    subst (λ (o : Option Data). IfSome o NamesAscend) is (json_document-ascends bytes) in
    h.0
