-- Values that are read: their texts are UTF-8, and the names of each object ascend.
use Rattle.std.proofs.Common.{ℕ, Option, Some, None, IfSome, List}
use Rattle.std.proofs.Common.{Ok, IfOk, IsUtf8}
use Rattle.std.specs.List.{AllByRecursion}
use Rattle.std.specs.Ordering.{nat_cmp, match_ordering}
use Rattle.std.specs.Cmp.Lexicographic.{slice_cmp}
use Rattle.std.specs.declared.cmp.Ordering.{Ordering}
use Rattle.std.specs.declared.cmp.Ordering.TheVariants.{Less, Equal, Greater}
use Rattle.serde_json.specs.Data.{Data, null, boolean, number, string, array}
use Rattle.serde_json.specs.Data.{object as of_members}
use Rattle.serde_json.specs.Data.{Items, no_items, item, Members, no_members, member}
use Rattle.serde_json.specs.Find.{get_member}
use Rattle.json_laws.specs.Plain.{HasUtf8, MembersHaveUtf8}
use Rattle.reg_base.specs.Results.{◌>>=◌}
use Rattle.reg_base.proofs.ForAbove.{IfOk-then, IfOk-some_or}
use Rattle.desk_words.specs.declared.fault.Member.{Member}
use Rattle.desk_words.specs.declared.fault.WordFault.TheVariants.{BadMember}
use Rattle.desk_words.specs.Members.{member_name}
use Rattle.desk_words.specs.Shapes.{OrFault, value_at, shape_if, required_at, optional_at}
use Rattle.desk_words.specs.Shapes.{json_object, json_items, json_text, json_each}
use Rattle.desk_words.proofs.OrderLemmas.{NamesAscend, MembersAscend}

-- a value that is read
abbrev pub IsRead : Data → Type 0
IsRead d = HasUtf8 d × NamesAscend d

-- members that are read
abbrev pub AreRead : Members → Type 0
AreRead ms = IsRead (of_members ms)

-- ---- what stands inside

one_of_three : (o : Ordering) (a b c : Option Data) → IfSome a IsRead → IfSome b IsRead
    → IfSome c IsRead → IfSome (match_ordering o a b c) IsRead
one_of_three Less a b c p q r = p
one_of_three Equal a b c p q r = q
one_of_three Greater a b c p q r = r

get_member-each : (name : List ℕ) (object : Members) → MembersHaveUtf8 object
    → MembersAscend object → IfSome (get_member name object) IsRead
get_member-each name no_members u a = tt
get_member-each name (member l e ms) u a =
    one_of_three (slice_cmp nat_cmp name l) (get_member name ms) (Some e) (get_member name ms)
    (get_member-each name ms u.2 a.1) (u.1, a.0) (get_member-each name ms u.2 a.1)

get_member-IsRead : (name : List ℕ) (object : Members) → AreRead object
    → IfSome (get_member name object) IsRead
get_member-IsRead name object h = get_member-each name object h.0 h.1.1

value_at-IsRead : (m : Member) (name : List ℕ) (object : Members) → AreRead object
    → IfOk (value_at m name object) IsRead
unfolding value_at
value_at-IsRead m name object h =
    IfOk-some_or IsRead (get_member name object) (BadMember m) (get_member-IsRead name object h)

pub json_object-AreRead : (m : Member) (d : Data) → IsRead d → IfOk (json_object m d) AreRead
unfolding json_object
json_object-AreRead m null h = tt
json_object-AreRead m (boolean b) h = tt
json_object-AreRead m (number n) h = tt
json_object-AreRead m (string s) h = tt
json_object-AreRead m (array ds) h = tt
json_object-AreRead m (of_members ms) h = h

abbrev ItemsAreRead : Items → Type 0
ItemsAreRead ds = IsRead (array ds)

json_items-AreRead : (m : Member) (d : Data) → IsRead d → IfOk (json_items m d) ItemsAreRead
unfolding json_items
json_items-AreRead m null h = tt
json_items-AreRead m (boolean b) h = tt
json_items-AreRead m (number n) h = tt
json_items-AreRead m (string s) h = tt
json_items-AreRead m (array ds) h = h
json_items-AreRead m (of_members ms) h = tt

pub json_text-IsUtf8 : (m : Member) (d : Data) → IsRead d → IfOk (json_text m d) IsUtf8
unfolding json_text
json_text-IsUtf8 m null h = tt
json_text-IsUtf8 m (boolean b) h = tt
json_text-IsUtf8 m (number n) h = tt
json_text-IsUtf8 m (string s) h = h.0
json_text-IsUtf8 m (array ds) h = tt
json_text-IsUtf8 m (of_members ms) h = tt

-- ---- how it is read

-- what stands at a name
pub at_name : {X : Type 0} (P : X → Type 0) (shape : Data → OrFault X)
    → ((d : Data) → IsRead d → IfOk (shape d) P) → (m : Member) (name : List ℕ) (object : Members)
    → AreRead object → IfOk (value_at m name object >>= shape) P
at_name P shape is m name object h =
    IfOk-then IsRead P (value_at m name object) shape (value_at-IsRead m name object h) is

-- what stands at a member that is asked for
pub required_at-Is : {X : Type 0} (P : X → Type 0) (shape : Member → Data → OrFault X)
    → ((m : Member) (d : Data) → IsRead d → IfOk (shape m d) P) → (m : Member) (object : Members)
    → AreRead object → IfOk (required_at shape m object) P
required_at-Is P shape is m object h = at_name P (shape m) (is m) m (member_name m) object h

abbrev pub IsIf : {X : Type 0} → (X → Type 0) → Option X → Type 0
IsIf P o = IfSome o P

shape_if-Is : {X : Type 0} (P : X → Type 0) (shape : Data → OrFault X)
    → ((d : Data) → IsRead d → IfOk (shape d) P) → (o : Option Data) → IfSome o IsRead
    → IfOk (shape_if shape o) (IsIf P)
shape_if-Is P shape is None h = tt
shape_if-Is P shape is (Some d) h =
    IfOk-then P (IsIf P) (shape d) (λ x. Ok (Some x)) (is d h) (λ x p. p)

-- what stands at a member that may be absent
pub optional_at-Is : {X : Type 0} (P : X → Type 0) (shape : Member → Data → OrFault X)
    → ((m : Member) (d : Data) → IsRead d → IfOk (shape m d) P) → (m : Member) (object : Members)
    → AreRead object → IfOk (optional_at shape m object) (IsIf P)
optional_at-Is P shape is m object h =
    shape_if-Is P (shape m) (is m) (get_member (member_name m) object)
    (get_member-IsRead (member_name m) object h)

json_each-All : {X : Type 0} (shape : Data → OrFault X) (P : X → Type 0)
    → ((d : Data) → IsRead d → IfOk (shape d) P) → (ds : Items) → ItemsAreRead ds
    → IfOk (json_each shape ds) (AllByRecursion P)
json_each-All shape P is no_items h = tt
json_each-All shape P is (item d ds) h =
    IfOk-then P (AllByRecursion P) (shape d) _ (is d (h.0.0, h.1.0)) (λ x p.
    IfOk-then (AllByRecursion P) (AllByRecursion P) (json_each shape ds) _
    (json_each-All shape P is ds (h.0.1, h.1.1)) (λ xs ps. (p, ps)))

-- a list whose items have a shape
pub json_list-All : {X : Type 0} (shape : Data → OrFault X) (P : X → Type 0)
    → ((d : Data) → IsRead d → IfOk (shape d) P) → (m : Member) (d : Data) → IsRead d
    → IfOk (json_items m d >>= json_each shape) (AllByRecursion P)
json_list-All shape P is m d h =
    IfOk-then ItemsAreRead (AllByRecursion P) (json_items m d) (json_each shape)
    (json_items-AreRead m d h) (json_each-All shape P is)
