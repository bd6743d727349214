-- Members that are put one after another, each of which may be absent: each is found as it was put.
use Rattle.std.proofs.Common.{◌≡◌, ℕ, ◌≤◌, Bool, true, false, ◌||◌, ◌&&◌, if◌then◌else◌, Option}
use Rattle.std.proofs.Common.{Some, None, IfSome, option_map, List, [], ◌∷◌, IsUtf8, Ok, codes}
use Rattle.std.proofs.Common.{refl, ap, subst, ◌∙◌, arith}
use Rattle.std.proofs.lemmas.Bool.{and_parts}
use Rattle.std.proofs.lemmas.Slice.Eq.{bytes_eq-Decides}
use Rattle.std.specs.List.{AllByRecursion}
use Rattle.std.specs.Prelude.{is_none, is_some}
use Rattle.std.specs.Str.{bytes_eq}
use Rattle.serde_json.specs.Data.{Data, string, object, depth, Members, no_members, put}
use Rattle.serde_json.specs.Data.{members_depth}
use Rattle.serde_json.specs.Find.{get_member}
use Rattle.serde_json.proofs.Views.{get_member-put, get_member-put_other}
use Rattle.json_laws.specs.Plain.{IsPlain, MembersArePlain}
use Rattle.desk_words.specs.declared.fault.Member.{Member}
use Rattle.desk_words.specs.declared.members.Operation.{Operation}
use Rattle.desk_words.specs.declared.request.Request.{Request}
use Rattle.desk_words.specs.Members.{member_name, operation_named, required_members, first_missing}
use Rattle.desk_words.specs.Members.{first_unknown_member}
use Rattle.desk_words.specs.Reading.{operation_of, check_present, check_known, members_of}
use Rattle.desk_words.specs.JsonValues.{put_if}
use Rattle.desk_words.specs.RequestTexts.{request_data}
use Rattle.desk_words.proofs.OptionalBack.{apart, is_known, known-put}
use Rattle.desk_words.proofs.PlainLemmas.{MembersArePlain-put, members_depth-put}
use Rattle.desk_words.proofs.TextsBack.{AsksFor, ReadsBack, ReadsBack-members}

-- a name with what stands there, if anything does
abbrev pub Entry : Type 0
Entry = List ℕ × Option Data

-- an object of entries
abbrev pub put_each : List Entry → Members
put_each [] = no_members
put_each (e ∷ es) = put_if e.0 e.1 (put_each es)

-- ---- what stands at a name

abbrev or_else : Option Data → Option Data → Option Data
or_else None others = others
or_else (Some d) others = Some d

pub or_none : (o : Option Data) → or_else o None ≡ o
or_none None = refl
or_none (Some d) = refl

-- the first entry of that name that is there
abbrev pub chosen : List ℕ → List Entry → Option Data
chosen q [] = None
chosen q (e ∷ es) = if bytes_eq q e.0 then or_else e.1 (chosen q es) else chosen q es

either_way : (test : Bool) (o : Option Data) → o ≡ (if test then o else o)
either_way true o = refl
either_way false o = refl

get_member-put_if : (q k : List ℕ) (o : Option Data) (ms : Members)
    → get_member q (put_if k o ms)
    ≡ (if bytes_eq q k then or_else o (get_member q ms) else get_member q ms)
get_member-put_if q k None ms = either_way (bytes_eq q k) (get_member q ms)
get_member-put_if q k (Some d) ms = at (bytes_eq q k) refl
  where
    at : (test : Bool) → bytes_eq q k ≡ test
        → get_member q (put k d ms) ≡ (if test then Some d else get_member q ms)
    at true is =
        subst (λ l. get_member q (put l d ms) ≡ Some d) ((bytes_eq-Decides q k).0 is)
        (get_member-put q d ms)
    at false is = get_member-put_other q k d ms (apart q k is)

pub found : (q : List ℕ) (es : List Entry) → get_member q (put_each es) ≡ chosen q es
found q [] = refl
found q (e ∷ es) =
    get_member-put_if q e.0 e.1 (put_each es)
    ∙ ap (λ o. if bytes_eq q e.0 then or_else e.1 o else o) (found q es)

-- ---- what they ask for

-- the first of the members that they lack
abbrev pub lacking : List Member → List Entry → Option Member
lacking [] es = None
lacking (m ∷ ms) es = if is_some (chosen (member_name m) es) then lacking ms es else Some m

present : (ms : List Member) (es : List Entry) → first_missing ms (put_each es) ≡ lacking ms es
present [] es = refl
present (m ∷ ms) es = λ i. if is_some (found (member_name m) es i) then present ms es i else Some m

-- those that are there are of the operation
abbrev pub all_known : Operation → List Entry → Bool
all_known op [] = true
all_known op (e ∷ es) = (is_known op e.0 || is_none e.1) && all_known op es

or_false : (a : Bool) → (a || false) ≡ true → a ≡ true
or_false true h = refl
or_false false h = h

known_one : (op : Operation) (k : List ℕ) (o : Option Data) (ms : Members)
    → (is_known op k || is_none o) ≡ true → first_unknown_member op ms ≡ None
    → first_unknown_member op (put_if k o ms) ≡ None
known_one op k None ms is h = h
known_one op k (Some d) ms is h = known-put op k d ms (or_false (is_known op k) is) h

known : (op : Operation) (es : List Entry) → all_known op es ≡ true
    → first_unknown_member op (put_each es) ≡ None
known op [] h = refl
known op (e ∷ es) h =
    let parts = and_parts (is_known op e.0 || is_none e.1) (all_known op es) h in
    known_one op e.0 e.1 (put_each es) parts.0 (known op es parts.1)

-- entries ask for the operation of their word, lack nothing of it, and have nothing too much
pub asks_for : (word : List ℕ) (op : Operation) (es : List Entry)
    → chosen (codes "op") es ≡ Some (string word) → chosen (codes "kind") es ≡ None
    → operation_named false word ≡ Some op → lacking (required_members op) es ≡ None
    → all_known op es ≡ true → AsksFor op (put_each es)
unfolding operation_of check_present check_known
asks_for word op es word_is no_kind op_is lacks_none are_known = (
  rw (found (codes "kind") es, no_kind, found (codes "op") es, word_is, op_is),
  rw (present (required_members op) es, lacks_none),
  rw (known op es are_known),
)

-- ---- they are plain, and nest a few levels deep

abbrev pub IsShallow : Data → Type 0
IsShallow d = IsPlain d × (depth d ≤ 5)

abbrev pub IsPlainEntry : Entry → Type 0
IsPlainEntry e = IsUtf8 e.0 × IfSome e.1 IsShallow

abbrev pub ArePlainEntries : List Entry → Type 0
ArePlainEntries es = AllByRecursion IsPlainEntry es

-- what may be absent is shallow, where each value is
pub shallow_if : {X : Type 0} (data_of : X → Data) (P : X → Type 0)
    → ((x : X) → P x → IsShallow (data_of x)) → (o : Option X) → IfSome o P
    → IfSome (option_map data_of o) IsShallow
shallow_if data_of P shallow None is = tt
shallow_if data_of P shallow (Some x) is = shallow x is

-- the same of values that all are
pub shallow_any : {X : Type 0} (data_of : X → Data) → ((x : X) → IsShallow (data_of x))
    → (o : Option X) → IfSome (option_map data_of o) IsShallow
shallow_any data_of shallow None = tt
shallow_any data_of shallow (Some x) = shallow x

plain_one : (k : List ℕ) (o : Option Data) (ms : Members) → IsUtf8 k → IfSome o IsShallow
    → MembersArePlain ms → MembersArePlain (put_if k o ms)
plain_one k None ms utf8 is h = h
plain_one k (Some d) ms utf8 is h = MembersArePlain-put k d ms utf8 is.0 h

plain_each : (es : List Entry) → ArePlainEntries es → MembersArePlain (put_each es)
plain_each [] h = tt
plain_each (e ∷ es) h = plain_one e.0 e.1 (put_each es) h.0.0 h.0.1 (plain_each es h.1)

depth_one : (k : List ℕ) (o : Option Data) (ms : Members) → IfSome o IsShallow
    → members_depth ms ≤ 5 → members_depth (put_if k o ms) ≤ 5
depth_one k None ms is h = h
depth_one k (Some d) ms is h = members_depth-put 5 k d ms is.1 h

depth_each : (es : List Entry) → ArePlainEntries es → members_depth (put_each es) ≤ 5
depth_each [] h = omega arith
depth_each (e ∷ es) h = depth_one e.0 e.1 (put_each es) h.0.1 (depth_each es h.1)

-- A request whose JSON is that of entries reads back, where they ask for an operation and are read
-- as the request.
pub ReadsBack-entries : (r : Request) (op : Operation) (es : List Entry)
    → request_data r ≡ object (put_each es) → ArePlainEntries es → AsksFor op (put_each es)
    → members_of op (put_each es) ≡ Ok r → ReadsBack r
ReadsBack-entries r op es is plain asks members =
    ReadsBack-members r op (put_each es) is (plain_each es plain)
    (let shallow = depth_each es plain in omega (arith, shallow)) asks members
