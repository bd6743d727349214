-- Members with those among them that a document may have: each is found as it was put.
use Rattle.std.proofs.Common.{◌≡◌, ℕ, ◌≤◌, Bool, true, false, ◌||◌, if◌then◌else◌, Option, Some}
use Rattle.std.proofs.Common.{None, IfSome, option_map, List, Ok, codes, refl, ◌∙◌}
use Rattle.std.proofs.Common.{Ordering, Less, Equal, Greater, nat_cmp, arith}
use Rattle.std.proofs.lemmas.Bool.{or_parts}
use Rattle.std.proofs.lemmas.Slice.Eq.{bytes_eq-Decides}
use Rattle.std.specs.Cmp.Lexicographic.{slice_cmp}
use Rattle.std.specs.Ordering.{match_ordering}
use Rattle.std.specs.Prelude.{is_none}
use Rattle.std.specs.Str.{bytes_eq}
use Rattle.serde_json.specs.Data.{Data, string, object, depth, Members, no_members, member, put}
use Rattle.serde_json.specs.Data.{members_depth}
use Rattle.serde_json.specs.Find.{get_member}
use Rattle.serde_json.specs.Read.{max_depth}
use Rattle.serde_json.proofs.Views.{get_member-put, get_member-put_other}
use Rattle.json_laws.specs.Plain.{MembersArePlain}
use Rattle.reg_base.proofs.ForAbove.{IsUtf8-code, IsUtf8-tested}
use Rattle.desk_words.specs.declared.members.Operation.{Operation}
use Rattle.desk_words.specs.Members.{required_members, other_members, is_name_of}
use Rattle.desk_words.specs.Members.{first_unknown_member}
use Rattle.desk_words.specs.Shapes.{OrFault, shape_if}
use Rattle.desk_words.specs.JsonValues.{whole, put_if}
use Rattle.desk_words.specs.RequestTexts.{put_optional}
use Rattle.desk_words.specs.WellFormedParts.{IsCode, IsNumber, IsComment}
use Rattle.desk_words.proofs.PlainLemmas.{MembersArePlain-put_if, members_depth-put_if}
use Rattle.desk_words.proofs.TextsBack.{IsPlain-whole, IsUtf8-comment}

-- ---- one member

pub apart : (q k : List ℕ) → bytes_eq q k ≡ false → q ≡ k → ⊥
apart q k other same = let equal = (bytes_eq-Decides q k).1 same in absurd cc

-- another name is found as before
found_other : {X : Type 0} (q k : List ℕ) (data_of : X → Data) (o : Option X) (ms : Members)
    → bytes_eq q k ≡ false → get_member q (put_if k (option_map data_of o) ms) ≡ get_member q ms
found_other q k data_of None ms other = refl
found_other q k data_of (Some x) ms other =
    get_member-put_other q k (data_of x) ms (apart q k other)

-- its own name is found as it was put
found_here : {X : Type 0} (k : List ℕ) (data_of : X → Data) (o : Option X) (ms : Members)
    → get_member k ms ≡ None
    → get_member k (put_if k (option_map data_of o) ms) ≡ option_map data_of o
found_here k data_of None ms absent = absent
found_here k data_of (Some x) ms absent = get_member-put k (data_of x) ms

-- what may be absent is read from what stands for it
pub shape_if-back : {X : Type 0} (P : X → Type 0) (shape : Data → OrFault X) (data_of : X → Data)
    → ((x : X) → P x → shape (data_of x) ≡ Ok x) → (o : Option X) → IfSome o P
    → shape_if shape (option_map data_of o) ≡ Ok o
shape_if-back P shape data_of back None is = refl
shape_if-back P shape data_of back (Some x) is = rw (back x is)

-- a key stands without a number
pub stands_alone : (doc : Option ℕ) (key : Option (List ℕ)) → IfSome doc (λ _. key ≡ None)
    → (is_none doc || is_none key) ≡ true
stands_alone None key alone = refl
stands_alone (Some n) key alone = rw alone

-- ---- all that a document may have

-- a name that one of them has
abbrev pub is_optional : List ℕ → Bool
is_optional q =
    bytes_eq q (codes "tx") || (bytes_eq q (codes "comment")
    || (bytes_eq q (codes "key") || bytes_eq q (codes "doc")))

-- the other names are found as before
pub found_in_frame : (q : List ℕ) → is_optional q ≡ false → (doc : Option ℕ)
    → (key comment : Option (List ℕ)) (tx : Option ℕ) (frame : Members)
    → get_member q (put_optional doc key comment tx frame) ≡ get_member q frame
found_in_frame q other doc key comment tx frame =
    let a = or_parts (bytes_eq q (codes "tx")) _ other in
    let b = or_parts (bytes_eq q (codes "comment")) _ a.1 in
    let c = or_parts (bytes_eq q (codes "key")) (bytes_eq q (codes "doc")) b.1 in
    found_other q (codes "tx") whole tx _ a.0
    ∙ found_other q (codes "comment") string comment _ b.0
    ∙ found_other q (codes "key") string key _ c.0
    ∙ found_other q (codes "doc") whole doc frame c.1

-- each of them is found as it was put, where nothing stands there before
pub found_doc : (doc : Option ℕ) (key comment : Option (List ℕ)) (tx : Option ℕ) (frame : Members)
    → get_member (codes "doc") frame ≡ None
    → get_member (codes "doc") (put_optional doc key comment tx frame) ≡ option_map whole doc
found_doc doc key comment tx frame absent =
    found_other (codes "doc") (codes "tx") whole tx _ refl
    ∙ found_other (codes "doc") (codes "comment") string comment _ refl
    ∙ found_other (codes "doc") (codes "key") string key _ refl
    ∙ found_here (codes "doc") whole doc frame absent

pub found_key : (doc : Option ℕ) (key comment : Option (List ℕ)) (tx : Option ℕ) (frame : Members)
    → get_member (codes "key") frame ≡ None
    → get_member (codes "key") (put_optional doc key comment tx frame) ≡ option_map string key
found_key doc key comment tx frame absent =
    found_other (codes "key") (codes "tx") whole tx _ refl
    ∙ found_other (codes "key") (codes "comment") string comment _ refl
    ∙ found_here (codes "key") string key _
    (found_other (codes "key") (codes "doc") whole doc frame refl ∙ absent)

pub found_comment : (doc : Option ℕ) (key comment : Option (List ℕ)) (tx : Option ℕ)
    → (frame : Members) → get_member (codes "comment") frame ≡ None
    → get_member (codes "comment") (put_optional doc key comment tx frame)
    ≡ option_map string comment
found_comment doc key comment tx frame absent =
    found_other (codes "comment") (codes "tx") whole tx _ refl
    ∙ found_here (codes "comment") string comment _
    (found_other (codes "comment") (codes "key") string key _ refl
    ∙ found_other (codes "comment") (codes "doc") whole doc frame refl ∙ absent)

-- ---- none of them is unknown

abbrev pub is_known : Operation → List ℕ → Bool
is_known op name = is_name_of (required_members op) name || is_name_of (other_members op) name

known_first : (known : Bool) (o : Option (List ℕ)) (name : List ℕ)
    → (if known then o else Some name) ≡ None → (known ≡ true) × (o ≡ None)
known_first true o name h = (refl, h)
known_first false o name h = absurd cc

pub known-put : (op : Operation) (k : List ℕ) (d : Data) (ms : Members) → is_known op k ≡ true
    → first_unknown_member op ms ≡ None → first_unknown_member op (put k d ms) ≡ None
known-put op k d no_members is h = rw is
known-put op k d (member l e ms) is h =
    at (known-put op k d ms is parts.1) (slice_cmp nat_cmp k l)
  where
    parts : (is_known op l ≡ true) × (first_unknown_member op ms ≡ None)
    parts = known_first (is_known op l) (first_unknown_member op ms) l h

    at : first_unknown_member op (put k d ms) ≡ None → (order : Ordering)
        → first_unknown_member op (match_ordering order (member k d (member l e ms)) (member l d ms)
        (member l e (put k d ms))) ≡ None
    at ih Less = rw is h
    at ih Equal = h
    at ih Greater = rw parts.0 ih

known-put_if : {X : Type 0} (op : Operation) (k : List ℕ) (data_of : X → Data) (o : Option X)
    → (ms : Members) → is_known op k ≡ true → first_unknown_member op ms ≡ None
    → first_unknown_member op (put_if k (option_map data_of o) ms) ≡ None
known-put_if op k data_of None ms is h = h
known-put_if op k data_of (Some x) ms is h = known-put op k (data_of x) ms is h

-- members that are known stay so, where there is no transaction
pub known-optional : (op : Operation) (doc : Option ℕ) (key comment : Option (List ℕ))
    → (tx : Option ℕ) (frame : Members) → is_known op (codes "comment") ≡ true
    → is_known op (codes "key") ≡ true → is_known op (codes "doc") ≡ true → tx ≡ None
    → first_unknown_member op frame ≡ None
    → first_unknown_member op (put_optional doc key comment tx frame) ≡ None
known-optional op doc key comment None frame a b c none h =
    known-put_if op (codes "comment") string comment _ a
    (known-put_if op (codes "key") string key _ b
    (known-put_if op (codes "doc") whole doc frame c h))
known-optional op doc key comment (Some n) frame a b c none h = absurd cc

-- ---- they are plain, and nest no deeper

-- they are well formed, and there is no transaction
pub record AreOptional (doc : Option ℕ) (key comment : Option (List ℕ)) (tx : Option ℕ)
    : Type 0 where
  pub number : IfSome doc IsNumber
  pub code : IfSome key IsCode
  pub text : IfSome comment IsComment
  pub transaction : tx ≡ None

pub MembersArePlain-optional : (doc : Option ℕ) (key comment : Option (List ℕ)) (tx : Option ℕ)
    → AreOptional doc key comment tx → (frame : Members) → MembersArePlain frame
    → MembersArePlain (put_optional doc key comment tx frame)
MembersArePlain-optional doc key comment None o frame h =
    MembersArePlain-put_if (codes "comment") string IsComment IsUtf8-comment
    (IsUtf8-tested (codes "comment") refl) comment o.text _
    (MembersArePlain-put_if (codes "key") string IsCode IsUtf8-code
    (IsUtf8-tested (codes "key") refl) key o.code _
    (MembersArePlain-put_if (codes "doc") whole IsNumber IsPlain-whole
    (IsUtf8-tested (codes "doc") refl) doc o.number frame h))
MembersArePlain-optional doc key comment (Some n) o frame h =
    let none = o.transaction in absurd cc

pub depth-optional : (doc : Option ℕ) (key comment : Option (List ℕ)) (tx : Option ℕ)
    → (frame : Members) → members_depth frame ≤ 5
    → depth (object (put_optional doc key comment tx frame)) ≤ max_depth
depth-optional doc key comment tx frame h =
    let shallow : members_depth (put_optional doc key comment tx frame) ≤ 5 =
    members_depth-put_if 5 (codes "tx") whole (λ n. omega arith) tx _
    (members_depth-put_if 5 (codes "comment") string (λ s. omega arith) comment _
    (members_depth-put_if 5 (codes "key") string (λ s. omega arith) key _
    (members_depth-put_if 5 (codes "doc") whole (λ n. omega arith) doc frame h))) in
    omega (arith, shallow)
