-- The compact text of a plain value is read as that value.
use Rattle.std.proofs.Common.{◌≡◌, ℕ, suc, pos, negsuc, ◌^◌, ◌<◌, ◌≤◌, ◌==◌, max, List, [], ◌∷◌}
use Rattle.std.proofs.Common.{◌++◌, get_or, Bool, true, false, ◌&&◌, Some, option_map}
use Rattle.std.proofs.Common.{option_and_then, refl, sym, ap, ap₂, ◌∙◌, arith, append-nil}
use Rattle.std.proofs.lemmas.Bool.{and_parts}
use Rattle.std.proofs.lemmas.Bool.Decides.{nat_tests}
use Rattle.std.proofs.lemmas.Fmt.{first_decimal}
use Rattle.std.specs.Fmt.{decimal, signed_decimal}
use Rattle.std.specs.Ordering.{nat_cmp, is_gt}
use Rattle.std.specs.declared.cmp.Ordering.{Ordering}
use Rattle.std.specs.declared.cmp.Ordering.TheVariants.{Less, Equal, Greater}
use Rattle.std.specs.Cmp.Lexicographic.{slice_cmp}
use Rattle.json.specs.Json as json
use Rattle.json.specs.Lex.{tokens}
use Rattle.json.specs.Tree as tree
use Rattle.json.specs.Print.{IsNumber}
use Rattle.json.specs.Word.{head, after_number}
use Rattle.json.proofs.Printed.Decimals.{IsNumber-decimal}
use Rattle.json.proofs.Printed.Tokens.{tokens-print}
use Rattle.json.proofs.Printed.Trees.{value-json_tokens, ArePrintable-json_tokens}
use Rattle.serde_json.specs.Data.{Data, null, boolean, number, string, array, object, unsigned}
use Rattle.serde_json.specs.Data.{negative, float, Items, no_items, item, Members, no_members}
use Rattle.serde_json.specs.Data.{member, put, depth, items_depth, members_depth}
use Rattle.serde_json.specs.Read.{of_json, of_items, of_members, max_depth, read}
use Rattle.serde_json.specs.Written.{compact_text, outline, items_outline, members_outline}
use Rattle.serde_json.proofs.Numbers.{number_of-decimal, number_of-negative}
use Rattle.serde_json.proofs.Texts.{print-outline}
use Rattle.json_laws.specs.Plain.{stands_before, IsPlain, ItemsArePlain, MembersArePlain}

-- ---- the tokens of a plain value

-- a minus sign and digits are a number of JSON, as the digits are
IsNumber-negative : (n : ℕ) → suc n < 2 ^ 64 → IsNumber (signed_decimal (negsuc n))
unfolding after_number
IsNumber-negative n small =
    let first : 48 < get_or (decimal (suc n)) 0 0 = first_decimal (suc n) (omega arith) small in
    let unsigned : (head (decimal (suc n)) == 45) ≡ false = no_minus (decimal (suc n)) first in
    rw unsigned at (IsNumber-decimal (suc n) small)
  where
    no_minus : (digits : List ℕ) → 48 < get_or digits 0 0 → (head digits == 45) ≡ false
    no_minus [] first = absurd (omega arith)
    no_minus (d ∷ digits) first = grind (arith, nat_tests)

mutual
  HasNumbers-outline : (d : Data) → IsPlain d → tree.HasNumbers (outline d)
  HasNumbers-outline null h = tt
  HasNumbers-outline (boolean b) h = tt
  HasNumbers-outline (number (unsigned n)) h = IsNumber-decimal n h
  HasNumbers-outline (number (negative (pos n))) h = absurd h
  HasNumbers-outline (number (negative (negsuc n))) h = IsNumber-negative n (omega arith)
  HasNumbers-outline (number (float x)) h = absurd h
  HasNumbers-outline (string s) h = tt
  HasNumbers-outline (array ds) h = ItemsHaveNumbers-outline ds h
  HasNumbers-outline (object ms) h = MembersHaveNumbers-outline ms h

  ItemsHaveNumbers-outline : (ds : Items) → ItemsArePlain ds
      → tree.ItemsHaveNumbers (items_outline ds)
  ItemsHaveNumbers-outline no_items h = tt
  ItemsHaveNumbers-outline (item d ds) h =
      (HasNumbers-outline d h.0, ItemsHaveNumbers-outline ds h.1)

  MembersHaveNumbers-outline : (ms : Members) → MembersArePlain ms
      → tree.MembersHaveNumbers (members_outline ms)
  MembersHaveNumbers-outline no_members h = tt
  MembersHaveNumbers-outline (member k d ms) h =
      (HasNumbers-outline d h.1, MembersHaveNumbers-outline ms h.2)

mutual
  depth-outline : (d : Data) → tree.depth (outline d) ≡ depth d
  depth-outline null = refl
  depth-outline (boolean b) = refl
  depth-outline (number n) = refl
  depth-outline (string s) = refl
  depth-outline (array ds) = omega (arith, items_depth-outline ds)
  depth-outline (object ms) = omega (arith, members_depth-outline ms)

  items_depth-outline : (ds : Items) → tree.items_depth (items_outline ds) ≡ items_depth ds
  items_depth-outline no_items = refl
  items_depth-outline (item d ds) = ap₂ max (depth-outline d) (items_depth-outline ds)

  members_depth-outline : (ms : Members) → tree.members_depth (members_outline ms)
      ≡ members_depth ms
  members_depth-outline no_members = refl
  members_depth-outline (member k d ms) = ap₂ max (depth-outline d) (members_depth-outline ms)

-- ---- members that go in one after another, in order, stay as they are

-- members before others
abbrev before : Members → Members → Members
before no_members ms = ms
before (member k d front) ms = member k d (before front ms)

before-nil : (ms : Members) → before ms no_members ≡ ms
before-nil no_members = refl
before-nil (member k d ms) = ap (member k d) (before-nil ms)

before-assoc : (front middle back : Members) → before (before front middle) back
    ≡ before front (before middle back)
before-assoc no_members middle back = refl
before-assoc (member k d front) middle back = ap (member k d) (before-assoc front middle back)

-- each name stands before those behind it
abbrev are_ordered : Members → Bool
are_ordered no_members = true
are_ordered (member k d ms) = stands_before k ms && are_ordered ms

is_greater : (o : Ordering) → is_gt o ≡ true → o ≡ Greater
is_greater Less h = cc
is_greater Equal h = cc
is_greater Greater h = refl

-- where a name stands before members, it stands before each of them
stands_before-middle : (k : List ℕ) (front : Members) (l : List ℕ) (e : Data) (back : Members)
    → stands_before k (before front (member l e back)) ≡ true → slice_cmp nat_cmp l k ≡ Greater
stands_before-middle k no_members l e back h = is_greater _ (and_parts _ _ h).0
stands_before-middle k (member m d front) l e back h =
    stands_before-middle k front l e back (and_parts _ _ h).1

-- a member whose name stands behind all others is put last
put-last : (front : Members) (k : List ℕ) (d : Data) (back : Members)
    → are_ordered (before front (member k d back)) ≡ true
    → put k d front ≡ before front (member k d no_members)
put-last no_members k d back h = refl
put-last (member l e front) k d back h =
    let parts = and_parts _ _ h in
    rw (stands_before-middle l front k d back parts.0)
    (ap (member l e) (put-last front k d back parts.1))

are_ordered-plain : (ms : Members) → MembersArePlain ms → are_ordered ms ≡ true
are_ordered-plain no_members h = refl
are_ordered-plain (member k d ms) h = rw (h.0.1, are_ordered-plain ms h.2)

-- ---- a plain value is read from its tokens

mutual
  of_json-outline : (d : Data) → IsPlain d → of_json (outline d) ≡ Some d
  of_json-outline null h = refl
  of_json-outline (boolean b) h = refl
  of_json-outline (number (unsigned n)) h = ap (option_map number) (number_of-decimal n h)
  of_json-outline (number (negative (pos n))) h = absurd h
  of_json-outline (number (negative (negsuc n))) h = ap (option_map number) (number_of-negative n h)
  of_json-outline (number (float x)) h = absurd h
  of_json-outline (string s) h = refl
  of_json-outline (array ds) h = ap (option_map array) (of_items-outline ds h)
  of_json-outline (object ms) h =
      ap (option_map object) (of_members-outline no_members ms h (are_ordered-plain ms h))

  of_items-outline : (ds : Items) → ItemsArePlain ds → of_items (items_outline ds) ≡ Some ds
  of_items-outline no_items h = refl
  of_items-outline (item d ds) h = rw (of_json-outline d h.0, of_items-outline ds h.1)

  of_members-outline : (found ms : Members) → MembersArePlain ms
      → are_ordered (before found ms) ≡ true → of_members (members_outline ms) found
      ≡ Some (before found ms)
  of_members-outline found no_members h ordered = ap Some (sym (before-nil found))
  of_members-outline found (member k d ms) h ordered =
      let next = before-assoc found (member k d no_members) ms in
      ap (option_and_then (λ e. of_members (members_outline ms) (put k e found)))
      (of_json-outline d h.1)
      ∙ ap (of_members (members_outline ms)) (put-last found k d ms ordered)
      ∙ of_members-outline (before found (member k d no_members)) ms h.2
      (ap are_ordered next ∙ ordered)
      ∙ ap Some next

-- the compact text of a plain value is read as that value
pub read-compact_text : (d : Data) → IsPlain d → depth d ≤ max_depth
    → read (compact_text d) ≡ Some d
read-compact_text d plain shallow =
    let j = outline d in
    let ts = tree.json_tokens j in
    let same : tokens (compact_text d) ≡ ts ++ [] =
    ap tokens (sym (print-outline d)) ∙ tokens-print ts
    (ArePrintable-json_tokens j (HasNumbers-outline d plain)) ∙ sym (append-nil ts) in
    ap (λ t. option_and_then of_json
    (option_and_then (λ p. json.if_last p.0 p.1) (json.value max_depth t))) same
    ∙ ap (λ r. option_and_then of_json (option_and_then (λ p. json.if_last p.0 p.1) r))
    (value-json_tokens j max_depth [] (omega (arith, depth-outline d)))
    ∙ of_json-outline d plain
