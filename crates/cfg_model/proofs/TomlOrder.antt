-- The tables that the reader of TOML gives have their keys in byte order.
use Rattle.std.proofs.Common.{◌≡◌, ℕ, Bool, true, false, cond, ◌&&◌, ◌++◌}
use Rattle.std.proofs.Common.{List, [], ◌∷◌, Option, Some, None, IfSome}
use Rattle.std.proofs.Common.{refl, ap, ◌∙◌, subst}
use Rattle.std.proofs.Common.{Ordering, Less, Equal, Greater, nat_cmp, is_lt}
use Rattle.std.specs.Cmp.Lexicographic.{slice_cmp}
use Rattle.std.specs.Ordering.{match_ordering, ordering_reverse}
use Rattle.std.proofs.lemmas.Bool.{and_parts}
use Rattle.std.proofs.lemmas.Cmp.{nat_list_cmp_total}
use Rattle.std.proofs.lemmas.Option.{same_Some}
use Rattle.toml_parser.specs.Strings.{Key}
use Rattle.toml.specs.Data.{Data, table, Items, no_items, item}
use Rattle.toml.specs.Data.{push_item, same_key, is_before, is_sorted, items_are_sorted}
use Rattle.toml.specs.Data.{members_are_sorted}
use Rattle.toml.specs.Tables.{implicit, dotted, header, Node, value, open_table, open_array}
use Rattle.toml.specs.Tables.{Nodes, no_nodes, node, get_node, insert, replace, close, close_node}
use Rattle.toml.specs.Tables.{Edit, header_node, dot_node, by_header, by_dot, along_header}
use Rattle.toml.specs.Tables.{along_dots, Definition, key_value, std_table, array_table, new_node}
use Rattle.toml.specs.Tables.{redefine, at_found, at_key, put, Document, define}
use Rattle.cfg_model.proofs.Steps.{map-Some}

-- a key comes before the first of the nodes
abbrev node_before : List ℕ → Nodes → Bool
node_before k no_nodes = true
node_before k (node l x ns) = is_lt (slice_cmp nat_cmp k l)

-- what is read so far has its keys in order
abbrev mutual
  pub IsNode : Node → Type 0
  IsNode (value d) = is_sorted d ≡ true
  IsNode (open_table origin ns) = AreNodes ns
  IsNode (open_array done last) = (items_are_sorted done ≡ true) × AreNodes last

  pub AreNodes : Nodes → Type 0
  AreNodes no_nodes = Unit {0}
  AreNodes (node k x ns) = (node_before k ns ≡ true) × IsNode x × AreNodes ns

all_three : (a b c : Bool) → a ≡ true → b ≡ true → c ≡ true → ((a && b) && c) ≡ true
all_three a b c x y z = λ i. (x i && y i) && z i

pub push-sorted : (ds : Items) (e : Data) → items_are_sorted ds ≡ true → is_sorted e ≡ true
    → items_are_sorted (push_item ds e) ≡ true
push-sorted no_items e h is = λ i. is i && true
push-sorted (item d ds) e h is =
    let (first, more) = and_parts (is_sorted d) (items_are_sorted ds) h in
    let rest = push-sorted ds e more is in
    λ i. first i && rest i

before-close : (k : List ℕ) (ns : Nodes) → is_before k (close ns) ≡ node_before k ns
before-close k no_nodes = refl
before-close k (node l x ns) = refl

mutual
  close_node-sorted : (x : Node) → IsNode x → is_sorted (close_node x) ≡ true
  close_node-sorted (value d) h = h
  close_node-sorted (open_table origin ns) h = close-sorted ns h
  close_node-sorted (open_array done last) h =
      push-sorted done (table (close last)) h.0 (close-sorted last h.1)

  pub close-sorted : (ns : Nodes) → AreNodes ns → members_are_sorted (close ns) ≡ true
  close-sorted no_nodes h = refl
  close-sorted (node k x ns) h =
      all_three (is_before k (close ns)) (is_sorted (close_node x)) (members_are_sorted (close ns))
      (before-close k ns ∙ h.0) (close_node-sorted x h.1) (close-sorted ns h.2)

insert-before : (low k : List ℕ) (x : Node) (ns : Nodes) → is_lt (slice_cmp nat_cmp low k) ≡ true
    → node_before low ns ≡ true → node_before low (insert k x ns) ≡ true
insert-before low k x no_nodes h all = h
insert-before low k x (node l y ns) h all = at (slice_cmp nat_cmp k l)
  where
    at : (order : Ordering) → node_before low
        (match_ordering order (node k x (node l y ns)) (node l x ns) (node l y (insert k x ns)))
        ≡ true
    at Less = h
    at Equal = all
    at Greater = all

insert-nodes : (k : List ℕ) (x : Node) (ns : Nodes) → IsNode x → AreNodes ns
    → AreNodes (insert k x ns)
insert-nodes k x no_nodes is h = (refl, is, tt)
insert-nodes k x (node l y ns) is h = at (insert-nodes k x ns is h.2) (slice_cmp nat_cmp k l) refl
  where
    at : AreNodes (insert k x ns) → (order : Ordering) → slice_cmp nat_cmp k l ≡ order
        → AreNodes (match_ordering order (node k x (node l y ns)) (node l x ns)
        (node l y (insert k x ns)))
    at ih Less p = (ap is_lt p, is, h)
    at ih Equal p = (h.0, is, h.2)
    at ih Greater p = (
      insert-before l k x ns
          (ap is_lt (nat_list_cmp_total.antisymm l k ∙ ap ordering_reverse p)) h.0,
      h.1,
      ih,
    )

replace-before : (low k : List ℕ) (x : Node) (ns : Nodes)
    → node_before low (replace k x ns) ≡ node_before low ns
replace-before low k x no_nodes = refl
replace-before low k x (node l y ns) = at (same_key k l)
  where
    at : (test : Bool) → node_before low (cond test (node l x ns) (node l y (replace k x ns)))
        ≡ is_lt (slice_cmp nat_cmp low l)
    at true = refl
    at false = refl

replace-nodes : (k : List ℕ) (x : Node) (ns : Nodes) → IsNode x → AreNodes ns
    → AreNodes (replace k x ns)
replace-nodes k x no_nodes is h = tt
replace-nodes k x (node l y ns) is h = at (replace-nodes k x ns is h.2) (same_key k l)
  where
    at : AreNodes (replace k x ns) → (test : Bool)
        → AreNodes (cond test (node l x ns) (node l y (replace k x ns)))
    at ih true = (h.0, is, h.2)
    at ih false = (replace-before l k x ns ∙ h.0, h.1, ih)

get_node-is : (k : List ℕ) (ns : Nodes) → AreNodes ns → IfSome (get_node k ns) IsNode
get_node-is k no_nodes h = tt
get_node-is k (node l x ns) h = at (get_node-is k ns h.2) (same_key k l)
  where
    at : IfSome (get_node k ns) IsNode → (test : Bool)
        → IfSome (cond test (Some x) (get_node k ns)) IsNode
    at ih true = h.1
    at ih false = ih

-- an edit keeps keys in order
abbrev pub Keeps : Edit → Type 0
Keeps edit = (ns new : Nodes) → AreNodes ns → edit ns ≡ Some new → AreNodes new

header_node-is : (edit : Edit) → Keeps edit → (x y : Node) → IsNode x
    → header_node edit x ≡ Some y → IsNode y
header_node-is edit keeps (value d) y h e = absurd (cc)
header_node-is edit keeps (open_table origin inner) y h e =
    let (new, is, same) = map-Some (open_table origin) (edit inner) y e in
    subst IsNode same (keeps inner new h is)
header_node-is edit keeps (open_array done last) y h e =
    let (new, is, same) = map-Some (open_array done) (edit last) y e in
    subst IsNode same (h.0, keeps last new h.1 is)

dot_node-is : (edit : Edit) → Keeps edit → (x y : Node) → IsNode x
    → dot_node edit x ≡ Some y → IsNode y
dot_node-is edit keeps (value d) y h e = absurd (cc)
dot_node-is edit keeps (open_table header inner) y h e = absurd (cc)
dot_node-is edit keeps (open_table implicit inner) y h e =
    let (new, is, same) = map-Some (open_table dotted) (edit inner) y e in
    subst IsNode same (keeps inner new h is)
dot_node-is edit keeps (open_table dotted inner) y h e =
    let (new, is, same) = map-Some (open_table dotted) (edit inner) y e in
    subst IsNode same (keeps inner new h is)
dot_node-is edit keeps (open_array done last) y h e = absurd (cc)

by_header-is : (k : List ℕ) (edit : Edit) → Keeps edit → (ns new : Nodes) (found : Option Node)
    → AreNodes ns → IfSome found IsNode → by_header k edit ns found ≡ Some new → AreNodes new
by_header-is k edit keeps ns new None h is e =
    let (inner, made, same) =
    map-Some (λ n. insert k (open_table implicit n) ns) (edit no_nodes) new e in
    subst AreNodes same (insert-nodes k (open_table implicit inner) ns
    (keeps no_nodes inner tt made) h)
by_header-is k edit keeps ns new (Some x) h is e =
    let (y, made, same) = map-Some (λ n. replace k n ns) (header_node edit x) new e in
    subst AreNodes same (replace-nodes k y ns (header_node-is edit keeps x y is made) h)

by_dot-is : (k : List ℕ) (edit : Edit) → Keeps edit → (ns new : Nodes) (found : Option Node)
    → AreNodes ns → IfSome found IsNode → by_dot k edit ns found ≡ Some new → AreNodes new
by_dot-is k edit keeps ns new None h is e =
    let (inner, made, same) =
    map-Some (λ n. insert k (open_table dotted n) ns) (edit no_nodes) new e in
    subst AreNodes same (insert-nodes k (open_table dotted inner) ns (keeps no_nodes inner tt made)
    h)
by_dot-is k edit keeps ns new (Some x) h is e =
    let (y, made, same) = map-Some (λ n. replace k n ns) (dot_node edit x) new e in
    subst AreNodes same (replace-nodes k y ns (dot_node-is edit keeps x y is made) h)

along_header-keeps : (path : List (List ℕ)) (edit : Edit) → Keeps edit
    → Keeps (along_header path edit)
unfolding along_header
along_header-keeps [] edit keeps ns new h e = keeps ns new h e
along_header-keeps (k ∷ path) edit keeps ns new h e =
    by_header-is k (along_header path edit) (along_header-keeps path edit keeps) ns new
    (get_node k ns) h (get_node-is k ns h) e

along_dots-keeps : (path : List (List ℕ)) (edit : Edit) → Keeps edit
    → Keeps (along_dots path edit)
unfolding along_dots
along_dots-keeps [] edit keeps ns new h e = keeps ns new h e
along_dots-keeps (k ∷ path) edit keeps ns new h e =
    by_dot-is k (along_dots path edit) (along_dots-keeps path edit keeps) ns new
    (get_node k ns) h (get_node-is k ns h) e

-- what stands with a key on a line has its keys in order
abbrev pub IsDefined : Definition → Type 0
IsDefined (key_value d) = is_sorted d ≡ true
IsDefined std_table = Unit {0}
IsDefined array_table = Unit {0}

new_node-is : (what : Definition) → IsDefined what → IsNode (new_node what)
new_node-is (key_value d) h = h
new_node-is std_table h = tt
new_node-is array_table h = (refl, tt)

redefine-is : (what : Definition) (x y : Node) → IsNode x → redefine what x ≡ Some y → IsNode y
redefine-is (key_value d) (value e) y h is = absurd (cc)
redefine-is (key_value d) (open_table origin ns) y h is = absurd (cc)
redefine-is (key_value d) (open_array done last) y h is = absurd (cc)
redefine-is std_table (value e) y h is = absurd (cc)
redefine-is std_table (open_table implicit ns) y h is = subst IsNode (same_Some _ _ is) h
redefine-is std_table (open_table dotted ns) y h is = absurd (cc)
redefine-is std_table (open_table header ns) y h is = absurd (cc)
redefine-is std_table (open_array done last) y h is = absurd (cc)
redefine-is array_table (value e) y h is = absurd (cc)
redefine-is array_table (open_table origin ns) y h is = absurd (cc)
redefine-is array_table (open_array done last) y h is =
    subst IsNode (same_Some _ _ is)
    (push-sorted done (table (close last)) h.0 (close-sorted last h.1), tt)

at_key-keeps : (k : List ℕ) (what : Definition) → IsDefined what → Keeps (at_key k what)
unfolding at_key
at_key-keeps k what is ns new h e = at (get_node k ns) (get_node-is k ns h) e
  where
    at : (found : Option Node) → IfSome found IsNode → at_found k what ns found ≡ Some new
        → AreNodes new
    at None there e =
        subst AreNodes (same_Some _ _ e) (insert-nodes k (new_node what) ns (new_node-is what is) h)
    at (Some x) there e =
        let (y, made, same) = map-Some (λ n. replace k n ns) (redefine what x) new e in
        subst AreNodes same (replace-nodes k y ns (redefine-is what x y there made) h)

pub put-keeps : (key : Key) (d : Data) → is_sorted d ≡ true → Keeps (put key d)
put-keeps key d is =
    along_dots-keeps key.0 (at_key key.1 (key_value d)) (at_key-keeps key.1 (key_value d) is)

pub define-keeps : (doc new : Document) (key : Key) (what : Definition) → AreNodes doc.0
    → IsDefined what → define doc (key, what) ≡ Some new → AreNodes new.0
unfolding define
define-keeps doc new key (key_value d) h is e =
    let edit = along_header doc.1 (put key d) in
    let (root, made, same) = map-Some (λ root. (root, doc.1)) (edit doc.0) new e in
    subst (λ (n : Document). AreNodes n.0) same
    (along_header-keeps doc.1 (put key d) (put-keeps key d is) doc.0 root h made)
define-keeps doc new key std_table h is e =
    let edit = along_header key.0 (at_key key.1 std_table) in
    let (root, made, same) = map-Some (λ root. (root, key.0 ++ key.1 ∷ [])) (edit doc.0) new e in
    subst (λ (n : Document). AreNodes n.0) same
    (along_header-keeps key.0 (at_key key.1 std_table) (at_key-keeps key.1 std_table is) doc.0 root
    h made)
define-keeps doc new key array_table h is e =
    let edit = along_header key.0 (at_key key.1 array_table) in
    let (root, made, same) = map-Some (λ root. (root, key.0 ++ key.1 ∷ [])) (edit doc.0) new e in
    subst (λ (n : Document). AreNodes n.0) same
    (along_header-keeps key.0 (at_key key.1 array_table) (at_key-keeps key.1 array_table is) doc.0
    root h made)
