-- What the reader of TOML reads has the keys of each table in byte order.
use Rattle.std.proofs.Common.{◌≡◌, ℕ, zero, suc, Bool, true, false, cond, ◌&&◌, ◌==◌, List, []}
use Rattle.std.proofs.Common.{length, drop, Some, None, option_map, option_and_then, refl}
use Rattle.std.proofs.Common.{subst}
use Rattle.std.specs.Prelude.{slice_index}
use Rattle.std.specs.Str.Lossy.{utf8_valid_len}
use Rattle.std.proofs.lemmas.Option.{same_Some}
use Rattle.toml_parser.specs.Lexical.{Read, first, left_bracket, left_brace, right_bracket}
use Rattle.toml_parser.specs.Lexical.{right_brace, skip_ws, skip_blank}
use Rattle.toml_parser.specs.Numbers.{unquoted}
use Rattle.toml_parser.specs.Strings.{Key, quoted, starts_string, recursion_limit}
use Rattle.toml_parser.specs.declared.scalar.Scalar.{Scalar}
use Rattle.toml_parser.specs.declared.scalar.Scalar.TheVariants.{Boolean, Integer, Float, Datetime}
use Rattle.toml.specs.Data.{Data, string, array, table, Items, no_items, Members, push_item}
use Rattle.toml.specs.Data.{is_sorted, items_are_sorted, members_are_sorted}
use Rattle.toml.specs.Parse.{read_map, after_byte, after_element, key_equals, keyval, items}
use Rattle.toml.specs.Parse.{members}
use Rattle.toml.specs.Parse.{scalar_data, atom, val, header_key, expression, ends_line, line, lines}
use Rattle.toml.specs.Parse.{skip_bom, parse_document}
use Rattle.toml.specs.Tables.{Nodes, no_nodes, close, put, Expression, key_value}
use Rattle.toml.specs.Tables.{std_table, array_table, Document, define}
use Rattle.cfg_model.specs.Reading.{toml_document}
use Rattle.cfg_model.proofs.Steps.{and_then-Some, map-Some}
use Rattle.cfg_model.proofs.TomlOrder.{AreNodes, IsDefined, push-sorted, close-sorted, put-keeps}
use Rattle.cfg_model.proofs.TomlOrder.{define-keeps}

-- a reader gives values whose tables are in order
abbrev Sorts : (List ℕ → Read Data) → Type 0
Sorts reads = (text : List ℕ) (p : Data × List ℕ) → reads text ≡ Some p → is_sorted p.0 ≡ true

scalar-sorted : (s : Scalar) → is_sorted (scalar_data s) ≡ true
scalar-sorted (Boolean b) = refl
scalar-sorted (Integer z) = refl
scalar-sorted (Float x) = refl
scalar-sorted (Datetime dt) = refl

atom-sorts : Sorts atom
unfolding atom
atom-sorts text p e = at (starts_string text) e
  where
    at : (test : Bool)
        → cond test (read_map string (quoted text)) (read_map scalar_data (unquoted text)) ≡ Some p
        → is_sorted p.0 ≡ true
    at true e =
        let (s, read, same) = map-Some (λ s. (string s.0, s.1)) (quoted text) p e in
        subst (λ (q : Data × List ℕ). is_sorted q.0 ≡ true) same refl
    at false e =
        let (s, read, same) = map-Some (λ s. (scalar_data s.0, s.1)) (unquoted text) p e in
        subst (λ (q : Data × List ℕ). is_sorted q.0 ≡ true) same (scalar-sorted s.0)

module _ (reads : List ℕ → Read Data) (sorts : Sorts reads) where
  keyval-sorted : (text : List ℕ) (p : (Key × Data) × List ℕ) → keyval reads text ≡ Some p
      → is_sorted p.0.1 ≡ true
  keyval-sorted text p e =
      let (k, is_key, more) = and_then-Some (λ k. read_map (λ d. (k.0, d)) (reads k.1))
      (key_equals text) p e in
      let (d, read, same) = map-Some (λ d. ((k.0, d.0), d.1)) (reads k.1) p more in
      subst (λ (q : (Key × Data) × List ℕ). is_sorted q.0.1 ≡ true) same (sorts k.1 d read)

  items-sorted : (n : ℕ) (found : Items) (text : List ℕ) (p : Items × List ℕ)
      → items_are_sorted found ≡ true → items reads n found text ≡ Some p
      → items_are_sorted p.0 ≡ true
  unfolding items
  items-sorted zero found text p h e = absurd (cc)
  items-sorted (suc n) found text p h e =
      at (items-sorted n) (first (skip_blank text) == right_bracket) e
    where
      start : List ℕ
      start = skip_blank text

      at : ((more : Items) (t : List ℕ) (q : Items × List ℕ) → items_are_sorted more ≡ true
          → items reads n more t ≡ Some q → items_are_sorted q.0 ≡ true)
          → (test : Bool)
          → cond test (Some (found, drop 1 (skip_blank text)))
          (option_and_then (λ v. option_and_then (items reads n (push_item found v.0))
          (after_element right_bracket v.1)) (reads (skip_blank text))) ≡ Some p
          → items_are_sorted p.0 ≡ true
      at ih true e = subst (λ (q : Items × List ℕ). items_are_sorted q.0 ≡ true) (same_Some _ _ e) h
      at ih false e =
          let (v, read, more) = and_then-Some
          (λ v. option_and_then (items reads n (push_item found v.0))
          (after_element right_bracket v.1)) (reads (skip_blank text)) p e in
          let (rest, after, last) = and_then-Some (items reads n (push_item found v.0))
          (after_element right_bracket v.1) p more in
          ih (push_item found v.0) rest p
          (push-sorted found v.0 h (sorts (skip_blank text) v read)) last

  members-sorted : (n : ℕ) (found : Nodes) (text : List ℕ) (p : Members × List ℕ)
      → AreNodes found → members reads n found text ≡ Some p → members_are_sorted p.0 ≡ true
  unfolding members
  members-sorted zero found text p h e = absurd (cc)
  members-sorted (suc n) found text p h e =
      at (members-sorted n) (first (skip_blank text) == right_brace) e
    where
      at : ((more : Nodes) (t : List ℕ) (q : Members × List ℕ) → AreNodes more
          → members reads n more t ≡ Some q → members_are_sorted q.0 ≡ true)
          → (test : Bool)
          → cond test (Some (close found, drop 1 (skip_blank text)))
          (option_and_then (λ e. option_and_then (λ more.
          option_and_then (members reads n more) (after_element right_brace e.1))
          (put e.0.0 e.0.1 found)) (keyval reads (skip_blank text))) ≡ Some p
          → members_are_sorted p.0 ≡ true
      at ih true e =
          subst (λ (q : Members × List ℕ). members_are_sorted q.0 ≡ true) (same_Some _ _ e)
          (close-sorted found h)
      at ih false e =
          let (pair, read, a) = and_then-Some (λ e. option_and_then (λ more.
          option_and_then (members reads n more) (after_element right_brace e.1))
          (put e.0.0 e.0.1 found)) (keyval reads (skip_blank text)) p e in
          let (more, made, b) = and_then-Some (λ more.
          option_and_then (members reads n more) (after_element right_brace pair.1))
          (put pair.0.0 pair.0.1 found) p a in
          let (rest, after, last) = and_then-Some (members reads n more)
          (after_element right_brace pair.1) p b in
          let is = keyval-sorted (skip_blank text) pair read in
          ih more rest p (put-keeps pair.0.0 pair.0.1 is found more h made) last

val-sorts : (depth : ℕ) → Sorts (val depth)
unfolding val
val-sorts zero text p e = atom-sorts text p e
val-sorts (suc depth) text p e =
    at (val-sorts depth) (first text == left_bracket) (first text == left_brace) e
  where
    at : Sorts (val depth) → (list inline : Bool)
        → cond list (read_map array (items (val depth) (length text) no_items (drop 1 text)))
        (cond inline (read_map table (members (val depth) (length text) no_nodes (drop 1 text)))
        (atom text)) ≡ Some p
        → is_sorted p.0 ≡ true
    at ih true inline e =
        let (q, read, same) = map-Some (λ q. (array q.0, q.1))
        (items (val depth) (length text) no_items (drop 1 text)) p e in
        subst (λ (r : Data × List ℕ). is_sorted r.0 ≡ true) same
        (items-sorted (val depth) ih (length text) no_items (drop 1 text) q refl read)
    at ih false true e =
        let (q, read, same) = map-Some (λ q. (table q.0, q.1))
        (members (val depth) (length text) no_nodes (drop 1 text)) p e in
        subst (λ (r : Data × List ℕ). is_sorted r.0 ≡ true) same
        (members-sorted (val depth) ih (length text) no_nodes (drop 1 text) q tt read)
    at ih false false e = atom-sorts text p e

-- an expression that is read defines what is in order
expression-is : (text : List ℕ) (p : Expression × List ℕ) → expression text ≡ Some p
    → IsDefined p.0.1
unfolding expression
expression-is text p e =
    at (first text == left_bracket && slice_index text 1 == left_bracket)
    (first text == left_bracket) e
  where
    at : (double single : Bool)
        → cond double (option_and_then (λ k. option_map (λ rest. ((k.0, array_table), rest))
        (after_byte right_bracket k.1)) (header_key (drop 2 text)))
        (cond single (read_map (λ k. (k, std_table)) (header_key (drop 1 text)))
        (read_map (λ q. (q.0, key_value q.1)) (keyval (val recursion_limit) text))) ≡ Some p
        → IsDefined p.0.1
    at true single e =
        let (k, read, more) = and_then-Some (λ k. option_map (λ rest. ((k.0, array_table), rest))
        (after_byte right_bracket k.1)) (header_key (drop 2 text)) p e in
        let (rest, after, same) = map-Some (λ rest. ((k.0, array_table), rest))
        (after_byte right_bracket k.1) p more in
        subst (λ (q : Expression × List ℕ). IsDefined q.0.1) same tt
    at false true e =
        let (k, read, same) = map-Some (λ k. ((k.0, std_table), k.1)) (header_key (drop 1 text)) p e
        in
        subst (λ (q : Expression × List ℕ). IsDefined q.0.1) same tt
    at false false e =
        let (k, read, same) = map-Some (λ q. ((q.0.0, key_value q.0.1), q.1))
        (keyval (val recursion_limit) text) p e in
        subst (λ (q : Expression × List ℕ). IsDefined q.0.1) same
        (keyval-sorted (val recursion_limit) (val-sorts recursion_limit) text k read)

line-is : (text : List ℕ) (p : Expression × List ℕ) → line text ≡ Some p → IsDefined p.0.1
unfolding line
line-is text p e =
    let (q, read, more) = and_then-Some (λ e. cond (ends_line (skip_ws e.1)) (Some e) None)
    (expression text) p e in
    at q (expression-is text q read) (ends_line (skip_ws q.1)) more
  where
    at : (q : Expression × List ℕ) → IsDefined q.0.1 → (test : Bool)
        → cond test (Some q) None ≡ Some p → IsDefined p.0.1
    at q is true e = subst (λ (r : Expression × List ℕ). IsDefined r.0.1) (same_Some _ _ e) is
    at q is false e = absurd (cc)

lines-are : (n : ℕ) (doc : Document) (text : List ℕ) (new : Document) → AreNodes doc.0
    → lines n doc text ≡ Some new → AreNodes new.0
unfolding lines
lines-are zero doc text new h e = absurd (cc)
lines-are (suc n) doc text new h e = at (lines-are n) (length (skip_blank text) == 0) e
  where
    at : ((d : Document) (t : List ℕ) (w : Document) → AreNodes d.0 → lines n d t ≡ Some w
        → AreNodes w.0)
        → (test : Bool)
        → cond test (Some doc) (option_and_then (λ e. option_and_then (λ next. lines n next e.1)
        (define doc e.0)) (line (skip_blank text))) ≡ Some new
        → AreNodes new.0
    at ih true e = subst (λ (d : Document). AreNodes d.0) (same_Some _ _ e) h
    at ih false e =
        let (p, read, a) = and_then-Some (λ e. option_and_then (λ next. lines n next e.1)
        (define doc e.0)) (line (skip_blank text)) new e in
        let (next, made, last) = and_then-Some (λ next. lines n next p.1) (define doc p.0) new a in
        ih next p.1 new (define-keeps doc next p.0.0 p.0.1 h (line-is (skip_blank text) p read)
        made) last

parse-sorted : (text : List ℕ) (ms : Members) → parse_document text ≡ Some ms
    → members_are_sorted ms ≡ true
unfolding parse_document
parse-sorted text ms e =
    let (doc, read, same) = map-Some (λ (doc : Document). close doc.0)
    (lines (suc (length text)) (no_nodes, []) (skip_bom text)) ms e in
    subst (λ (m : Members). members_are_sorted m ≡ true) same
    (close-sorted doc.0 (lines-are (suc (length text)) (no_nodes, []) (skip_bom text) doc tt read))

-- the tables of a file have their keys in byte order
pub toml_document-sorted : (bytes : List ℕ) (top : Members) → toml_document bytes ≡ Some top
    → members_are_sorted top ≡ true
unfolding toml_document
toml_document-sorted bytes top e = at (utf8_valid_len bytes == length bytes) e
  where
    at : (test : Bool) → cond test (parse_document bytes) None ≡ Some top
        → members_are_sorted top ≡ true
    at true e = parse-sorted bytes top e
    at false e = absurd (cc)
