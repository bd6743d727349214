-- A register, a document type and a sequence that are read keep to their limits and resolve.
use Rattle.std.proofs.Common.{◌≡◌, ℕ, ℤ, pos, negsuc, ◌-◌, ◌≤◌, ◌&&◌, nat_le, true, false, Bool}
use Rattle.std.proofs.Common.{cond, List, [], ◌∷◌, length, Option, Some, None, option_and_then}
use Rattle.std.proofs.Common.{option_map, Ok, codes, subst, arith, IfSome}
use Rattle.std.specs.List.{AllByRecursion, filter}
use Rattle.std.specs.Str.{bytes_eq}
use Rattle.std.proofs.lemmas.Bool.{and_parts}
use Rattle.std.proofs.lemmas.Bool.Decides.{nat_tests}
use Rattle.std.proofs.lemmas.List.Elements.{All-from_recursion}
use Rattle.std.proofs.lemmas.Option.{same_Some}
use Rattle.toml.specs.Data.{Data, Members, get_member, as_str, as_integer}
use Rattle.reg_base.specs.Results.{unless, some_or}
use Rattle.cfg_model.specs.declared.register.Register.{Register}
use Rattle.cfg_model.specs.declared.register.Dimension.{Dimension}
use Rattle.cfg_model.specs.declared.register.Resource.{Resource}
use Rattle.cfg_model.specs.declared.kind.Kind.{Kind}
use Rattle.cfg_model.specs.declared.kind.Field.{Field as DocumentField}
use Rattle.cfg_model.specs.declared.fault.CfgFault.TheVariants.{Field}
use Rattle.cfg_model.specs.Elements.{at_colon, toml_name, toml_scale, toml_resource, toml_dimension}
use Rattle.cfg_model.specs.Elements.{toml_field, toml_field_scale}
use Rattle.cfg_model.specs.Limits.{dimension_limit, resource_limit, field_limit, scale_limit}
use Rattle.cfg_model.specs.Limits.{lot_limit}
use Rattle.cfg_model.specs.Limits.{IsRegisterWithinLimits, IsKindWithinLimits}
use Rattle.cfg_model.specs.Words.{key_path, register_keys, document_keys}
use Rattle.cfg_model.specs.Walk.{at_most, entry_keys, of_shape, toml_texts}
use Rattle.cfg_model.specs.Registers.{read_register, read_balance, read_dimensions, read_resources}
use Rattle.cfg_model.specs.Registers.{read_split}
use Rattle.cfg_model.specs.Kinds.{read_kind, read_fields}
use Rattle.cfg_model.specs.Ledgers.{read_scale, scale_number}
use Rattle.cfg_model.proofs.Steps.{bind-Ok, same_Ok, unless-Ok, some_or-Ok, and_then-Some, map-Some}
use Rattle.cfg_model.proofs.Steps.{cond-Some}
use Rattle.cfg_model.proofs.ListLemmas.{at_most-Ok, distinct-Ok, distinct-one, toml_texts-all}

digit-small : (digit scale : ℕ)
    → (nat_le 48 digit && nat_le digit 54) ≡ true → digit - 48 ≡ scale → scale ≤ scale_limit
digit-small digit scale test e =
    let (low, high) = and_parts (nat_le 48 digit) (nat_le digit 54) test in
    grind (arith, nat_tests)

-- a digit that spells a scale spells a small one
toml_scale-small : (text : List ℕ) (scale : ℕ) → toml_scale text ≡ Some scale → scale ≤ scale_limit
unfolding toml_scale
toml_scale-small [] scale e = absurd (cc)
toml_scale-small (digit ∷ []) scale e =
    let (test, value) = cond-Some _ (digit - 48) scale e in digit-small digit scale test value
toml_scale-small (digit ∷ next ∷ more) scale e = absurd (cc)

-- a resource that is spelled has a small scale
toml_resource-small : (text : List ℕ) (r : Resource)
    → toml_resource text ≡ Some r → r.scale ≤ scale_limit
unfolding toml_resource
toml_resource-small text r e =
    let (parts, split, named) = and_then-Some _ (at_colon text) r e in
    let (name, is_named, scaled) = and_then-Some _ (toml_name parts.0) r named in
    let (scale, is_scale, value) = map-Some _ (toml_scale parts.1) r scaled in
    let small : scale ≤ scale_limit = toml_scale-small parts.1 scale is_scale in
    subst (λ (made : Resource). made.scale ≤ scale_limit) value small

-- the scale of a field, where it has one, is small
IsSmall : Option ℕ → Type 0
IsSmall scale = IfSome scale (λ s. s ≤ scale_limit)

toml_field_scale-small : (word : List ℕ) (scale : Option ℕ)
    → toml_field_scale word ≡ Some scale → IsSmall scale
unfolding toml_field_scale IsSmall
toml_field_scale-small word scale e = at (bytes_eq word (codes "code")) e
  where
    at : (test : Bool) → cond test (Some None) (option_map Some (toml_scale word)) ≡ Some scale
        → IfSome scale (λ s. s ≤ scale_limit)
    at true e = subst (λ (found : Option ℕ). IfSome found (λ s. s ≤ scale_limit)) (same_Some _ _ e)
        tt
    at false e =
        let (s, is_scale, value) = map-Some Some (toml_scale word) scale e in
        subst (λ (found : Option ℕ). IfSome found (λ s. s ≤ scale_limit)) value
        (toml_scale-small word s is_scale)

-- a field that is spelled has a small scale, if it has one
toml_field-small : (text : List ℕ) (f : DocumentField) → toml_field text ≡ Some f → IsSmall f.scale
unfolding toml_field
toml_field-small text f e =
    let (parts, split, named) = and_then-Some _ (at_colon text) f e in
    let (name, is_named, scaled) = and_then-Some _ (toml_name parts.0) f named in
    let (scale, is_scale, value) = map-Some _ (toml_field_scale parts.1) f scaled in
    subst (λ (made : DocumentField). IsSmall made.scale) value
    (toml_field_scale-small parts.1 scale is_scale)

-- a register that is read has few dimensions
read_dimensions-few : (name : List ℕ) (keys : Members) (ds : List Dimension)
    → read_dimensions name keys ≡ Ok ds → length ds ≤ dimension_limit
unfolding read_dimensions
read_dimensions-few name keys ds e =
    let path = key_path (codes "register") name (codes "dimensions") in
    let held = of_shape (toml_texts toml_dimension) (codes "dimensions") keys in
    let (found, shape, more) = bind-Ok (some_or held (Field path)) _ ds e in
    let (u, few, last) = bind-Ok (at_most dimension_limit path (length found)) _ ds more in
    let same = distinct-Ok (λ (d : Dimension). d.name) (λ (d : Dimension). d.lot) found ds last in
    subst (λ (xs : List Dimension). length xs ≤ dimension_limit) same
    (at_most-Ok dimension_limit path (length found) u few)

-- a register that is read has one dimension of lots at the most
read_dimensions-one_lot : (name : List ℕ) (keys : Members) (ds : List Dimension)
    → read_dimensions name keys ≡ Ok ds → length (filter (λ d. d.lot) ds) ≤ lot_limit
unfolding read_dimensions
read_dimensions-one_lot name keys ds e =
    let path = key_path (codes "register") name (codes "dimensions") in
    let held = of_shape (toml_texts toml_dimension) (codes "dimensions") keys in
    let (found, shape, more) = bind-Ok (some_or held (Field path)) _ ds e in
    let (u, few, last) = bind-Ok (at_most dimension_limit path (length found)) _ ds more in
    distinct-one (λ (d : Dimension). d.name) (λ (d : Dimension). d.lot) found ds last

-- what the limits ask of the resources of a register
record HasResources (rs : List Resource) : Type 0 where
  some_resource : 1 ≤ length rs
  few_resources : length rs ≤ resource_limit
  small_scales : AllByRecursion (λ r. r.scale ≤ scale_limit) rs

-- a register that is read has some resources, not too many, with small scales
read_resources-within : (name : List ℕ) (keys : Members) (rs : List Resource)
    → read_resources name keys ≡ Ok rs → HasResources rs
unfolding read_resources
read_resources-within name keys rs e =
    let path = key_path (codes "register") name (codes "resources") in
    let held = of_shape (toml_texts toml_resource) (codes "resources") keys in
    let (found, shape, more) = bind-Ok (some_or held (Field path)) _ rs e in
    let (u, filled, rest) = bind-Ok (unless (nat_le 1 (length found)) (Field path)) _ rs more in
    let (v, few, last) = bind-Ok (at_most resource_limit path (length found)) _ rs rest in
    let same = distinct-Ok (λ (r : Resource). r.name) (λ (r : Resource). false) found rs last in
    let test = unless-Ok (nat_le 1 (length found)) (Field path) u filled in
    let some : 1 ≤ length found = grind (arith, nat_tests) in
    subst HasResources same (record {
      some_resource = some;
      few_resources = at_most-Ok resource_limit path (length found) v few;
      small_scales = toml_texts-all toml_resource (λ r. r.scale ≤ scale_limit) toml_resource-small
          (codes "resources") keys found (some_or-Ok _ (Field path) found shape);
    })

-- a register that is read keeps to the limits
pub read_register-within : (name : List ℕ) (d : Data) (r : Register)
    → read_register name d ≡ Ok r → IsRegisterWithinLimits r
unfolding read_register
read_register-within name d r e =
    let entry = entry_keys (codes "register") [] register_keys name d in
    let (keys, opened, a) = bind-Ok entry _ r e in
    let (balance, is_kind, b) = bind-Ok (read_balance name keys) _ r a in
    let (ds, are_dimensions, c) = bind-Ok (read_dimensions name keys) _ r b in
    let (rs, are_resources, f) = bind-Ok (read_resources name keys) _ r c in
    let (split, is_split, made) = bind-Ok (read_split (codes "register") name keys) _ r f in
    let within = read_resources-within name keys rs are_resources in
    subst IsRegisterWithinLimits (same_Ok _ _ made) (record {
      few_dimensions = read_dimensions-few name keys ds are_dimensions;
      one_lot = read_dimensions-one_lot name keys ds are_dimensions;
      some_resource = within.some_resource;
      few_resources = within.few_resources;
      small_scales = All-from_recursion _ rs within.small_scales;
    })

-- what the limits ask of the fields of a head or of lines
record AreFewFields (fields : List DocumentField) : Type 0 where
  few : length fields ≤ field_limit
  small : AllByRecursion (λ f. IsSmall f.scale) fields

read_fields-within : (name key : List ℕ) (keys : Members) (fields : List DocumentField)
    → read_fields name key keys ≡ Ok fields → AreFewFields fields
unfolding read_fields
read_fields-within name key keys fields e =
    let path = key_path (codes "document") name key in
    let held = of_shape (toml_texts toml_field) key keys in
    let (found, shape, more) = bind-Ok (some_or held (Field path)) _ fields e in
    let (u, few, last) = bind-Ok (at_most field_limit path (length found)) _ fields more in
    let same = distinct-Ok (λ (f : DocumentField). f.name) (λ (f : DocumentField). false) found
    fields last in
    subst AreFewFields same (record {
      few = at_most-Ok field_limit path (length found) u few;
      small = toml_texts-all toml_field (λ f. IsSmall f.scale) toml_field-small
          key keys found (some_or-Ok _ (Field path) found shape);
    })

-- a document type that is read keeps to the limits
pub read_kind-within : (name : List ℕ) (d : Data) (k : Kind)
    → read_kind name d ≡ Ok k → IsKindWithinLimits k
unfolding read_kind IsSmall
read_kind-within name d k e =
    let entry = entry_keys (codes "document") [] document_keys name d in
    let (keys, opened, a) = bind-Ok entry _ k e in
    let (head, is_head, b) = bind-Ok (read_fields name (codes "head") keys) _ k a in
    let (lines, are_lines, c) = bind-Ok (read_fields name (codes "lines") keys) _ k b in
    let path = key_path (codes "document") name (codes "rules") in
    let (rules, are_rules, made) =
    bind-Ok (some_or (of_shape as_str (codes "rules") keys) (Field path)) _ k c in
    let heads = read_fields-within name (codes "head") keys head is_head in
    let others = read_fields-within name (codes "lines") keys lines are_lines in
    subst IsKindWithinLimits (same_Ok _ _ made) (record {
      few_head = heads.few;
      few_lines = others.few;
      small_head = All-from_recursion _ head heads.small;
      small_lines = All-from_recursion _ lines others.small;
    })

scale_number-small : (z : ℤ) (scale : ℕ) → scale_number z ≡ Some scale → scale ≤ scale_limit
unfolding scale_number
scale_number-small (pos n) scale e =
    let (test, value) = cond-Some (nat_le n scale_limit) n scale e in
    let small : n ≤ scale_limit = grind (arith, nat_tests) in
    subst (λ (s : ℕ). s ≤ scale_limit) value small
scale_number-small (negsuc n) scale e = absurd (cc)

-- the scale of a ledger that is read is small
pub read_scale-small : (name : List ℕ) (keys : Members) (scale : ℕ)
    → read_scale name keys ≡ Ok scale → scale ≤ scale_limit
unfolding read_scale
read_scale-small name keys scale e =
    let path = key_path (codes "ledger") name (codes "scale") in
    let number : Data → Option ℕ = λ d. option_and_then scale_number (as_integer d) in
    let found = some_or-Ok (of_shape number (codes "scale") keys) (Field path) scale e in
    let (d, held, read) = and_then-Some number (get_member (codes "scale") keys) scale found in
    let (z, is_number, small) = and_then-Some scale_number (as_integer d) scale read in
    scale_number-small z scale small
