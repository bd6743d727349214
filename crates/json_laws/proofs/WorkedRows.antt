-- Worked rows of values that are read back, computed from their definitions.
use Rattle.std.proofs.Common.{negsuc, codes, arith, refl}
use Rattle.json.proofs.Printed.Utf8.{IsUtf8-are_ascii}
use Rattle.serde_json.specs.Data.{unsigned, negative, number, array, object, no_items, item}
use Rattle.serde_json.specs.Data.{no_members, member}
use Rattle.json_laws.specs.Plain.{IsWhole, IsPlain}

-- the least and the largest number of 64 bits
least : IsWhole (negative (negsuc 9_223_372_036_854_775_807))
least = omega arith

largest : IsWhole (unsigned 18_446_744_073_709_551_615)
largest = omega arith

-- {"a":[-5],"b":[]}, where the names stand in order
in_order : IsPlain (object
    (member (codes "a") (array (item (number (negative (negsuc 4))) no_items))
    (member (codes "b") (array no_items) no_members)))
in_order = (
  (IsUtf8-are_ascii (codes "a") refl, refl),
  (omega arith, tt),
  ((IsUtf8-are_ascii (codes "b") refl, refl), tt, tt),
)

-- the same name twice
twice : IsPlain (object
    (member (codes "a") (array no_items) (member (codes "a") (array no_items) no_members))) → ⊥
twice plain = cc
