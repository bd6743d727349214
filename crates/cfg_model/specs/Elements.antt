-- What the texts in a configuration spell: dimensions, resources, fields, names, rights, codes.
use Rattle.std.specs.Prelude.{ℕ, codes, ◌-◌, ◌==◌, ◌&&◌, nat_le, nat_lt, true, false, List, [], ◌∷◌}
use Rattle.std.specs.Prelude.{length, Bool, Option, Some, None, option_map, option_and_then}
use Rattle.std.specs.Prelude.{if◌then◌else◌}
use Rattle.std.specs.List.{position_or_len, before_first, after_first, list_all}
use Rattle.std.specs.Str.{bytes_eq}
use Rattle.reg_base.specs.Codes.{is_name, is_code}
use Rattle.cfg_model.specs.declared.register.Dimension.{Dimension}
use Rattle.cfg_model.specs.declared.register.Resource.{Resource}
use Rattle.cfg_model.specs.declared.kind.Field.{Field}
use Rattle.cfg_model.specs.declared.account.Nature.{Nature}
use Rattle.cfg_model.specs.declared.account.Nature.TheVariants.{Active, Passive, Both}
use Rattle.reg_base.specs.declared.right.Right.{Right}
use Rattle.reg_base.specs.declared.right.Right.TheVariants.{Write, Post, Manual, Read, Lock, Admin}

-- what stands before and after the first colon, whose byte is 58
abbrev pub at_colon : List ℕ → Option (List ℕ × List ℕ)
at_colon text =
    if nat_lt (position_or_len (λ b. b == 58) text) (length text)
    then Some (before_first (λ b. b == 58) text, after_first (λ b. b == 58) text)
    else None

-- the name, where the text is one
abbrev pub toml_name : List ℕ → Option (List ℕ)
toml_name text = if is_name text then Some text else None

-- the code, where the text is one
abbrev pub toml_code : List ℕ → Option (List ℕ)
toml_code text = if is_code text then Some text else None

-- whether a dimension's word is that of lots or that of codes
unfoldable pub toml_lot : List ℕ → Option Bool
toml_lot word =
    if bytes_eq word (codes "code") then Some false
    else if bytes_eq word (codes "lot") then Some true
    else None

-- a dimension is spelled as its name, a colon, and `code` or `lot`
unfoldable pub toml_dimension : List ℕ → Option Dimension
toml_dimension text =
    option_and_then (λ parts.
    option_and_then (λ name.
    option_map (λ lot. record { name = name; lot = lot }) (toml_lot parts.1))
    (toml_name parts.0))
    (at_colon text)

-- a scale is spelled as one digit from 0 to 6
unfoldable pub toml_scale : List ℕ → Option ℕ
toml_scale (digit ∷ []) = if nat_le 48 digit && nat_le digit 54 then Some (digit - 48) else None
toml_scale _ = None

-- a resource is spelled as its name, a colon and its scale
unfoldable pub toml_resource : List ℕ → Option Resource
toml_resource text =
    option_and_then (λ parts.
    option_and_then (λ name.
    option_map (λ scale. record { name = name; scale = scale }) (toml_scale parts.1))
    (toml_name parts.0))
    (at_colon text)

-- what a field holds: a code, which has no scale, or a number of the scale that is spelled
unfoldable pub toml_field_scale : List ℕ → Option (Option ℕ)
toml_field_scale word =
    if bytes_eq word (codes "code") then Some None else option_map Some (toml_scale word)

-- a field is spelled as its name, a colon, and `code` or its scale
unfoldable pub toml_field : List ℕ → Option Field
toml_field text =
    option_and_then (λ parts.
    option_and_then (λ name.
    option_map (λ scale. record { name = name; scale = scale }) (toml_field_scale parts.1))
    (toml_name parts.0))
    (at_colon text)

-- a byte that is printed: from the space to the tilde
abbrev pub is_printable : ℕ → Bool
is_printable b = nat_le 32 b && nat_le b 126

-- the name of an account is 1 to 32 such bytes
unfoldable pub toml_account_name : List ℕ → Option (List ℕ)
toml_account_name text =
    if nat_le 1 (length text) && (nat_le (length text) 32 && list_all is_printable text)
    then Some text else None

-- the side on which an account shows its net
unfoldable pub toml_nature : List ℕ → Option Nature
toml_nature word =
    if bytes_eq word (codes "active") then Some Active
    else if bytes_eq word (codes "passive") then Some Passive
    else if bytes_eq word (codes "both") then Some Both
    else None

-- the right that a word names
unfoldable pub toml_right : List ℕ → Option Right
toml_right text =
    if bytes_eq text (codes "write") then Some Write
    else if bytes_eq text (codes "post") then Some Post
    else if bytes_eq text (codes "manual") then Some Manual
    else if bytes_eq text (codes "read") then Some Read
    else if bytes_eq text (codes "lock") then Some Lock
    else if bytes_eq text (codes "admin") then Some Admin
    else None
