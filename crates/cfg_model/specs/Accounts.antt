-- The chart of accounts that a list of tables holds, or its first fault.
use Rattle.std.specs.Prelude.{ℕ, zero, suc, codes, not, Bool, true, false, List, [], ◌∷◌, ◌++◌}
use Rattle.std.specs.Prelude.{length, fold, Option, Some, None, option_map, option_and_then}
use Rattle.std.specs.Prelude.{is_some, Result, Ok, if◌then◌else◌}
use Rattle.std.specs.Bool.{beq}
use Rattle.std.specs.Cmp.Lexicographic.{slice_cmp}
use Rattle.std.specs.Ordering.{nat_cmp, match_ordering}
use Rattle.std.specs.Str.{bytes_eq}
use Rattle.toml.specs.Data.{Data, Members, get_member, as_table, as_bool}
use Rattle.reg_base.specs.Results.{◌>>=◌, unless, some_or}
use Rattle.cfg_model.specs.declared.account.Account.{Account}
use Rattle.cfg_model.specs.declared.fault.CfgFault.{CfgFault}
use Rattle.cfg_model.specs.declared.fault.CfgFault.TheVariants.{Field, Twice, Unknown}
use Rattle.cfg_model.specs.Words.{is_one_of, first_unknown_key, key_path, account_keys}
use Rattle.cfg_model.specs.Elements.{toml_name, toml_code, toml_account_name, toml_nature}
use Rattle.cfg_model.specs.Walk.{at_most, distinct, of_shape, shape_or, toml_list, toml_text}
use Rattle.cfg_model.specs.Walk.{toml_texts}
use Rattle.cfg_model.specs.Places.{account_at}
use Rattle.cfg_model.specs.Limits.{account_limit, extra_limit}

-- what comes next, where there is something so far
abbrev then_some : {X Y : Type 0} → Option X → (X → Option Y) → Option Y
then_some found next = option_and_then next found

-- the code of a parent
abbrev pub parent_code : Data → Option (Option (List ℕ))
parent_code d = option_map Some (toml_text toml_code d)

-- an account whose table has these keys: the code, the name and the kind are there, the others
-- may be absent, and each is of its shape
unfoldable pub toml_account_keys : Members → Option Account
toml_account_keys keys =
    then_some (of_shape (toml_text toml_code) (codes "code") keys) (λ code.
    then_some (of_shape (toml_text toml_account_name) (codes "name") keys) (λ name.
    then_some (of_shape (toml_text toml_nature) (codes "kind") keys) (λ nature.
    then_some (shape_or as_bool false (get_member (codes "off") keys)) (λ off.
    then_some (shape_or parent_code None (get_member (codes "parent") keys)) (λ parent.
    then_some (shape_or (toml_texts toml_name) [] (get_member (codes "extras") keys)) (λ extras.
    Some (record {
      code = code;
      name = name;
      nature = nature;
      off = off;
      parent = parent;
      extras = extras;
    })))))))

-- an account: a table with no other key than those of accounts
unfoldable pub toml_account : Data → Option Account
toml_account d = then_some (as_table d) (λ keys.
    if is_some (first_unknown_key account_keys keys) then None else toml_account_keys keys)

-- a check of each account in turn, the first fault being the answer
unfoldable pub each_checked : (Account → Result (Unit {0}) CfgFault) → List Account
    → Result (Unit {0}) CfgFault
each_checked check [] = Ok tt
each_checked check (a ∷ more) = do
  _ ← check a
  each_checked check more

-- an account has no more extras than their limit
abbrev pub few_extras : List ℕ → Account → Result (Unit {0}) CfgFault
few_extras path a = at_most extra_limit path (length a.extras)

-- no account has a code that stands before it, nor an extra twice
unfoldable pub each_once : List (List ℕ) → List Account → Result (Unit {0}) CfgFault
each_once seen [] = Ok tt
each_once seen (a ∷ more) = do
  _ ← unless (not (is_one_of seen a.code)) (Twice a.code)
  _ ← distinct (λ name. name) (λ name. false) a.extras
  each_once (seen ++ a.code ∷ []) more

-- a parent, where there is one, is an account
unfoldable pub parent_known : List Account → Option (List ℕ) → Result (Unit {0}) CfgFault
parent_known accounts None = Ok tt
parent_known accounts (Some parent) = unless (is_some (account_at parent accounts)) (Unknown parent)

-- the parent of an account is an account
abbrev pub has_known_parent : List Account → Account → Result (Unit {0}) CfgFault
has_known_parent accounts a = parent_known accounts a.parent

-- the code of the parent, where the account of this code has one
abbrev pub parent_of : List Account → List ℕ → Option (List ℕ)
parent_of accounts code = option_and_then (λ a. a.parent) (account_at code accounts)

-- whether so many steps from this parent to the next one come to the account
unfoldable pub leads_to : ℕ → List Account → List ℕ → Option (List ℕ) → Bool
leads_to zero accounts code parent = false
leads_to (suc steps) accounts code None = false
leads_to (suc steps) accounts code (Some parent) =
    if bytes_eq parent code then true
    else leads_to steps accounts code (parent_of accounts parent)

-- the parents of an account do not lead back to it: a way back is no longer than the chart
abbrev pub not_circular : List Account → Account → Result (Unit {0}) CfgFault
not_circular accounts a =
    unless (not (leads_to (length accounts) accounts a.code a.parent)) (Twice a.code)

-- whether an account is off-balance as its parent is
unfoldable pub agrees_in_off : List Account → Bool → Option (List ℕ) → Bool
agrees_in_off accounts off None = true
agrees_in_off accounts off (Some parent) = is_off (account_at parent accounts)
  where
    is_off : Option Account → Bool
    is_off None = false
    is_off (Some a) = beq a.off off

-- an account is off-balance exactly where its parent is
abbrev pub has_parents_off : List ℕ → List Account → Account → Result (Unit {0}) CfgFault
has_parents_off path accounts a = unless (agrees_in_off accounts a.off a.parent) (Field path)

-- an account put at its place by its code
abbrev pub put_account : Account → List Account → List Account
put_account a [] = a ∷ []
put_account a (b ∷ more) = match_ordering (slice_cmp nat_cmp a.code b.code)
    (a ∷ b ∷ more) (a ∷ more) (b ∷ put_account a more)

-- the accounts in byte order of their codes
abbrev pub by_code : List Account → List Account
by_code accounts = fold (λ sorted a. put_account a sorted) [] accounts

-- parents are accounts, do not lead back, and agree in `off`
unfoldable pub check_parents : List ℕ → List Account → Result (Unit {0}) CfgFault
check_parents path accounts = do
  _ ← each_checked (has_known_parent accounts) accounts
  _ ← each_checked (not_circular accounts) accounts
  each_checked (has_parents_off path accounts) accounts

-- no account has too many extras, none stands twice, and parents are as they have to be
unfoldable pub check_accounts : List ℕ → List Account → Result (Unit {0}) CfgFault
check_accounts path accounts = do
  _ ← each_checked (few_extras path) accounts
  _ ← each_once [] accounts
  check_parents path accounts

-- the accounts of a ledger: the right shape, then not too many nor too many extras, then none
-- twice, then parents that are accounts, that do not lead back, and that agree in `off`
unfoldable pub read_accounts : List ℕ → Members → Result (List Account) CfgFault
read_accounts name keys = do
  let path = key_path (codes "ledger") name (codes "accounts")
  accounts ← some_or (of_shape (toml_list toml_account) (codes "accounts") keys) (Field path)
  _ ← at_most account_limit path (length accounts)
  _ ← check_accounts path accounts
  Ok (by_code accounts)
