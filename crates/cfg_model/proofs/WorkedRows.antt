-- The definitions computed on small files, from the table that the reader of TOML gives of each.
use Rattle.std.proofs.Common.{◌≡◌, ℕ, Bool, List, [], ◌∷◌, Option, Some, None, codes, true, false}
use Rattle.std.proofs.Common.{Ok, Err, pos, negsuc, refl}
use Rattle.toml.specs.Data.{Data, string, integer, boolean, array, table, Items, no_items, item}
use Rattle.toml.specs.Data.{Members, no_members, member}
use Rattle.reg_base.specs.Codes.{is_name, is_code}
use Rattle.reg_base.specs.Numbers.{number_text}
use Rattle.reg_base.specs.declared.records.Side.{Side}
use Rattle.cfg_model.specs.declared.ledger.Chart.{Chart}
use Rattle.cfg_model.specs.declared.register.Register.{Register}
use Rattle.cfg_model.specs.declared.kind.Kind.{Kind}
use Rattle.cfg_model.specs.declared.account.Account.{Account}
use Rattle.cfg_model.specs.declared.account.Nature.TheVariants.{Active}
use Rattle.reg_base.specs.declared.right.Right.TheVariants.{Manual, Read}
use Rattle.cfg_model.specs.declared.fault.CfgFault.TheVariants.{NotToml, Field, Twice, Unknown}
use Rattle.cfg_model.specs.declared.fault.CfgFault.TheVariants.{Count}
use Rattle.reg_base.specs.declared.fault.EntryFault.TheVariants.{UnknownAccount, GroupAccount}
use Rattle.reg_base.specs.declared.fault.EntryFault.TheVariants.{ExtraCount, Sides}
use Rattle.cfg_model.specs.Elements.{toml_dimension, toml_lot, toml_scale, toml_resource}
use Rattle.cfg_model.specs.Elements.{toml_field}
use Rattle.cfg_model.specs.Elements.{toml_field_scale, toml_account_name, toml_nature, toml_right}
use Rattle.reg_base.specs.Rights.{right_word}
use Rattle.cfg_model.specs.FaultTexts.{config_fault_text}
use Rattle.cfg_model.specs.Walk.{group_entries, each_entry, read_group, entry_keys, all_known}
use Rattle.cfg_model.specs.Registers.{read_register, keeps_balances, read_balance, read_dimensions}
use Rattle.cfg_model.specs.Registers.{read_resources, read_split}
use Rattle.cfg_model.specs.Ledgers.{read_ledger, read_scale, scale_number}
use Rattle.cfg_model.specs.Accounts.{check_accounts, check_parents}
use Rattle.cfg_model.specs.Accounts.{read_accounts, toml_account, toml_account_keys, each_checked}
use Rattle.cfg_model.specs.Accounts.{each_once, parent_known, leads_to, agrees_in_off}
use Rattle.cfg_model.specs.Kinds.{read_kind, read_fields}
use Rattle.cfg_model.specs.Sequences.{read_sequence, sequence_of, read_names, read_some_names}
use Rattle.cfg_model.specs.Sequences.{read_documents, read_affecting, all_shared}
use Rattle.cfg_model.specs.Clerks.{read_clerk, read_rights}
use Rattle.cfg_model.specs.Places.{account_at}
use Rattle.cfg_model.specs.Entries.{entry_check}
use Rattle.cfg_model.specs.Reading.{config_of}

-- a list of texts
abbrev texts_of : List (List ℕ) → Data
texts_of words = array (items words)
  where
    items : List (List ℕ) → Items
    items [] = no_items
    items (text ∷ more) = item (string text) (items more)

-- a table of one key
abbrev one : List ℕ → Data → Members
one key d = member key d no_members

-- a group of one entry
abbrev group_of : List ℕ → Members → Data
group_of name keys = table (one name (table keys))

-- a register of the kind `balance` with these dimensions and resources
abbrev balances : List (List ℕ) → List (List ℕ) → Members
balances ds rs =
    member (codes "dimensions") (texts_of ds)
    (member (codes "kind") (string (codes "balance")) (one (codes "resources") (texts_of rs)))

-- a register of goods in a warehouse
abbrev goods : Members
goods = balances (codes "place:code" ∷ codes "batch:lot" ∷ []) (codes "quantity:3" ∷ [])

-- an account of this code, with more keys behind the three that have to be there
abbrev account : List ℕ → Members → Data
account code more =
    table (member (codes "code") (string code) (member (codes "kind") (string (codes "active"))
    (member (codes "name") (string (codes "Goods")) more)))

-- an account of this code with this parent
abbrev part_of : List ℕ → List ℕ → Data
part_of code parent = account code (one (codes "parent") (string parent))

-- the keys of a ledger with these accounts
abbrev accounts : Items → Members
accounts list = member (codes "accounts") (array list) (one (codes "scale") (integer (pos 2)))

-- a document type with one code field in its head
abbrev receipt : Members
receipt =
    member (codes "head") (texts_of (codes "place:code" ∷ []))
    (member (codes "lines") (texts_of (codes "quantity:3" ∷ []))
    (one (codes "rules") (string (codes "x"))))

-- a sequence of those documents over these registers and dimensions
abbrev batches : List (List ℕ) → List (List ℕ) → Members
batches registers ds =
    member (codes "dimensions") (texts_of ds)
    (member (codes "documents") (texts_of (codes "receipt" ∷ []))
    (one (codes "registers") (texts_of registers)))

-- a clerk with these rights
abbrev with_rights : List (List ℕ) → Members
with_rights words = one (codes "rights") (texts_of words)

-- a file of these entries, one in each group
abbrev file : Members → Members → Members → Members → Members → Members
file register ledger kind sequence clerk =
    member (codes "clerk") (group_of (codes "anna") clerk)
    (member (codes "document") (group_of (codes "receipt") kind)
    (member (codes "ledger") (group_of (codes "main") ledger)
    (member (codes "register") (group_of (codes "goods") register)
    (one (codes "sequence") (group_of (codes "batches") sequence)))))

-- two accounts, given in no order of codes
abbrev two_accounts : Items
two_accounts =
    item (part_of (codes "101") (codes "10")) (item (account (codes "10") no_members) no_items)

-- a file with no group is the empty configuration
nothing : config_of no_members
    ≡ Ok (record { registers = []; ledgers = []; kinds = []; sequences = []; clerks = [] })
unfolding config_of read_group group_entries each_entry
nothing = refl

-- the account that such a table holds
abbrev goods_account : List ℕ → Option (List ℕ) → List (List ℕ) → Account
goods_account code parent extras = record {
  code = code;
  name = codes "Goods";
  nature = Active;
  off = false;
  parent = parent;
  extras = extras;
}

-- a file with an entry in each group: the accounts come in byte order of codes
accepted : config_of (file goods (accounts two_accounts) receipt
    (batches (codes "goods" ∷ []) (codes "place" ∷ []))
    (with_rights (codes "read" ∷ codes "manual" ∷ [])))
    ≡ Ok (record {
      registers = record {
        name = codes "goods";
        balance = true;
        dimensions =
            record { name = codes "place"; lot = false }
            ∷ record { name = codes "batch"; lot = true } ∷ [];
        resources = record { name = codes "quantity"; scale = 3 } ∷ [];
        split = false;
      } ∷ [];
      ledgers = record {
        name = codes "main";
        scale = 2;
        split = false;
        accounts =
            goods_account (codes "10") None [] ∷ goods_account (codes "101") (Some (codes "10")) []
            ∷ [];
      } ∷ [];
      kinds = record {
        name = codes "receipt";
        head = record { name = codes "place"; scale = None } ∷ [];
        lines = record { name = codes "quantity"; scale = Some 3 } ∷ [];
        rules = codes "x";
      } ∷ [];
      sequences = record {
        name = codes "batches";
        kinds = codes "receipt" ∷ [];
        registers = codes "goods" ∷ [];
        dimensions = codes "place" ∷ [];
      } ∷ [];
      clerks = record { name = codes "anna"; rights = Read ∷ Manual ∷ [] } ∷ [];
    })
unfolding config_of read_group group_entries each_entry entry_keys all_known is_name is_code
    read_register read_balance keeps_balances read_dimensions toml_dimension toml_lot read_resources
    toml_resource toml_scale read_split read_ledger read_scale scale_number read_accounts
    check_accounts check_parents toml_account
    toml_account_keys toml_account_name toml_nature each_checked each_once parent_known leads_to
    agrees_in_off account_at read_kind read_fields toml_field toml_field_scale read_sequence
    sequence_of read_names read_some_names read_documents read_affecting all_shared read_clerk
    read_rights toml_right right_word
accepted = refl

-- a key of the top level that is none
unknown : config_of (one (codes "x") (integer (pos 1))) ≡ Err (Unknown (codes "x"))
unfolding config_of
unknown = refl

-- a register whose name is none is told before a group that is no table, which comes later
wrong_name : config_of (member (codes "ledger") (integer (pos 1))
    (one (codes "register") (group_of (codes "Goods") goods)))
    ≡ Err (Field (codes "register.Goods"))
unfolding config_of read_group group_entries each_entry entry_keys is_name read_register
wrong_name = refl

-- and that group is told where all registers are right
wrong_group : config_of (member (codes "ledger") (integer (pos 1))
    (one (codes "register") (table no_members)))
    ≡ Err (Field (codes "ledger"))
unfolding config_of read_group group_entries each_entry
wrong_group = refl

-- a register may not have a reserved name, which is told before an unknown key
reserved : read_register (codes "batch") (table (one (codes "x") (integer (pos 1))))
    ≡ Err (Twice (codes "batch"))
unfolding read_register entry_keys is_name
reserved = refl

-- a clerk has a right that is none
wrong_right : read_clerk (codes "anna") (table (with_rights (codes "walk" ∷ [])))
    ≡ Err (Field (codes "clerk.anna.rights"))
unfolding read_clerk read_rights entry_keys is_name toml_right
wrong_right = refl

-- a second dimension of lots
second_lot : read_dimensions (codes "goods")
    (one (codes "dimensions") (texts_of (codes "a:lot" ∷ codes "b:code" ∷ codes "c:lot" ∷ [])))
    ≡ Err (Twice (codes "c"))
unfolding read_dimensions toml_dimension toml_lot is_name
second_lot = refl

-- nine dimensions are too many before one of them stands twice
too_many : read_dimensions (codes "goods") (one (codes "dimensions") (texts_of (
    codes "a:code" ∷ codes "b:code" ∷ codes "c:code" ∷ codes "d:code" ∷ codes "e:code"
    ∷ codes "f:code" ∷ codes "g:code" ∷ codes "h:code" ∷ codes "a:code" ∷ [])))
    ≡ Err (Count (codes "register.goods.dimensions") 9)
unfolding read_dimensions toml_dimension toml_lot is_name
too_many = refl

-- the scales 7 and -1 are none
scale_seven : read_scale (codes "main") (one (codes "scale") (integer (pos 7)))
    ≡ Err (Field (codes "ledger.main.scale"))
unfolding read_scale scale_number
scale_seven = refl

scale_negative : read_scale (codes "main") (one (codes "scale") (integer (negsuc 0)))
    ≡ Err (Field (codes "ledger.main.scale"))
unfolding read_scale scale_number
scale_negative = refl

-- an account with an unknown key has a wrong shape
wrong_account : read_accounts (codes "main")
    (accounts (item (account (codes "10") (one (codes "x") (integer (pos 1)))) no_items))
    ≡ Err (Field (codes "ledger.main.accounts"))
unfolding read_accounts check_accounts check_parents toml_account toml_account_keys
wrong_account = refl

-- four extras are too many before one of them stands twice
four_extras : read_accounts (codes "main") (accounts (item (account (codes "10")
    (one (codes "extras") (texts_of (codes "a" ∷ codes "b" ∷ codes "c" ∷ codes "a" ∷ []))))
    no_items))
    ≡ Err (Count (codes "ledger.main.accounts") 4)
unfolding read_accounts check_accounts check_parents toml_account toml_account_keys
    toml_account_name toml_nature is_name is_code
    each_checked
four_extras = refl

-- a code stands twice, which is told before a parent that is none
code_twice : read_accounts (codes "main")
    (accounts (item (part_of (codes "10") (codes "9"))
    (item (account (codes "10") no_members) no_items)))
    ≡ Err (Twice (codes "10"))
unfolding read_accounts check_accounts check_parents toml_account toml_account_keys
    toml_account_name toml_nature is_code
    each_checked each_once
code_twice = refl

-- a parent that is none is told before parents that lead back
unknown_parent : read_accounts (codes "main")
    (accounts (item (part_of (codes "1") (codes "1"))
    (item (part_of (codes "2") (codes "9")) no_items)))
    ≡ Err (Unknown (codes "9"))
unfolding read_accounts check_accounts check_parents toml_account toml_account_keys
    toml_account_name toml_nature is_code
    each_checked each_once parent_known account_at
unknown_parent = refl

-- of three accounts whose parents lead into a circle, the first that stands on it is told
leads_back : read_accounts (codes "main")
    (accounts (item (part_of (codes "3") (codes "1")) (item (part_of (codes "1") (codes "2"))
    (item (part_of (codes "2") (codes "1")) no_items))))
    ≡ Err (Twice (codes "1"))
unfolding read_accounts check_accounts check_parents toml_account toml_account_keys
    toml_account_name toml_nature is_code
    each_checked each_once parent_known account_at leads_to
leads_back = refl

-- an account that is off-balance under one that is not
off_differs : read_accounts (codes "main") (accounts (item (account (codes "1") no_members)
    (item (account (codes "2") (member (codes "off") (boolean true)
    (one (codes "parent") (string (codes "1"))))) no_items)))
    ≡ Err (Field (codes "ledger.main.accounts"))
unfolding read_accounts check_accounts check_parents toml_account toml_account_keys
    toml_account_name toml_nature is_code
    each_checked each_once parent_known account_at leads_to agrees_in_off
off_differs = refl

-- a ledger may not have the name of a register
taken_name : read_ledger (record {
  name = codes "main";
  balance = true;
  dimensions = [];
  resources = [];
  split = false;
} ∷ []) (codes "main") (table no_members) ≡ Err (Twice (codes "main"))
unfolding read_ledger entry_keys is_name
taken_name = refl

-- the registers and the document types of the rows on sequences
abbrev turns : List ℕ → Bool → Register
turns name balance = record {
  name = name;
  balance = balance;
  dimensions =
      record { name = codes "place"; lot = false }
      ∷ record { name = codes "batch"; lot = true } ∷ [];
  resources = [];
  split = false;
}

abbrev shop : List Register
shop = turns (codes "goods") true ∷ turns (codes "sales") false ∷ []

abbrev papers : List Kind
papers = record {
  name = codes "receipt";
  head =
      record { name = codes "place"; scale = None }
      ∷ record { name = codes "batch"; scale = None } ∷ [];
  lines = [];
  rules = [];
} ∷ []

-- a register of turnovers, told behind a register that is none
turnovers : read_sequence shop papers (codes "q") (table (batches (codes "sales" ∷ []) []))
    ≡ Err (Field (codes "sequence.q.registers"))
unfolding read_sequence sequence_of entry_keys is_name read_documents read_affecting
    read_some_names all_known
turnovers = refl

no_register : read_sequence shop papers (codes "q")
    (table (batches (codes "sales" ∷ codes "x" ∷ []) []))
    ≡ Err (Unknown (codes "x"))
unfolding read_sequence sequence_of entry_keys is_name read_documents read_affecting
    read_some_names all_known
no_register = refl

-- a dimension of lots is none that a sequence could have
lot_of_goods : read_sequence shop papers (codes "q")
    (table (batches (codes "goods" ∷ []) (codes "place" ∷ codes "batch" ∷ [])))
    ≡ Err (Unknown (codes "batch"))
unfolding read_sequence sequence_of entry_keys is_name read_documents read_affecting
    read_some_names read_names all_shared all_known
lot_of_goods = refl

-- the text of each fault
not_toml_text : config_fault_text NotToml ≡ codes "1 NotToml"
unfolding config_fault_text
not_toml_text = refl

field_text :
    config_fault_text (Field (codes "register.stock.kind")) ≡ codes "2 Field register.stock.kind"
unfolding config_fault_text
field_text = refl

twice_text : config_fault_text (Twice (codes "101")) ≡ codes "3 Twice 101"
unfolding config_fault_text
twice_text = refl

unknown_text : config_fault_text (Unknown (codes "x")) ≡ codes "4 Unknown x"
unfolding config_fault_text
unknown_text = refl

count_of_33 : config_fault_text (Count (codes "register") 33) ≡ codes "5 Count register 33"
unfolding config_fault_text number_text
count_of_33 = refl

count_of_513 : config_fault_text (Count (codes "ledger.main.accounts") 513)
    ≡ codes "5 Count ledger.main.accounts 513"
unfolding config_fault_text number_text
count_of_513 = refl

-- the same account, off-balance
abbrev leased : Account → Account
leased a = record a { off = true }

-- a chart: what is leased, goods with a part, and suppliers
abbrev chart : Chart
chart = record {
  name = codes "main";
  scale = 2;
  split = false;
  accounts =
      leased (goods_account (codes "001") None [])
      ∷ goods_account (codes "10") None []
      ∷ goods_account (codes "101") (Some (codes "10")) (codes "item" ∷ [])
      ∷ goods_account (codes "60") None []
      ∷ [];
}

-- a side without extras
abbrev side : List ℕ → Option Side
side code = Some (record { account = code; extras = [] })

accepted_entry : entry_check chart
    (Some (record { account = codes "101"; extras = codes "nail" ∷ [] })) (side (codes "60"))
    ≡ Ok tt
unfolding entry_check account_at
accepted_entry = refl

-- an unknown credit is told before a debit that is a group
unknown_account : entry_check chart (side (codes "10")) (side (codes "7")) ≡ Err UnknownAccount
unfolding entry_check account_at
unknown_account = refl

-- a group on either side is told before extras that are missing
group_account : entry_check chart (side (codes "101")) (side (codes "10")) ≡ Err GroupAccount
unfolding entry_check account_at
group_account = refl

extra_count : entry_check chart (side (codes "101")) (side (codes "60")) ≡ Err ExtraCount
unfolding entry_check account_at
extra_count = refl

-- one account of two is off-balance; one alone is accepted only where it is off-balance
one_off : entry_check chart (side (codes "001")) (side (codes "60")) ≡ Err Sides
unfolding entry_check account_at
one_off = refl

leased_alone : entry_check chart None (side (codes "001")) ≡ Ok tt
unfolding entry_check account_at
leased_alone = refl

suppliers_alone : entry_check chart None (side (codes "60")) ≡ Err Sides
unfolding entry_check account_at
suppliers_alone = refl
