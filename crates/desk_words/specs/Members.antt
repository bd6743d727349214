-- Which members an operation has, and what they are called.
use Rattle.std.specs.Prelude.{ℕ, Bool, true, false, ◌||◌, List, [], ◌∷◌, Option, Some, None}
use Rattle.std.specs.Prelude.{is_some, if◌then◌else◌, codes}
use Rattle.std.specs.Str.{bytes_eq}
use Rattle.serde_json.specs.Data.{Members, no_members, member}
use Rattle.serde_json.specs.Find.{get_member}
use Rattle.desk_words.specs.declared.fault.Member.{Member}
use Rattle.desk_words.specs.declared.fault.Member.TheVariants.{Op, Clerk, No, Doc, Key, Kind, Date}
use Rattle.desk_words.specs.declared.fault.Member.TheVariants.{Head, Lines, On, Sets, Comment}
use Rattle.desk_words.specs.declared.fault.Member.TheVariants.{Register, Cut, Filter, Group, From}
use Rattle.desk_words.specs.declared.fault.Member.TheVariants.{To, By, Method, Ledger, Account}
use Rattle.desk_words.specs.declared.fault.Member.TheVariants.{Extras}
use Rattle.desk_words.specs.declared.members.Operation.{Operation}
use Rattle.desk_words.specs.declared.members.Operation.TheVariants.{Write, Mark, Manual, Activity}
use Rattle.desk_words.specs.declared.members.Operation.TheVariants.{Close, Sweep, Balance, Post}
use Rattle.desk_words.specs.declared.members.Operation.TheVariants.{PostStanding, Unpost}
use Rattle.desk_words.specs.declared.members.Operation.TheVariants.{Doc as Doc_op, Turnovers, Both}
use Rattle.desk_words.specs.declared.members.Operation.TheVariants.{AccountBalance}
use Rattle.desk_words.specs.declared.members.Operation.TheVariants.{AccountTurnovers, AccountBoth}
use Rattle.desk_words.specs.declared.members.Operation.TheVariants.{DrCr, Documents}

-- the word of a member
abbrev pub member_name : Member → List ℕ
member_name Op = codes "op"
member_name Clerk = codes "clerk"
member_name No = codes "no"
member_name Doc = codes "doc"
member_name Key = codes "key"
member_name Kind = codes "kind"
member_name Date = codes "date"
member_name Head = codes "head"
member_name Lines = codes "lines"
member_name On = codes "on"
member_name Sets = codes "sets"
member_name Comment = codes "comment"
member_name Register = codes "register"
member_name Cut = codes "cut"
member_name Filter = codes "filter"
member_name Group = codes "group"
member_name From = codes "from"
member_name To = codes "to"
member_name By = codes "by"
member_name Method = codes "method"
member_name Ledger = codes "ledger"
member_name Account = codes "account"
member_name Extras = codes "extras"

-- to post content, which has a type, or a document as it stands
abbrev pub post_operation : Bool → Operation
post_operation true = Post
post_operation false = PostStanding

-- the operation of that name, by whether a type is given with it
abbrev pub operation_named : Bool → List ℕ → Option Operation
operation_named has_kind name =
    if bytes_eq name (codes "write") then Some Write
    else (if bytes_eq name (codes "mark") then Some Mark
    else (if bytes_eq name (codes "manual") then Some Manual
    else (if bytes_eq name (codes "activity") then Some Activity
    else (if bytes_eq name (codes "close") then Some Close
    else (if bytes_eq name (codes "sweep") then Some Sweep
    else (if bytes_eq name (codes "balance") then Some Balance
    else (if bytes_eq name (codes "doc") then Some Doc_op
    else (if bytes_eq name (codes "post") then Some (post_operation has_kind)
    else (if bytes_eq name (codes "unpost") then Some Unpost
    else (if bytes_eq name (codes "turnovers") then Some Turnovers
    else (if bytes_eq name (codes "both") then Some Both
    else (if bytes_eq name (codes "account_balance") then Some AccountBalance
    else (if bytes_eq name (codes "account_turnovers") then Some AccountTurnovers
    else (if bytes_eq name (codes "account_both") then Some AccountBoth
    else (if bytes_eq name (codes "dr_cr") then Some DrCr
    else (if bytes_eq name (codes "documents") then Some Documents
    else None))))))))))))))))

-- the members that an operation asks for, in order
abbrev pub required_members : Operation → List Member
required_members Write = Op ∷ Clerk ∷ No ∷ Kind ∷ Date ∷ Head ∷ Lines ∷ []
required_members Mark = Op ∷ Clerk ∷ No ∷ Doc ∷ On ∷ []
required_members Manual = Op ∷ Clerk ∷ No ∷ Date ∷ Sets ∷ []
required_members Activity = Op ∷ Clerk ∷ No ∷ Doc ∷ On ∷ []
required_members Close = Op ∷ Clerk ∷ No ∷ Date ∷ []
required_members Sweep = Op ∷ Clerk ∷ No ∷ Doc ∷ []
required_members Balance = Op ∷ Clerk ∷ Register ∷ []
required_members Doc_op = Op ∷ Clerk ∷ Doc ∷ []
required_members Post = Op ∷ Clerk ∷ No ∷ Kind ∷ Date ∷ Head ∷ Lines ∷ []
required_members PostStanding = Op ∷ Clerk ∷ No ∷ Doc ∷ []
required_members Unpost = Op ∷ Clerk ∷ No ∷ Doc ∷ []
required_members Turnovers = Op ∷ Clerk ∷ Register ∷ []
required_members Both = Op ∷ Clerk ∷ Register ∷ []
required_members AccountBalance = Op ∷ Clerk ∷ Ledger ∷ []
required_members AccountTurnovers = Op ∷ Clerk ∷ Ledger ∷ []
required_members AccountBoth = Op ∷ Clerk ∷ Ledger ∷ []
required_members DrCr = Op ∷ Clerk ∷ Ledger ∷ []
required_members Documents = Op ∷ Clerk ∷ []

-- the members of a document's content, without its type
abbrev pub content_members : List Member
content_members = Key ∷ Date ∷ Head ∷ Lines ∷ Comment ∷ []

-- The members that an operation knows besides. To post a document as it stands knows those of
-- content, so that they are refused as its own.
abbrev pub other_members : Operation → List Member
other_members Write = Doc ∷ Key ∷ Comment ∷ []
other_members Mark = []
other_members Manual = Doc ∷ Key ∷ Comment ∷ []
other_members Activity = []
other_members Close = []
other_members Sweep = []
other_members Balance = Filter ∷ Group ∷ Cut ∷ []
other_members Doc_op = []
other_members Post = Doc ∷ Key ∷ Comment ∷ []
other_members PostStanding = content_members
other_members Unpost = []
other_members Turnovers = Filter ∷ Group ∷ From ∷ To ∷ By ∷ []
other_members Both = Filter ∷ Group ∷ From ∷ To ∷ By ∷ Method ∷ []
other_members AccountBalance = Account ∷ Extras ∷ Cut ∷ []
other_members AccountTurnovers = Account ∷ Extras ∷ From ∷ To ∷ By ∷ []
other_members AccountBoth = Account ∷ Extras ∷ From ∷ To ∷ By ∷ []
other_members DrCr = Account ∷ From ∷ To ∷ []
other_members Documents = From ∷ To ∷ []

-- an object has the member, whatever stands there
abbrev pub has_member : Member → Members → Bool
has_member m object = is_some (get_member (member_name m) object)

-- the first of the members that an object lacks
abbrev pub first_missing : List Member → Members → Option Member
first_missing [] object = None
first_missing (m ∷ ms) object =
    if has_member m object then first_missing ms object else Some m

-- the first of the members that an object has
abbrev pub first_present : List Member → Members → Option Member
first_present [] object = None
first_present (m ∷ ms) object =
    if has_member m object then Some m else first_present ms object

-- one of the members has this name
abbrev pub is_name_of : List Member → List ℕ → Bool
is_name_of [] name = false
is_name_of (m ∷ ms) name = bytes_eq (member_name m) name || is_name_of ms name

-- the names of an object's members
abbrev pub member_names : Members → List (List ℕ)
member_names no_members = []
member_names (member name value more) = name ∷ member_names more

-- The least name in an object that is of none of the members: an object's names stand in order.
abbrev pub first_unknown_member : Operation → Members → Option (List ℕ)
first_unknown_member op no_members = None
first_unknown_member op (member name value more) =
    if is_name_of (required_members op) name || is_name_of (other_members op) name
    then first_unknown_member op more else Some name
