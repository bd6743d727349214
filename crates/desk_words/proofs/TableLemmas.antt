-- A request for a table that a line is read as is well formed.
use Rattle.std.proofs.Common.{Option, IfOk, refl}
use Rattle.serde_json.specs.Data.{Data, Members}
use Rattle.reg_base.specs.Cuts.{IsCut}
use Rattle.reg_base.specs.Results.{◌>>=◌}
use Rattle.reg_base.proofs.ForAbove.{IfOk-then, IfOk-next}
use Rattle.desk_words.specs.declared.fault.Member.{Member}
use Rattle.desk_words.specs.declared.fault.Member.TheVariants.{Clerk, Register, Cut, Filter, Group}
use Rattle.desk_words.specs.declared.fault.Member.TheVariants.{From, To, By, Method, Ledger}
use Rattle.desk_words.specs.declared.fault.Member.TheVariants.{Account, Extras}
use Rattle.desk_words.specs.Shapes.{OrFault, required_at, optional_at, json_name, json_code}
use Rattle.desk_words.specs.Shapes.{json_names, json_date, json_date_end, json_cut, json_boolean}
use Rattle.desk_words.specs.TableShapes.{json_filters, json_by, json_account_by, json_method}
use Rattle.desk_words.specs.ReadTables.{asked_register, asked_accounts, asked_dates}
use Rattle.desk_words.specs.ReadTables.{balance_request, turnovers_request, both_request}
use Rattle.desk_words.specs.ReadTables.{account_balance_request, account_turnovers_request}
use Rattle.desk_words.specs.ReadTables.{dr_cr_request, documents_question}
use Rattle.desk_words.specs.WellFormedParts.{IsName, IsCode, IsDate}
use Rattle.desk_words.specs.WellFormedTables.{AreFilters, AreNames, IsAskedRegister}
use Rattle.desk_words.specs.WellFormedTables.{IsAskedAccounts, IsAskedDates, IsAccountBy}
use Rattle.desk_words.specs.WellFormedTables.{IsBalanceRequest, IsTurnovers, IsBoth}
use Rattle.desk_words.specs.WellFormedTables.{IsAccountBalance, IsAccountTurnovers, IsDrCr}
use Rattle.desk_words.specs.WellFormedTables.{IsDocumentsQuestion}
use Rattle.desk_words.proofs.ReadValues.{IsRead, AreRead, IsIf, required_at-Is, optional_at-Is}
use Rattle.desk_words.proofs.ShapeLemmas.{json_name-IsName, json_code-IsCode, json_names-Are}
use Rattle.desk_words.proofs.ShapeLemmas.{json_filters-Are, json_date-IsDate, json_date_end-IsDate}
use Rattle.desk_words.proofs.ShapeLemmas.{json_cut-IsCut, json_account_by-Is}

-- ---- how each member is read

-- a member that is asked for, whose shape gives what has P, and then what has Q
pub asked : {X Y : Type 0} (P : X → Type 0) (Q : Y → Type 0) (shape : Member → Data → OrFault X)
    → ((m : Member) (d : Data) → IsRead d → IfOk (shape m d) P)
    → (m : Member) (object : Members) → AreRead object → (next : X → OrFault Y)
    → ((x : X) → P x → IfOk (next x) Q) → IfOk (required_at shape m object >>= next) Q
asked P Q shape is m object h next then_is =
    IfOk-then P Q (required_at shape m object) next (required_at-Is P shape is m object h) then_is

-- the same of a member that may be absent
pub allowed : {X Y : Type 0} (P : X → Type 0) (Q : Y → Type 0) (shape : Member → Data → OrFault X)
    → ((m : Member) (d : Data) → IsRead d → IfOk (shape m d) P)
    → (m : Member) (object : Members) → AreRead object → (next : Option X → OrFault Y)
    → ((o : Option X) → IsIf P o → IfOk (next o) Q) → IfOk (optional_at shape m object >>= next) Q
allowed P Q shape is m object h next then_is =
    IfOk-then (IsIf P) Q (optional_at shape m object) next
    (optional_at-Is P shape is m object h) then_is

-- ---- what tables share

asked_register-Is : (object : Members) → AreRead object
    → IfOk (asked_register object) IsAskedRegister
unfolding asked_register
asked_register-Is object h =
    asked IsName IsAskedRegister json_name json_name-IsName Register object h _ (λ name n.
    allowed AreFilters IsAskedRegister json_filters json_filters-Are Filter object h _ (λ filter f.
    allowed AreNames IsAskedRegister json_names json_names-Are Group object h _ (λ group g. record {
      name = n;
      filter = f;
      group = g;
    })))

asked_accounts-Is : (object : Members) → AreRead object
    → IfOk (asked_accounts object) IsAskedAccounts
unfolding asked_accounts
asked_accounts-Is object h =
    asked IsName IsAskedAccounts json_name json_name-IsName Ledger object h _ (λ ledger l.
    allowed IsCode IsAskedAccounts json_code json_code-IsCode Account object h _ (λ account a.
    IfOk-next IsAskedAccounts (optional_at json_boolean Extras object) _ (λ extras. record {
      ledger = l;
      account = a;
    })))

asked_dates-Is : (object : Members) → AreRead object → IfOk (asked_dates object) IsAskedDates
unfolding asked_dates
asked_dates-Is object h =
    allowed IsDate IsAskedDates json_date json_date-IsDate From object h _ (λ first f.
    allowed IsDate IsAskedDates json_date_end json_date_end-IsDate To object h _ (λ last l.
    record {
      first = f;
      last = l;
    }))

-- ---- requests

pub balance_request-Is : (object : Members) → AreRead object
    → IfOk (balance_request object) IsBalanceRequest
unfolding balance_request
balance_request-Is object h =
    asked IsName IsBalanceRequest json_name json_name-IsName Clerk object h _ (λ clerk c.
    IfOk-then IsAskedRegister IsBalanceRequest (asked_register object) _
    (asked_register-Is object h) (λ register r.
    allowed IsCut IsBalanceRequest json_cut json_cut-IsCut Cut object h _ (λ cut u. record {
      clerk = c;
      register = r;
      cut = u;
      no_tx = refl;
    })))

pub turnovers_request-Is : (object : Members) → AreRead object
    → IfOk (turnovers_request object) IsTurnovers
unfolding turnovers_request
turnovers_request-Is object h =
    asked IsName IsTurnovers json_name json_name-IsName Clerk object h _ (λ clerk c.
    IfOk-then IsAskedRegister IsTurnovers (asked_register object) _
    (asked_register-Is object h) (λ register r.
    IfOk-then IsAskedDates IsTurnovers (asked_dates object) _ (asked_dates-Is object h)
    (λ dates d.
    IfOk-next IsTurnovers (optional_at json_by By object) _ (λ by. record {
      clerk = c;
      register = r;
      dates = d;
      no_tx = refl;
    }))))

pub both_request-Is : (object : Members) → AreRead object → IfOk (both_request object) IsBoth
unfolding both_request
both_request-Is object h =
    IfOk-then IsTurnovers IsBoth (turnovers_request object) _ (turnovers_request-Is object h)
    (λ turnovers t.
    IfOk-next IsBoth (optional_at json_method Method object) _ (λ method. t))

pub account_balance_request-Is : (object : Members) → AreRead object
    → IfOk (account_balance_request object) IsAccountBalance
unfolding account_balance_request
account_balance_request-Is object h =
    asked IsName IsAccountBalance json_name json_name-IsName Clerk object h _ (λ clerk c.
    IfOk-then IsAskedAccounts IsAccountBalance (asked_accounts object) _
    (asked_accounts-Is object h) (λ accounts a.
    allowed IsCut IsAccountBalance json_cut json_cut-IsCut Cut object h _ (λ cut u. record {
      clerk = c;
      accounts = a;
      cut = u;
      no_tx = refl;
    })))

pub account_turnovers_request-Is : (object : Members) → AreRead object
    → IfOk (account_turnovers_request object) IsAccountTurnovers
unfolding account_turnovers_request
account_turnovers_request-Is object h =
    asked IsName IsAccountTurnovers json_name json_name-IsName Clerk object h _ (λ clerk c.
    IfOk-then IsAskedAccounts IsAccountTurnovers (asked_accounts object) _
    (asked_accounts-Is object h) (λ accounts a.
    IfOk-then IsAskedDates IsAccountTurnovers (asked_dates object) _ (asked_dates-Is object h)
    (λ dates d.
    allowed IsAccountBy IsAccountTurnovers json_account_by json_account_by-Is By object h _
    (λ by b. record {
      clerk = c;
      accounts = a;
      dates = d;
      by = b;
      no_tx = refl;
    }))))

pub dr_cr_request-Is : (object : Members) → AreRead object → IfOk (dr_cr_request object) IsDrCr
unfolding dr_cr_request
dr_cr_request-Is object h =
    asked IsName IsDrCr json_name json_name-IsName Clerk object h _ (λ clerk c.
    asked IsName IsDrCr json_name json_name-IsName Ledger object h _ (λ ledger l.
    allowed IsCode IsDrCr json_code json_code-IsCode Account object h _ (λ account a.
    IfOk-then IsAskedDates IsDrCr (asked_dates object) _ (asked_dates-Is object h)
    (λ dates d. record {
      clerk = c;
      ledger = l;
      account = a;
      dates = d;
      no_tx = refl;
    }))))

pub documents_question-Is : (object : Members) → AreRead object
    → IfOk (documents_question object) IsDocumentsQuestion
unfolding documents_question
documents_question-Is object h =
    asked IsName IsDocumentsQuestion json_name json_name-IsName Clerk object h _ (λ clerk c.
    IfOk-then IsAskedDates IsDocumentsQuestion (asked_dates object) _ (asked_dates-Is object h)
    (λ dates d. record {
      clerk = c;
      dates = d;
      no_tx = refl;
    }))
