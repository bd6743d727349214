-- What requests for tables share is read from what stands for it, and is plain.
use Rattle.std.proofs.Common.{◌≡◌, ℕ, Option, Some, None, option_map, List, [], ◌∷◌, IsUtf8, Ok}
use Rattle.std.proofs.Common.{codes, refl, arith}
use Rattle.serde_json.specs.Data.{Data, boolean, string, Members}
use Rattle.serde_json.specs.Find.{get_member}
use Rattle.reg_base.specs.Cuts.{IsCut}
use Rattle.reg_base.specs.declared.cut.Cut.{Cut}
use Rattle.reg_base.specs.declared.tables.Periodicity.{Periodicity}
use Rattle.reg_base.specs.declared.tables.Periodicity.TheVariants.{Period, Record, Recorder, Day}
use Rattle.reg_base.specs.declared.tables.Periodicity.TheVariants.{Week, TenDays, Month, Quarter}
use Rattle.reg_base.specs.declared.tables.Periodicity.TheVariants.{HalfYear, Year}
use Rattle.reg_base.specs.declared.tables.Method.{Method}
use Rattle.reg_base.specs.declared.tables.Method.TheVariants.{Movements}
use Rattle.reg_base.specs.declared.tables.Method.TheVariants.{MovementsAndPeriodBoundaries}
use Rattle.reg_base.proofs.ForAbove.{IsUtf8-name, IsUtf8-code, IsUtf8-date_text, IsUtf8-cut_text}
use Rattle.reg_base.proofs.ForAbove.{IsUtf8-tested}
use Rattle.desk_words.specs.declared.request.FilterText.{FilterText}
use Rattle.desk_words.specs.declared.tables.AskedRegister.{AskedRegister}
use Rattle.desk_words.specs.declared.tables.AskedAccounts.{AskedAccounts}
use Rattle.desk_words.specs.declared.tables.AskedDates.{AskedDates}
use Rattle.desk_words.specs.Shapes.{OrFault, value_at, shape_if, json_code, json_names, json_date}
use Rattle.desk_words.specs.Shapes.{json_date_end, json_boolean}
use Rattle.desk_words.specs.TableShapes.{json_filters}
use Rattle.desk_words.specs.ReadTables.{asked_register, asked_accounts, asked_dates}
use Rattle.desk_words.specs.JsonValues.{texts_data}
use Rattle.desk_words.specs.TableTexts.{by_data, method_data, date_data, cut_data, filters_data}
use Rattle.desk_words.specs.WellFormedParts.{IsName, IsCode, IsDate}
use Rattle.desk_words.specs.WellFormedTables.{AreFilters, AreNames, IsAskedRegister}
use Rattle.desk_words.specs.WellFormedTables.{IsAskedAccounts, IsAskedDates}
use Rattle.desk_words.proofs.PlainLemmas.{IsPlain-texts_data, depth-texts_data}
use Rattle.desk_words.proofs.PlainLemmas.{IsPlain-filters_data, depth-filters_data}
use Rattle.desk_words.proofs.ShapesBack.{json_name-back, json_code-back, json_names-back}
use Rattle.desk_words.proofs.ShapesBack.{json_date-back, json_date_end-back, json_filters-back}
use Rattle.desk_words.proofs.OptionalBack.{shape_if-back}
use Rattle.desk_words.proofs.Entries.{Entry, IsShallow, ArePlainEntries, shallow_if, shallow_any}

-- ---- values that are plain and shallow

pub name_shallow : (name : List ℕ) → IsName name → IsShallow (string name)
name_shallow name is = (IsUtf8-name name is, omega arith)

pub code_shallow : (code : List ℕ) → IsCode code → IsShallow (string code)
code_shallow code is = (IsUtf8-code code is, omega arith)

names_shallow : (names : List (List ℕ)) → AreNames names → IsShallow (texts_data names)
names_shallow names are = (
  IsPlain-texts_data IsName IsUtf8-name names are,
  let shallow = depth-texts_data names in omega (arith, shallow),
)

filters_shallow : (filters : List FilterText) → AreFilters filters
    → IsShallow (filters_data filters)
filters_shallow filters are = (
  IsPlain-filters_data filters are,
  let shallow = depth-filters_data filters in omega (arith, shallow),
)

date_shallow : (date : ℕ) → IsDate date → IsShallow (date_data date)
date_shallow date is = (IsUtf8-date_text date, omega arith)

pub cut_shallow : (cut : Cut) → IsCut cut → IsShallow (cut_data cut)
cut_shallow cut is = (IsUtf8-cut_text cut is, omega arith)

pub by_shallow : (by : Periodicity) → IsShallow (by_data by)
by_shallow Period = (IsUtf8-tested (codes "period") refl, omega arith)
by_shallow Record = (IsUtf8-tested (codes "record") refl, omega arith)
by_shallow Recorder = (IsUtf8-tested (codes "recorder") refl, omega arith)
by_shallow Day = (IsUtf8-tested (codes "day") refl, omega arith)
by_shallow Week = (IsUtf8-tested (codes "week") refl, omega arith)
by_shallow TenDays = (IsUtf8-tested (codes "ten_days") refl, omega arith)
by_shallow Month = (IsUtf8-tested (codes "month") refl, omega arith)
by_shallow Quarter = (IsUtf8-tested (codes "quarter") refl, omega arith)
by_shallow HalfYear = (IsUtf8-tested (codes "half_year") refl, omega arith)
by_shallow Year = (IsUtf8-tested (codes "year") refl, omega arith)

pub method_shallow : (method : Method) → IsShallow (method_data method)
method_shallow Movements = (IsUtf8-tested (codes "movements") refl, omega arith)
method_shallow MovementsAndPeriodBoundaries =
    (IsUtf8-tested (codes "boundaries") refl, omega arith)

-- what may be absent is read from what stands for it
pub shape_any-back : {X : Type 0} (shape : Data → OrFault X) (data_of : X → Data)
    → ((x : X) → shape (data_of x) ≡ Ok x) → (o : Option X)
    → shape_if shape (option_map data_of o) ≡ Ok o
shape_any-back shape data_of back None = refl
shape_any-back shape data_of back (Some x) = rw (back x)

-- ---- what tables share

-- the clerk and the word of the operation
abbrev pub frame : List ℕ → List ℕ → List Entry
frame op clerk = (codes "op", Some (string op)) ∷ (codes "clerk", Some (string clerk)) ∷ []

pub frame_plain : (op clerk : List ℕ) → IsUtf8 op → IsName clerk → ArePlainEntries (frame op clerk)
frame_plain op clerk utf8 is = (
  (IsUtf8-tested (codes "op") refl, (utf8, omega arith)),
  ((IsUtf8-tested (codes "clerk") refl, name_shallow clerk is), tt),
)

abbrev pub of_register : AskedRegister → List Entry → List Entry
of_register r es =
    (codes "group", option_map texts_data r.group)
    ∷ (codes "filter", option_map filters_data r.filter)
    ∷ (codes "register", Some (string r.name)) ∷ es

pub register_plain : (r : AskedRegister) → IsAskedRegister r → (es : List Entry)
    → ArePlainEntries es → ArePlainEntries (of_register r es)
register_plain r h es plain = (
  (
    IsUtf8-tested (codes "group") refl,
    shallow_if texts_data AreNames names_shallow r.group h.group,
  ),
  (
    (
      IsUtf8-tested (codes "filter") refl,
      shallow_if filters_data AreFilters filters_shallow r.filter h.filter,
    ),
    ((IsUtf8-tested (codes "register") refl, name_shallow r.name h.name), plain),
  ),
)

pub register-back : (r : AskedRegister) → IsAskedRegister r → (object : Members)
    → get_member (codes "register") object ≡ Some (string r.name)
    → get_member (codes "filter") object ≡ option_map filters_data r.filter
    → get_member (codes "group") object ≡ option_map texts_data r.group
    → asked_register object ≡ Ok r
unfolding asked_register value_at
register-back r h object name_is filter_is group_is =
    rw (
      name_is,
      json_name-back _ r.name h.name,
      filter_is,
      shape_if-back AreFilters (json_filters _) filters_data (json_filters-back _) r.filter
          h.filter,
      group_is,
      shape_if-back AreNames (json_names _) texts_data (json_names-back _) r.group h.group,
    )

abbrev pub of_accounts : AskedAccounts → List Entry → List Entry
of_accounts a es =
    (codes "extras", option_map boolean a.extras)
    ∷ (codes "account", option_map string a.account)
    ∷ (codes "ledger", Some (string a.ledger)) ∷ es

pub accounts_plain : (a : AskedAccounts) → IsAskedAccounts a → (es : List Entry)
    → ArePlainEntries es → ArePlainEntries (of_accounts a es)
accounts_plain a h es plain = (
  (
    IsUtf8-tested (codes "extras") refl,
    shallow_any boolean (λ b. (tt, omega arith)) a.extras,
  ),
  (
    (
      IsUtf8-tested (codes "account") refl,
      shallow_if string IsCode code_shallow a.account h.account,
    ),
    ((IsUtf8-tested (codes "ledger") refl, name_shallow a.ledger h.ledger), plain),
  ),
)

pub accounts-back : (a : AskedAccounts) → IsAskedAccounts a → (object : Members)
    → get_member (codes "ledger") object ≡ Some (string a.ledger)
    → get_member (codes "account") object ≡ option_map string a.account
    → get_member (codes "extras") object ≡ option_map boolean a.extras
    → asked_accounts object ≡ Ok a
unfolding asked_accounts value_at json_boolean
accounts-back a h object ledger_is account_is extras_is =
    rw (
      ledger_is,
      json_name-back _ a.ledger h.ledger,
      account_is,
      shape_if-back IsCode (json_code _) string (json_code-back _) a.account h.account,
      extras_is,
      shape_any-back (json_boolean _) boolean (λ b. refl) a.extras,
    )

abbrev pub of_dates : AskedDates → List Entry → List Entry
of_dates d es =
    (codes "to", option_map date_data d.to) ∷ (codes "from", option_map date_data d.from) ∷ es

pub dates_plain : (d : AskedDates) → IsAskedDates d → (es : List Entry) → ArePlainEntries es
    → ArePlainEntries (of_dates d es)
dates_plain d h es plain = (
  (IsUtf8-tested (codes "to") refl, shallow_if date_data IsDate date_shallow d.to h.last),
  (
    (IsUtf8-tested (codes "from") refl, shallow_if date_data IsDate date_shallow d.from h.first),
    plain,
  ),
)

pub dates-back : (d : AskedDates) → IsAskedDates d → (object : Members)
    → get_member (codes "from") object ≡ option_map date_data d.from
    → get_member (codes "to") object ≡ option_map date_data d.to
    → asked_dates object ≡ Ok d
unfolding asked_dates
dates-back d h object from_is to_is =
    rw (
      from_is,
      shape_if-back IsDate (json_date _) date_data (json_date-back _) d.from h.first,
      to_is,
      shape_if-back IsDate (json_date_end _) date_data (json_date_end-back _) d.to h.last,
    )
