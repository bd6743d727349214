-- The shapes of what tables are asked by; the fault names the member that a wrong one stands in.
use Rattle.std.specs.Prelude.{ℕ, List, Option, Some, None, Ok, if◌then◌else◌, codes}
use Rattle.std.specs.Str.{bytes_eq}
use Rattle.serde_json.specs.Data.{Data}
use Rattle.reg_base.specs.Results.{◌>>=◌, some_or, unless}
use Rattle.reg_base.specs.Codes.{is_name}
use Rattle.reg_base.specs.declared.tables.Periodicity.{Periodicity}
use Rattle.reg_base.specs.declared.tables.Periodicity.TheVariants.{Period, Record, Recorder, Day}
use Rattle.reg_base.specs.declared.tables.Periodicity.TheVariants.{Week, TenDays, Month, Quarter}
use Rattle.reg_base.specs.declared.tables.Periodicity.TheVariants.{HalfYear, Year}
use Rattle.reg_base.specs.declared.tables.Method.{Method}
use Rattle.reg_base.specs.declared.tables.Method.TheVariants.{Movements}
use Rattle.reg_base.specs.declared.tables.Method.TheVariants.{MovementsAndPeriodBoundaries}
use Rattle.desk_words.specs.declared.fault.Member.{Member}
use Rattle.desk_words.specs.declared.fault.WordFault.TheVariants.{BadMember}
use Rattle.desk_words.specs.declared.request.FilterText.{FilterText}
use Rattle.desk_words.specs.Shapes.{OrFault, json_object, json_text, json_texts, each_named}

-- the values of a dimension: its name is one, and they are a list of texts
unfoldable pub json_filter : Member → List ℕ → Data → OrFault FilterText
json_filter m name d = do
  _ ← unless (is_name name) (BadMember m)
  values ← json_texts m d
  Ok (record { name = name; values = values })

-- an object of the values of dimensions
unfoldable pub json_filters : Member → Data → OrFault (List FilterText)
json_filters m d = json_object m d >>= each_named (json_filter m)

-- the periodicity of that word, where a table of accounts has it
abbrev pub account_by_named : List ℕ → Option Periodicity
account_by_named word =
    if bytes_eq word (codes "period") then Some Period
    else (if bytes_eq word (codes "day") then Some Day
    else (if bytes_eq word (codes "week") then Some Week
    else (if bytes_eq word (codes "ten_days") then Some TenDays
    else (if bytes_eq word (codes "month") then Some Month
    else (if bytes_eq word (codes "quarter") then Some Quarter
    else (if bytes_eq word (codes "half_year") then Some HalfYear
    else (if bytes_eq word (codes "year") then Some Year
    else None)))))))

-- the periodicity of that word: tables of registers tell records and documents apart besides
abbrev pub by_named : List ℕ → Option Periodicity
by_named word =
    if bytes_eq word (codes "record") then Some Record
    else (if bytes_eq word (codes "recorder") then Some Recorder
    else account_by_named word)

-- a word that is a periodicity
unfoldable pub json_by : Member → Data → OrFault Periodicity
json_by m d = do
  word ← json_text m d
  some_or (by_named word) (BadMember m)

-- a word that is a periodicity of tables of accounts
unfoldable pub json_account_by : Member → Data → OrFault Periodicity
json_account_by m d = do
  word ← json_text m d
  some_or (account_by_named word) (BadMember m)

-- the method of that word
abbrev pub method_named : List ℕ → Option Method
method_named word =
    if bytes_eq word (codes "movements") then Some Movements
    else (if bytes_eq word (codes "boundaries") then Some MovementsAndPeriodBoundaries
    else None)

-- a word that is a method
unfoldable pub json_method : Member → Data → OrFault Method
json_method m d = do
  word ← json_text m d
  some_or (method_named word) (BadMember m)
