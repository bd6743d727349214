-- The request that words make is well formed.
use Rattle.std.proofs.Common.{◌≡◌, ℕ, Bool, true, false, cond, codes, is_some, Some, List, Result}
use Rattle.std.proofs.Common.{Ok, Err, IfOk, IfSome, refl}
use Rattle.std.specs.Result.{result_ok}
use Rattle.std.specs.Str.{bytes_eq}
use Rattle.reg_base.specs.Codes.{is_name}
use Rattle.reg_base.specs.Dates.{parse_date, parse_date_end}
use Rattle.reg_base.specs.Results.{some_or}
use Rattle.reg_base.proofs.ForAbove.{IfOk-some_or, IfOk-then, IfOk-unless, parse_date-within}
use Rattle.reg_base.proofs.ForAbove.{parse_date_end-within}
use Rattle.cfg_model.specs.declared.config.Config.{Config}
use Rattle.cfg_model.specs.Places.{ledger_place}
use Rattle.desk_words.specs.declared.fault.Member.TheVariants.{Register as RegisterMember, From, To}
use Rattle.desk_words.specs.declared.tables.AskedDates.{AskedDates}
use Rattle.desk_words.specs.WellFormed.{IsRequest}
use Rattle.desk_words.specs.WellFormedParts.{IsDate, IsName}
use Rattle.desk_words.specs.WellFormedTables.{IsAskedDates}
use Rattle.desk_reports.specs.Reports.{ReportWords, bad_word, batch, for_accounts, for_documents}
use Rattle.desk_reports.specs.Reports.{for_register, report_asked, report_request}

-- the clerk that is built in has a name
pub batch-name : is_name batch ≡ true
unfolding is_name
batch-name = refl

-- what is asked of dates, under a name that is one
report_asked-IsRequest : (config : Config) (name : List ℕ) (dates : AskedDates) → IsName name
    → IsAskedDates dates → IsRequest (report_asked config name dates)
report_asked-IsRequest config name dates named are =
    at (bytes_eq name (codes "documents")) (is_some (ledger_place name config.ledgers))
  where
    at : (documents ledger : Bool) → IsRequest (cond documents (for_documents dates)
        (cond ledger (for_accounts name dates) (for_register name dates)))
    at true ledger = record { clerk = batch-name; dates = are; no_tx = refl }
    at false true = record {
      clerk = batch-name;
      accounts = record { ledger = named; account = tt };
      dates = are;
      by = refl;
      no_tx = refl;
    }
    at false false = record {
      clerk = batch-name;
      register = record { name = named; filter = tt; group = tt };
      dates = are;
      no_tx = refl;
    }

-- what holds of what was read holds of the value that is left of it
IfOk-result_ok : {F X : Type 0} (P : X → Type 0) (r : Result X F) → IfOk r P
    → IfSome (result_ok r) P
IfOk-result_ok P (Ok x) holds = holds
IfOk-result_ok P (Err fault) holds = tt

-- the request that words make
pub report_request-IsRequest : (config : Config) (words : ReportWords)
    → IfOk (report_request config words) IsRequest
unfolding report_request
report_request-IsRequest config words =
    IfOk-unless IsRequest (is_name words.name) (bad_word RegisterMember) _
    (λ named. IfOk-then IsDate IsRequest
    (some_or (result_ok (parse_date words.from)) (bad_word From)) _
    (IfOk-some_or IsDate (result_ok (parse_date words.from)) (bad_word From)
    (IfOk-result_ok IsDate (parse_date words.from) (parse_date-within words.from)))
    (λ from first. IfOk-then IsDate IsRequest
    (some_or (result_ok (parse_date_end words.to)) (bad_word To)) _
    (IfOk-some_or IsDate (result_ok (parse_date_end words.to)) (bad_word To)
    (IfOk-result_ok IsDate (parse_date_end words.to) (parse_date_end-within words.to)))
    (λ to last. report_asked-IsRequest config words.name
    (record { from = Some from; to = Some to }) named (record { first = first; last = last }))))
