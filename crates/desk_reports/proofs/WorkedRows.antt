-- Worked rows of reports, computed: the requests that words make, and the texts of answers.
use Rattle.std.proofs.Common.{◌≡◌, ℕ, Some, List, [], ◌∷◌, ◌++◌, Ok, Err, true, false, refl, codes}
use Rattle.std.proofs.Common.{lit<}
use Rattle.reg_base.specs.Codes.{is_name}
use Rattle.reg_base.specs.Dates.{date_text, day_from_month, day_from_year, day_of, day_spelt}
use Rattle.reg_base.specs.Dates.{day_text, number_between, parse_date, parse_date_end}
use Rattle.reg_base.specs.Dates.{parse_long_date, second_spelt, second_text}
use Rattle.reg_base.proofs.ForAbove.{parse_date-text, parse_date_end-text}
use Rattle.cfg_model.specs.declared.config.Config.{Config}
use Rattle.desk_words.specs.declared.fault.Member.TheVariants.{From, Register as RegisterWord, To}
use Rattle.desk_words.specs.declared.fault.WordFault.TheVariants.{BadMember}
use Rattle.desk_words.specs.declared.reply.Answer.TheVariants.{AccountBoth, Both, DrCr, Documents}
use Rattle.desk_words.specs.declared.reply.Refusal.TheVariants.{BadLine}
use Rattle.desk_words.specs.declared.tables.AskedDates.{AskedDates}
use Rattle.desk_reports.specs.Reports.{ReportWords, for_accounts, for_documents, for_register}
use Rattle.desk_reports.specs.Reports.{report_request, report_text}
use Rattle.text_reports.specs.DocumentLists.{document_list_text}
use Rattle.text_reports.specs.StockCards.{stock_card_text}

-- a shop with a register of goods and a ledger without accounts
abbrev shop : Config
shop = record {
  registers = record {
    name = codes "goods";
    balance = true;
    dimensions = record { name = codes "item"; lot = false } ∷ [];
    resources = record { name = codes "quantity"; scale = 3 } ∷ [];
    split = false;
  } ∷ [];
  ledgers = record {
    name = codes "main";
    scale = 2;
    split = false;
    accounts = [];
  } ∷ [];
  kinds = [];
  sequences = [];
  clerks = [];
}

-- 2024-01-10T09:00:00
abbrev morning : List ℕ
morning = codes "2024-01-10T09:00:00"

morning_text : date_text 758_192_400 ≡ morning
unfolding date_text day_text second_text day_of day_from_year day_from_month
morning_text = refl

morning_date : parse_date morning ≡ Ok 758_192_400
morning_date = rw morning_text at (parse_date-text 758_192_400 (lit< tt))

morning_end : parse_date_end morning ≡ Ok 758_192_400
morning_end = rw morning_text at (parse_date_end-text 758_192_400 (lit< tt))

-- the words of a report of that second
abbrev of_morning : List ℕ → ReportWords
of_morning name = record { name = name; from = morning; to = morning }

-- its dates
abbrev the_morning : AskedDates
the_morning = record { from = Some 758_192_400; to = Some 758_192_400 }

-- ---- requests

documents : report_request shop (of_morning (codes "documents")) ≡ Ok (for_documents the_morning)
unfolding report_request is_name
documents = rw (morning_date, morning_end) refl

-- a ledger's name asks for all of its accounts
accounts : report_request shop (of_morning (codes "main"))
    ≡ Ok (for_accounts (codes "main") the_morning)
unfolding report_request is_name
accounts = rw (morning_date, morning_end) refl

-- any other name asks for a register, whether there is one or not
goods : report_request shop (of_morning (codes "goods"))
    ≡ Ok (for_register (codes "goods") the_morning)
unfolding report_request is_name
goods = rw (morning_date, morning_end) refl

nowhere : report_request shop (of_morning (codes "nowhere"))
    ≡ Ok (for_register (codes "nowhere") the_morning)
unfolding report_request is_name
nowhere = rw (morning_date, morning_end) refl

-- a range begins with the first second of a day, and ends with the last one of a day
whole_days : report_request shop (record {
  name = codes "documents";
  from = codes "2024-01-01";
  to = codes "2024-01-31";
}) ≡ report_request shop (record {
  name = codes "documents";
  from = codes "2024-01-01T00:00:00";
  to = codes "2024-01-31T23:59:59";
})
unfolding report_request is_name number_between day_spelt second_spelt parse_long_date parse_date
    parse_date_end
whole_days = refl

-- the first word that does not read is told, the name first
no_name : report_request shop (record {
  name = codes "Main";
  from = codes "yesterday";
  to = codes "today";
}) ≡ Err (BadLine (BadMember RegisterWord))
unfolding report_request is_name
no_name = refl

no_first_date : report_request shop (record {
  name = codes "main";
  from = codes "yesterday";
  to = codes "today";
}) ≡ Err (BadLine (BadMember From))
unfolding report_request is_name number_between day_spelt second_spelt parse_long_date parse_date
no_first_date = refl

no_last_date : report_request shop (record {
  name = codes "main";
  from = morning;
  to = codes "today";
}) ≡ Err (BadLine (BadMember To))
unfolding report_request is_name number_between day_spelt second_spelt parse_long_date parse_date_end
no_last_date = rw morning_date refl

-- ---- texts

-- no documents are the words over them
no_documents : report_text shop (codes "documents") (Documents [])
    ≡ (codes "    number date                kind                     state    key") ++ 10 ∷ []
unfolding document_list_text
no_documents = refl

-- rows under a name that names no ledger, or no register, have no text
no_ledger : report_text shop (codes "goods") (AccountBoth [] 2) ≡ []
no_ledger = refl

no_register : report_text shop (codes "main") (Both [] (3 ∷ [])) ≡ []
no_register = refl

-- nor has an answer that no report asks for
no_report : report_text shop (codes "main") (DrCr [] 2) ≡ []
no_report = refl

-- without rows a stock card is the words over them, and a trial balance has its totals besides
empty_card : report_text shop (codes "goods") (Both [] (3 ∷ []))
    ≡ (codes "group                            unit                           resource    ")
    ++ (codes "        opening        receipt        expense        closing") ++ 10 ∷ []
unfolding stock_card_text
empty_card = refl
