-- Worked rows of requests for tables, computed from the value that a line is read as.
use Rattle.std.proofs.Common.{◌≡◌, [], ◌∷◌, ◌++◌, None, Some, Ok, Err, true, false, refl, codes}
use Rattle.std.proofs.Common.{lit<}
use Rattle.serde_json.specs.Data.{null, boolean, string, array, object, item, no_items, member}
use Rattle.serde_json.specs.Data.{no_members}
use Rattle.json.specs.Print.{escape_byte}
use Rattle.reg_base.specs.Codes.{is_code, is_name}
use Rattle.reg_base.specs.Dates.{parse_date_end, date_text, day_text, second_text, day_of}
use Rattle.reg_base.specs.Dates.{day_from_year, day_from_month}
use Rattle.reg_base.specs.declared.tables.Periodicity.TheVariants.{Recorder, TenDays, Month}
use Rattle.reg_base.specs.declared.tables.Method.TheVariants.{MovementsAndPeriodBoundaries}
use Rattle.reg_base.proofs.ForAbove.{parse_date_end-text}
use Rattle.desk_words.specs.declared.fault.Member.TheVariants.{Filter as Filter_word, Ledger}
use Rattle.desk_words.specs.declared.fault.Member.TheVariants.{By as By_word, Group as Group_word}
use Rattle.desk_words.specs.declared.fault.WordFault.TheVariants.{Missing, UnknownMember, BadMember}
use Rattle.desk_words.specs.declared.request.Request.TheVariants.{Balance, Turnovers, Both}
use Rattle.desk_words.specs.declared.request.Request.TheVariants.{AccountBalance, AccountTurnovers}
use Rattle.desk_words.specs.declared.request.Request.TheVariants.{AccountBoth, DrCr, Documents}
use Rattle.desk_words.specs.Shapes.{value_at, json_object, json_items, json_text, json_name}
use Rattle.desk_words.specs.Shapes.{json_code, json_boolean, json_texts, json_names, json_date}
use Rattle.desk_words.specs.Shapes.{json_date_end}
use Rattle.desk_words.specs.TableShapes.{json_filter, json_filters, json_by, json_account_by}
use Rattle.desk_words.specs.TableShapes.{json_method}
use Rattle.desk_words.specs.ReadTables.{asked_register, asked_accounts, asked_dates}
use Rattle.desk_words.specs.ReadTables.{balance_request, turnovers_request, both_request}
use Rattle.desk_words.specs.ReadTables.{account_turnovers_request}
use Rattle.desk_words.specs.Reading.{operation_of, check_present, check_known, members_of}
use Rattle.desk_words.specs.Reading.{request_in}
use Rattle.desk_words.specs.JsonValues.{texts_data}
use Rattle.desk_words.specs.TableTexts.{put_register, put_accounts, put_dates, turnovers_members}
use Rattle.desk_words.specs.TableTexts.{both_members, account_balance_members}
use Rattle.desk_words.specs.TableTexts.{account_turnovers_members, dr_cr_members, documents_members}
use Rattle.desk_words.specs.RequestTexts.{request_data, request_text}
use Rattle.desk_words.proofs.WorkedRows.{morning, morning_text, morning_date}

-- ---- what is read

morning_end : parse_date_end morning ≡ Ok 758_192_400
morning_end = rw morning_text at (parse_date_end-text 758_192_400 (lit< tt))

all_of_both :
    request_in (member (codes "by") (string (codes "recorder"))
    (member (codes "clerk") (string (codes "anna"))
    (member (codes "filter")
    (object (member (codes "item") (array (item (string (codes "x y")) no_items)) no_members))
    (member (codes "from") (string morning)
    (member (codes "group") (array (item (string (codes "item")) no_items))
    (member (codes "method") (string (codes "boundaries"))
    (member (codes "op") (string (codes "both"))
    (member (codes "register") (string (codes "goods"))
    (member (codes "to") (string morning) no_members)))))))))
    ≡ Ok (Both (record {
      turnovers = record {
        clerk = codes "anna";
        register = record {
          name = codes "goods";
          filter = Some ((record { name = codes "item"; values = codes "x y" ∷ [] }) ∷ []);
          group = Some (codes "item" ∷ []);
        };
        dates = record { from = Some 758_192_400; to = Some 758_192_400 };
        by = Some Recorder;
        tx = None;
      };
      method = Some MovementsAndPeriodBoundaries;
    }))
unfolding request_in operation_of check_present check_known members_of both_request
    turnovers_request asked_register asked_dates value_at json_object json_items json_text
    json_name json_names json_texts json_filter json_filters json_date json_date_end json_by
    json_method is_name
all_of_both = rw (morning_date, morning_end)

nothing_chosen :
    request_in (member (codes "clerk") (string (codes "anna"))
    (member (codes "filter") (object no_members)
    (member (codes "group") (array no_items)
    (member (codes "op") (string (codes "balance"))
    (member (codes "register") (string (codes "goods")) no_members)))))
    ≡ Ok (Balance (record {
      clerk = codes "anna";
      register = record { name = codes "goods"; filter = Some []; group = Some [] };
      cut = None;
      tx = None;
    }))
unfolding request_in operation_of check_present check_known members_of balance_request
    asked_register value_at json_object json_items json_text json_name json_names json_filters
    is_name
nothing_chosen = refl

accounts_by_month :
    request_in (member (codes "account") (string (codes "10.1"))
    (member (codes "by") (string (codes "month"))
    (member (codes "clerk") (string (codes "anna"))
    (member (codes "extras") (boolean true)
    (member (codes "ledger") (string (codes "main"))
    (member (codes "op") (string (codes "account_both")) no_members))))))
    ≡ Ok (AccountBoth (record {
      clerk = codes "anna";
      accounts = record {
        ledger = codes "main";
        account = Some (codes "10.1");
        extras = Some true;
      };
      dates = record { from = None; to = None };
      by = Some Month;
      tx = None;
    }))
unfolding request_in operation_of check_present check_known members_of account_turnovers_request
    asked_accounts asked_dates value_at json_text json_name json_code json_boolean json_account_by
    is_name is_code
accounts_by_month = refl

accounts_by_document :
    request_in (member (codes "by") (string (codes "recorder"))
    (member (codes "clerk") (string (codes "anna"))
    (member (codes "ledger") (string (codes "main"))
    (member (codes "op") (string (codes "account_turnovers")) no_members))))
    ≡ Err (BadMember By_word)
unfolding request_in operation_of check_present check_known members_of account_turnovers_request
    asked_accounts asked_dates value_at json_text json_name json_account_by is_name
accounts_by_document = refl

no_ledger :
    request_in (member (codes "clerk") null
    (member (codes "op") (string (codes "dr_cr"))
    (member (codes "register") null no_members)))
    ≡ Err (Missing Ledger)
unfolding request_in operation_of check_present
no_ledger = refl

turnovers_have_no_method :
    request_in (member (codes "clerk") null
    (member (codes "method") null
    (member (codes "op") (string (codes "turnovers"))
    (member (codes "register") null no_members))))
    ≡ Err (UnknownMember (codes "method"))
unfolding request_in operation_of check_present check_known
turnovers_have_no_method = refl

a_filter_before_a_group :
    request_in (member (codes "clerk") (string (codes "anna"))
    (member (codes "filter")
    (object (member (codes "Item") (array no_items) no_members))
    (member (codes "group") null
    (member (codes "op") (string (codes "turnovers"))
    (member (codes "register") (string (codes "goods")) no_members)))))
    ≡ Err (BadMember Filter_word)
unfolding request_in operation_of check_present check_known members_of turnovers_request
    asked_register value_at json_object json_text json_name json_filter json_filters is_name
a_filter_before_a_group = refl

a_group_of_no_name :
    json_names Group_word (array (item (string (codes "Item")) no_items))
    ≡ Err (BadMember Group_word)
unfolding json_names json_items json_name json_text is_name
a_group_of_no_name = refl

-- ---- canonical texts

-- names in filters stand in byte order
a_turnovers_text :
    request_text (Turnovers (record {
      clerk = codes "anna";
      register = record {
        name = codes "goods";
        filter =
            Some ((record { name = codes "store"; values = codes "main" ∷ [] })
            ∷ (record { name = codes "item"; values = [] }) ∷ []);
        group = Some (codes "item" ∷ []);
      };
      dates = record { from = Some 0; to = Some 3_155_759_999 };
      by = Some TenDays;
      tx = None;
    }))
    ≡ codes "{\"by\":\"ten_days\",\"clerk\":\"anna\",\"filter\":{\"item\":[],\"store\":["
    ++ codes "\"main\"]},\"from\":\"2000-01-01T00:00:00\",\"group\":[\"item\"],\"op\":\"tu"
    ++ codes "rnovers\",\"register\":\"goods\",\"to\":\"2099-12-31T23:59:59\"}"
unfolding request_text request_data turnovers_members put_dates put_register texts_data date_text
    day_text second_text day_of day_from_year day_from_month escape_byte
a_turnovers_text = refl

a_both_text :
    request_text (Both (record {
      turnovers = record {
        clerk = codes "anna";
        register = record { name = codes "goods"; filter = None; group = None };
        dates = record { from = None; to = None };
        by = None;
        tx = None;
      };
      method = Some MovementsAndPeriodBoundaries;
    }))
    ≡ codes "{\"clerk\":\"anna\",\"method\":\"boundaries\",\"op\":\"both\",\"register\":"
    ++ codes "\"goods\"}"
unfolding request_text request_data both_members turnovers_members put_dates put_register
    escape_byte
a_both_text = refl

an_account_balance_text :
    request_text (AccountBalance (record {
      clerk = codes "anna";
      accounts = record {
        ledger = codes "main";
        account = Some (codes "10.1");
        extras = Some false;
      };
      cut = None;
      tx = None;
    }))
    ≡ codes "{\"account\":\"10.1\",\"clerk\":\"anna\",\"extras\":false,\"ledger\":\"main"
    ++ codes "\",\"op\":\"account_balance\"}"
unfolding request_text request_data account_balance_members put_accounts escape_byte
an_account_balance_text = refl

an_account_turnovers_text :
    request_text (AccountTurnovers (record {
      clerk = codes "anna";
      accounts = record { ledger = codes "main"; account = None; extras = None };
      dates = record { from = None; to = None };
      by = Some Month;
      tx = None;
    }))
    ≡ codes "{\"by\":\"month\",\"clerk\":\"anna\",\"ledger\":\"main\",\"op\":\"account_tu"
    ++ codes "rnovers\"}"
unfolding request_text request_data account_turnovers_members put_dates put_accounts escape_byte
an_account_turnovers_text = refl

a_pairs_text :
    request_text (DrCr (record {
      clerk = codes "anna";
      ledger = codes "main";
      account = Some (codes "60");
      dates = record { from = Some 758_192_400; to = None };
      tx = None;
    }))
    ≡ codes "{\"account\":\"60\",\"clerk\":\"anna\",\"from\":\"2024-01-10T09:00:00\",\"le"
    ++ codes "dger\":\"main\",\"op\":\"dr_cr\"}"
unfolding request_text request_data dr_cr_members put_dates date_text day_text second_text day_of
    day_from_year day_from_month escape_byte
a_pairs_text = refl

a_documents_text :
    request_text (Documents (record {
      clerk = codes "anna";
      dates = record { from = None; to = Some 758_192_400 };
      tx = None;
    }))
    ≡ codes "{\"clerk\":\"anna\",\"op\":\"documents\",\"to\":\"2024-01-10T09:00:00\"}"
unfolding request_text request_data documents_members put_dates date_text day_text second_text
    day_of day_from_year day_from_month escape_byte
a_documents_text = refl
