-- Worked rows of tables as they are printed, and of the refusals of tables.
use Rattle.std.proofs.Common.{◌≡◌, [], ◌∷◌, ◌++◌, None, Some, true, false, pos, negsuc, refl, codes}
use Rattle.serde_json.specs.Data.{string, number, unsigned, array, object, item, no_items}
use Rattle.serde_json.specs.Data.{member, no_members}
use Rattle.json.specs.Print.{escape_byte}
use Rattle.reg_base.specs.Dates.{date_text, day_text, second_text, day_of, day_from_year}
use Rattle.reg_base.specs.Dates.{day_from_month}
use Rattle.reg_base.specs.Numbers.{sum_text, units_text, number_text}
use Rattle.reg_base.specs.Points.{point_text}
use Rattle.reg_base.specs.declared.records.DocState.TheVariants.{Posted}
use Rattle.reg_base.specs.declared.tables.Unit.TheVariants.{Whole, Start, At, Line}
use Rattle.reg_base.specs.declared.value.Value.TheVariants.{Code}
use Rattle.reg_base.specs.declared.fault.TableFault.TheVariants.{BadRange, TooManyRows}
use Rattle.reg_base.specs.declared.fault.TableFault.TheVariants.{UnknownField}
use Rattle.desk_words.specs.declared.reply.Reply.TheVariants.{Done}
use Rattle.desk_words.specs.declared.reply.Answer.TheVariants.{Turnovers as TurnoverRows}
use Rattle.desk_words.specs.declared.reply.Answer.TheVariants.{Both as BothRows}
use Rattle.desk_words.specs.declared.reply.Answer.TheVariants.{AccountBalance as HeldRows}
use Rattle.desk_words.specs.declared.reply.Answer.TheVariants.{AccountTurnovers as MovedRows}
use Rattle.desk_words.specs.declared.reply.Answer.TheVariants.{AccountBoth as WholeRows}
use Rattle.desk_words.specs.declared.reply.Answer.TheVariants.{DrCr as PairRows}
use Rattle.desk_words.specs.declared.reply.Answer.TheVariants.{Documents as DocumentRows}
use Rattle.desk_words.specs.declared.reply.Refusal.TheVariants.{Table}
use Rattle.desk_words.specs.JsonValues.{texts_data}
use Rattle.desk_words.specs.RowTexts.{turnover_row_data, move_row_data, both_row_data}
use Rattle.desk_words.specs.RowTexts.{held_row_data, moved_row_data, whole_row_data, pair_row_data}
use Rattle.desk_words.specs.RowTexts.{document_row_data}
use Rattle.desk_words.specs.ReplyTexts.{answer_data, reply_data, reply_text}
use Rattle.desk_words.specs.RefusalTexts.{table_fault_members, refusal_detail, refusal_data}
use Rattle.desk_words.proofs.WorkedRows.{morning}

-- ---- tables

turnovers_with_balances :
    reply_text (Done (TurnoverRows true ((record {
      group = Code (codes "nail") ∷ [];
      unit = Line (record { date = 758_192_400; doc = 7 }) 3;
      opening = [];
      receipt = pos 10000 ∷ pos 5000 ∷ [];
      expense = pos 0 ∷ pos 1 ∷ [];
      turnover = pos 10000 ∷ pos 4999 ∷ [];
      closing = [];
    }) ∷ []) (3 ∷ 2 ∷ [])))
    ≡ codes "{\"ok\":{\"rows\":[{\"expense\":[\"0.000\",\"0.01\"],\"group\":[\"nail\"],\""
    ++ codes "receipt\":[\"10.000\",\"50.00\"],\"turnover\":[\"10.000\",\"49.99\"],\"unit"
    ++ codes "\":\"2024-01-10T09:00:00#7/3\"}]}}"
unfolding reply_text reply_data answer_data move_row_data texts_data sum_text units_text
    number_text point_text date_text day_text second_text day_of day_from_year day_from_month
    escape_byte
turnovers_with_balances = refl

turnovers_without_balances :
    reply_text (Done (TurnoverRows false ((record {
      group = [];
      unit = Start 758_192_400;
      opening = [];
      receipt = [];
      expense = [];
      turnover = negsuc 0 ∷ [];
      closing = [];
    }) ∷ []) (0 ∷ [])))
    ≡ codes "{\"ok\":{\"rows\":[{\"group\":[],\"turnover\":[\"-1\"],\"unit\":\"2024-01-10"
    ++ codes "T09:00:00\"}]}}"
unfolding reply_text reply_data answer_data turnover_row_data texts_data sum_text units_text
    number_text date_text day_text second_text day_of day_from_year day_from_month escape_byte
turnovers_without_balances = refl

both_of_nails :
    reply_text (Done (BothRows ((record {
      group = Code (codes "nail") ∷ [];
      unit = At (record { date = 758_192_400; doc = 7 });
      opening = pos 1 ∷ [];
      receipt = pos 2 ∷ [];
      expense = pos 3 ∷ [];
      turnover = negsuc 0 ∷ [];
      closing = pos 0 ∷ [];
    }) ∷ []) (0 ∷ [])))
    ≡ codes "{\"ok\":{\"rows\":[{\"closing\":[\"0\"],\"expense\":[\"3\"],\"group\":[\"nai"
    ++ codes "l\"],\"opening\":[\"1\"],\"receipt\":[\"2\"],\"turnover\":[\"-1\"],\"unit\":"
    ++ codes "\"2024-01-10T09:00:00#7\"}]}}"
unfolding reply_text reply_data answer_data both_row_data texts_data sum_text units_text
    number_text point_text date_text day_text second_text day_of day_from_year day_from_month
    escape_byte
both_of_nails = refl

account_balances :
    reply_text (Done (HeldRows ((record {
      account = codes "10";
      extras = codes "nail" ∷ [];
      unit = Whole;
      open_dr = pos 0;
      open_cr = pos 0;
      turn_dr = pos 0;
      turn_cr = pos 0;
      close_dr = pos 5000;
      close_cr = pos 0;
    }) ∷ []) 2))
    ≡ codes "{\"ok\":{\"rows\":[{\"account\":\"10\",\"close_cr\":\"0.00\",\"close_dr\":\""
    ++ codes "50.00\",\"extras\":[\"nail\"]}]}}"
unfolding reply_text reply_data answer_data held_row_data texts_data sum_text units_text
    number_text escape_byte
account_balances = refl

account_turnovers :
    reply_text (Done (MovedRows ((record {
      account = codes "10";
      extras = [];
      unit = Whole;
      open_dr = pos 0;
      open_cr = pos 0;
      turn_dr = pos 1;
      turn_cr = pos 2;
      close_dr = pos 0;
      close_cr = pos 0;
    }) ∷ []) 0))
    ≡ codes "{\"ok\":{\"rows\":[{\"account\":\"10\",\"extras\":[],\"turn_cr\":\"2\",\"tur"
    ++ codes "n_dr\":\"1\",\"unit\":null}]}}"
unfolding reply_text reply_data answer_data moved_row_data texts_data sum_text units_text
    number_text escape_byte
account_turnovers = refl

account_both :
    reply_text (Done (WholeRows ((record {
      account = codes "10";
      extras = [];
      unit = Whole;
      open_dr = pos 1;
      open_cr = pos 2;
      turn_dr = pos 3;
      turn_cr = pos 4;
      close_dr = pos 5;
      close_cr = pos 6;
    }) ∷ []) 0))
    ≡ codes "{\"ok\":{\"rows\":[{\"account\":\"10\",\"close_cr\":\"6\",\"close_dr\":\"5\""
    ++ codes ",\"extras\":[],\"open_cr\":\"2\",\"open_dr\":\"1\",\"turn_cr\":\"4\",\"turn_"
    ++ codes "dr\":\"3\",\"unit\":null}]}}"
unfolding reply_text reply_data answer_data whole_row_data texts_data sum_text units_text
    number_text escape_byte
account_both = refl

pairs :
    reply_text (Done (PairRows ((record {
      debit = None;
      credit = Some (codes "001");
      amount = pos 5000;
    }) ∷ []) 2))
    ≡ codes "{\"ok\":{\"rows\":[{\"amount\":\"50.00\",\"credit\":\"001\",\"debit\":null}]}}"
unfolding reply_text reply_data answer_data pair_row_data sum_text units_text number_text
    escape_byte
pairs = refl

documents :
    reply_data (Done (DocumentRows ((record {
      number = 7;
      date = 758_192_400;
      kind = None;
      key = Some (codes "m-1");
      state = Posted;
    }) ∷ [])))
    ≡ object (member (codes "ok") (object (member (codes "rows") (array (item
    (object (member (codes "date") (string morning)
    (member (codes "doc") (number (unsigned 7))
    (member (codes "key") (string (codes "m-1"))
    (member (codes "kind") (string (codes "manual"))
    (member (codes "state") (string (codes "posted")) no_members))))))
    no_items)) no_members)) no_members)
unfolding reply_data answer_data document_row_data date_text day_text second_text day_of
    day_from_year day_from_month
documents = refl

-- ---- refusals

a_wrong_range :
    refusal_data (Table (BadRange 758_192_400 0))
    ≡ object (member (codes "code") (number (unsigned 19))
    (member (codes "fault") (number (unsigned 1))
    (member (codes "from") (string morning)
    (member (codes "name") (string (codes "Table"))
    (member (codes "to") (string (codes "2000-01-01T00:00:00")) no_members)))))
unfolding refusal_data refusal_detail table_fault_members date_text day_text second_text day_of
    day_from_year day_from_month
a_wrong_range = refl

too_many_rows :
    refusal_data (Table (TooManyRows 100_000))
    ≡ object (member (codes "code") (number (unsigned 19))
    (member (codes "fault") (number (unsigned 2))
    (member (codes "limit") (number (unsigned 100_000))
    (member (codes "name") (string (codes "Table")) no_members))))
unfolding refusal_data refusal_detail table_fault_members
too_many_rows = refl

an_unknown_dimension :
    refusal_data (Table (UnknownField (codes "colour")))
    ≡ object (member (codes "code") (number (unsigned 19))
    (member (codes "fault") (number (unsigned 3))
    (member (codes "field") (string (codes "colour"))
    (member (codes "name") (string (codes "Table")) no_members))))
unfolding refusal_data refusal_detail table_fault_members
an_unknown_dimension = refl
