-- What a desk knows: its setting, and what is committed.
use Rattle.std.specs.Prelude.{ℕ, List, []}
use Rattle.reg_base.specs.declared.records.Document.{Document}
use Rattle.cfg_model.specs.declared.config.Config.{Config}
use Rattle.rule_lang.specs.declared.rules.Rules.{Rules}
use Rattle.desk_words.specs.declared.request.Request.{Request}
use Rattle.desk_model.specs.declared.last.Last.{Last}

-- what a desk is set up with
pub record Setting : Type 0 where
  pub config : Config
  pub rules : Rules

-- the serial state: the documents in order of number, the greatest number that was ever committed,
-- the date before which nothing changes any more, and the last request of each clerk
pub record State : Type 0 where
  pub documents : List Document
  pub top : ℕ
  pub closed : ℕ
  pub lasts : List Last

-- a desk: its setting, the serial state that is committed, and how many bytes its journal has
pub record Desk : Type 0 where
  pub setting : Setting
  pub serial : State
  pub journal : ℕ

-- a request with the number that was drawn for its document, or 0
pub record Command : Type 0 where
  pub number : ℕ
  pub request : Request

-- nothing was committed yet, and the books are open from the first date on
abbrev pub first_state : State
first_state = record {
  documents = [];
  top = 0;
  closed = 0;
  lasts = [];
}

-- how many bytes a journal without entries has
abbrev pub first_journal : ℕ
first_journal = 23

-- a desk as it is opened over a journal without entries
abbrev pub first_desk : Setting → Desk
first_desk setting = record {
  setting = setting;
  serial = first_state;
  journal = first_journal;
}
