-- Private: what the desk keeps true of its documents.
use Rattle.std.specs.Prelude.{◌≡◌, ℕ, ◌≤◌, ◌<◌, ◌^◌, List, [], All, length}
use Rattle.reg_base.specs.declared.records.Document.{Document}
use Rattle.cfg_model.specs.declared.config.Config.{Config}
use Rattle.cfg_model.specs.Limits.{IsWithinLimits}
use Rattle.rule_lang.specs.declared.rules.Rules.{Rules}
use Rattle.doc_store.specs.Stores.{Stored}
use Rattle.desk_plans.specs.Bounds.{IsWithinBounds}
use Rattle.post_journal.specs.Images.{end_of_places}
use Rattle.desk_model.specs.Limits.{records_in}
use Rattle.desk_history.specs.Replays.{most_replayed_records}

-- documents have numbers up to the greatest one that was drawn, their records are counted, and
-- neither are more than a journal can bring
pub record AreKept (documents : List Document) (top records : ℕ) : Type 0 where
  pub numbered : All (λ d. d.doc.number ≤ top) documents
  pub short : All IsWithinBounds documents
  pub few : length documents < 2 ^ 32
  pub counted : records ≡ records_in documents
  pub within : records ≤ most_replayed_records

-- no document type has more than 64 statements
abbrev pub AreFewStatements : Rules → Type 0
AreFewStatements rules = All (λ statements. length statements ≤ 64) rules.kinds

-- what the desk keeps: a configuration within its limits, few statements a type, a store in which
-- nothing is staged, and a journal whose gate bytes stand where they may
pub record IsKept (config : Config) (rules : Rules) (store : Stored) (top records journal : ℕ)
    : Type 0 where
  pub limits : IsWithinLimits config
  pub statements : AreFewStatements rules
  pub staged : store.staged ≡ []
  pub kept : AreKept store.documents top records
  pub low : journal ≤ end_of_places
