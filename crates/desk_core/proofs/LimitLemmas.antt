-- The limits of a desk, the first one that is passed, and that none is.
use Rattle.std.proofs.Common.{◌≡◌, Option}
use Rattle.std.proofs.Common.{Some, None, length, Result}
use Rattle.reg_base.specs.declared.records.Document.{Document}
use Rattle.reg_base.specs.Results.{◌>>=◌, unless, none_or}
use Rattle.desk_words.specs.declared.reply.Refusal.{Refusal}
use Rattle.desk_words.specs.declared.reply.Refusal.TheVariants.{Limit}
use Rattle.desk_words.specs.declared.reply.Limit.TheVariants.{Documents, Lines, Numbers}
use Rattle.desk_model.specs.declared.plan.Plan.{Plan}
use Rattle.desk_model.specs.State.{State}
use Rattle.desk_model.specs.Plans.{Sight}
use Rattle.desk_model.specs.Limits.{limits_of, records_limit, within_limit, documents_with_plan}
use Rattle.desk_model.specs.Limits.{number_is_left, greatest_number, most_documents, most_lines}

-- ---- the chain of the limits

-- four tests, each asked in its turn
abbrev chain : (documents records lines number : Result (Unit {0}) Refusal) →
    Result (Unit {0}) Refusal
chain documents records lines number =
    documents >>= λ _. records >>= λ _. lines >>= λ _. number

module _ (state : State) (sight : Sight) (plan : Plan)
    (made : Result (Option Document) Refusal) where
  abbrev documents_test : Result (Unit {0}) Refusal
  documents_test = within_limit Documents (documents_with_plan state sight) most_documents

  abbrev lines_test : Result (Unit {0}) Refusal
  lines_test = within_limit Lines (length plan.doc.lines) most_lines

  abbrev number_test : Result (Unit {0}) Refusal
  number_test = unless (number_is_left state sight) (Limit Numbers greatest_number)

  pub limits-documents : (refusal : Refusal) → none_or (Some refusal) ≡ documents_test →
      none_or (Some refusal) ≡ limits_of state sight plan made
  unfolding limits_of
  limits-documents refusal documents =
      λ i. chain (documents i) (records_limit state sight made) lines_test number_test

  pub limits-records : (refusal : Refusal) → none_or None ≡ documents_test →
      none_or (Some refusal) ≡ records_limit state sight made →
      none_or (Some refusal) ≡ limits_of state sight plan made
  unfolding limits_of
  limits-records refusal documents records =
      λ i. chain (documents i) (records i) lines_test number_test

  pub limits-lines : (refusal : Refusal) → none_or None ≡ documents_test →
      none_or None ≡ records_limit state sight made → none_or (Some refusal) ≡ lines_test →
      none_or (Some refusal) ≡ limits_of state sight plan made
  unfolding limits_of
  limits-lines refusal documents records lines =
      λ i. chain (documents i) (records i) (lines i) number_test

  pub limits-number : (passed : Option Refusal) → none_or None ≡ documents_test →
      none_or None ≡ records_limit state sight made → none_or None ≡ lines_test →
      none_or passed ≡ number_test → none_or passed ≡ limits_of state sight plan made
  unfolding limits_of
  limits-number passed documents records lines number =
      λ i. chain (documents i) (records i) (lines i) (number i)
