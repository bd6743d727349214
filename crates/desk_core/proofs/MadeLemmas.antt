-- What a plan makes, and what its effect is then.
use Rattle.std.proofs.Common.{◌≡◌, Option, Some, None, List, Result, Ok, Err, refl, ap, ◌∙◌}
use Rattle.reg_base.specs.declared.fault.PostFault.{PostFault}
use Rattle.reg_base.specs.declared.records.Doc.{Doc}
use Rattle.reg_base.specs.declared.records.Document.{Document}
use Rattle.reg_base.specs.declared.records.Sets.{Sets}
use Rattle.reg_base.specs.Records.{records_of}
use Rattle.reg_base.specs.Results.{◌>>=◌}
use Rattle.post_model.specs.declared.made.Yield.{Yield}
use Rattle.post_model.specs.Yields.{yield_of}
use Rattle.desk_words.specs.declared.reply.Refusal.{Refusal}
use Rattle.desk_model.specs.declared.plan.Plan.{Plan}
use Rattle.desk_model.specs.declared.plan.Source.{Source}
use Rattle.desk_model.specs.declared.plan.Source.TheVariants.{ByHand, ByRules, Kept, Nothing}
use Rattle.desk_model.specs.declared.plan.Source.TheVariants.{Removed}
use Rattle.desk_model.specs.State.{Setting, Desk}
use Rattle.desk_model.specs.Plans.{Sight}
use Rattle.desk_model.specs.Stops.{Stop}
use Rattle.desk_model.specs.RecordSets.{given_by_hand}
use Rattle.desk_model.specs.DocumentSets.{document_of, document_from, with_yield}
use Rattle.desk_model.specs.Serial.{made_at, plan_effect, work_effect}
use Rattle.desk_core.specs.declared.way.Way.{Way}
use Rattle.desk_core.specs.Outcomes.{IsPut, made_effect}
use Rattle.desk_core.specs.Ways.{entry_test, plan_limits, tests_in}

-- the head of a document that was made, or this one
abbrev doc_in : Doc → Result (Option Document) Refusal → Doc
doc_in doc (Ok (Some d)) = d.doc
doc_in doc (Ok None) = doc
doc_in doc (Err refusal) = doc

module _ (setting : Setting) (documents : List Document) (before : Option Document) (doc : Doc)
  where
    -- a document that is made has the plan's head
    pub made-own : (source : Source) (d : Document) →
        document_from setting documents before doc source ≡ Ok (Some d) → doc ≡ d.doc
    made-own (ByHand given) d e = at (given_by_hand setting.config doc.date given) e
      where
        at : (made : Result Sets Refusal) →
            (made >>= λ sets. Ok (Some (document_of doc sets))) ≡ Ok (Some d) → doc ≡ d.doc
        at (Ok sets) e = ap (doc_in doc) e
        at (Err refusal) e = ap (doc_in doc) e
    made-own ByRules d e = at
        (yield_of setting.config setting.rules doc (λ register. records_of register documents)) e
      where
        at : (made : Result Yield PostFault) → with_yield setting doc made ≡ Ok (Some d) →
            doc ≡ d.doc
        at (Ok made) e = ap (doc_in doc) e
        at (Err fault) e = ap (doc_in doc) e
    made-own Kept d e = ap (doc_in doc) e
    made-own Nothing d e = ap (doc_in doc) e
    made-own Removed d e = ap (doc_in doc) e

    -- and it is put
    pub made-put : (source : Source) (d : Document) →
        document_from setting documents before doc source ≡ Ok (Some d) → IsPut source
    made-put (ByHand given) d e = tt
    made-put ByRules d e = tt
    made-put Kept d e = tt
    made-put Nothing d e = tt
    made-put Removed d e = cc

    -- where none is made it is removed
    pub none-removed : (source : Source) →
        document_from setting documents before doc source ≡ Ok None → source ≡ Removed
    none-removed (ByHand given) e = at (given_by_hand setting.config doc.date given) e
      where
        at : (made : Result Sets Refusal) →
            (made >>= λ sets. Ok (Some (document_of doc sets))) ≡ Ok None → ByHand given ≡ Removed
        at (Ok sets) e = cc
        at (Err refusal) e = cc
    none-removed ByRules e = at
        (yield_of setting.config setting.rules doc (λ register. records_of register documents)) e
      where
        at : (made : Result Yield PostFault) → with_yield setting doc made ≡ Ok None →
            ByRules ≡ Removed
        at (Ok made) e = cc
        at (Err fault) e = cc
    none-removed Kept e = cc
    none-removed Nothing e = cc
    none-removed Removed e = refl

-- two tests and what stands behind them
then-then : {X : Type 0} (first second : Result (Unit {0}) Refusal) (rest : Result X Refusal) →
    (first >>= λ _. second >>= λ _. rest) ≡ ((first >>= λ _. second) >>= λ _. rest)
then-then (Ok u) second rest = refl
then-then (Err refusal) second rest = refl

-- the effect of a plan is that of what it makes
pub plan-made : (way : Way) (desk : Desk) (tested : Result (Unit {0}) Stop) (sight : Sight)
    (plan : Plan) (made : Result (Option Document) Refusal) →
    made_at desk.setting desk.serial sight plan ≡ made →
    plan_effect (tests_in way desk tested) desk.setting desk.serial sight.drawn sight plan
    ≡ made_effect way desk sight plan made
unfolding plan_effect
plan-made way desk tested sight plan made is =
    let first = made_at desk.setting desk.serial sight plan in
    then-then (plan_limits way desk sight plan first) (entry_test way desk)
    (first >>= work_effect desk.setting desk.serial sight.drawn sight plan)
    ∙ ap (made_effect way desk sight plan) is
