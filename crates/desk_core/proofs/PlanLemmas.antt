-- What a plan comes to, once its document is made and the limits are asked.
use Rattle.std.proofs.Common.{◌≡◌, ℕ, ◌+◌, ◌-◌, ◌≤◌, Bool, true, false, cond, max, nat_le}
use Rattle.std.proofs.Common.{Option, Some, None, IsSome, is_none, length, Result, Ok, Err}
use Rattle.std.proofs.Common.{refl, ap, ◌∙◌, sym, subst, arith}
use Rattle.std.proofs.lemmas.Bool.Decides.{nat_tests}
use Rattle.reg_base.specs.declared.records.Doc.{Doc}
use Rattle.reg_base.specs.declared.records.Document.{Document}
use Rattle.reg_base.specs.Documents.{document_at, with_document, without_document}
use Rattle.reg_base.specs.Results.{◌>>=◌, unless, none_or}
use Rattle.desk_words.specs.declared.reply.Refusal.{Refusal}
use Rattle.desk_words.specs.declared.reply.Refusal.TheVariants.{Limit}
use Rattle.desk_words.specs.declared.reply.Limit.{Limit as LimitOf}
use Rattle.desk_words.specs.declared.reply.Limit.TheVariants.{Documents, Records}
use Rattle.desk_words.specs.declared.reply.Acknowledgement.TheVariants.{Document as Stands, Swept}
use Rattle.desk_words.specs.declared.reply.Answer.TheVariants.{Acknowledged}
use Rattle.desk_model.specs.declared.plan.Plan.{Plan}
use Rattle.desk_model.specs.declared.plan.Source.{Source}
use Rattle.desk_model.specs.declared.plan.Source.TheVariants.{ByHand, ByRules, Kept, Nothing}
use Rattle.desk_model.specs.declared.plan.Source.TheVariants.{Removed}
use Rattle.desk_model.specs.State.{State, Desk}
use Rattle.desk_model.specs.Plans.{Sight}
use Rattle.desk_model.specs.States.{number_with}
use Rattle.desk_model.specs.Limits.{limits_of, records_limit, within_limit, record_count}
use Rattle.desk_model.specs.Limits.{records_in, records_before, records_with, most_documents}
use Rattle.desk_model.specs.Limits.{most_kept_records, documents_with_plan}
use Rattle.desk_model.specs.Controls.{control_fault, controls_of, first_control}
use Rattle.desk_model.specs.Effects.{Effect, effect_with, acknowledgement_of, documents_with}
use Rattle.desk_model.specs.Serial.{work_effect}
use Rattle.desk_model.specs.Stops.{or_stop}
use Rattle.desk_core.specs.declared.outcome.Change.TheVariants.{Put, Remove}
use Rattle.desk_words.specs.declared.reply.Reply.TheVariants.{Refused}
use Rattle.desk_core.specs.declared.outcome.Outcome.TheVariants.{Replies, Changes}
use Rattle.desk_core.specs.Invariants.{AreKept}
use Rattle.desk_plans.specs.Bounds.{IsWithinBounds}
use Rattle.desk_core.specs.DeskViews.{Fits}
use Rattle.desk_core.specs.Outcomes.{Comes, IsPut, Leaves, MayMake, made_effect}
use Rattle.desk_core.specs.declared.way.Way.{Way}
use Rattle.desk_core.specs.declared.way.Way.TheVariants.{Served, Replayed}
use Rattle.desk_core.specs.Ways.{limits_in}
use Rattle.desk_plans.specs.Sights.{Suits, RemovesOne}
use Rattle.desk_core.specs.SeenStates.{IsSightOf, sight_at}
use Rattle.desk_core.proofs.DocumentLists.{number-at, All-at, records-with, length-with}

-- ---- what is seen

-- the document that is seen stands at its number, and no number is drawn beside it
record IsThere (state : State) (sight : Sight) (b : Document) : Type 0 where
  at_number : document_at b.doc.number state.documents ≡ Some b
  undrawn : sight.drawn ≡ 0

seen-there : (way : Way) (state : State) (sight : Sight) → IsSightOf way state sight → (b :
    Document) →
    sight.before ≡ Some b → IsThere state sight b
seen-there way state sight seen b is = at seen.doc seen.same
  where
    at : (doc : Option ℕ) → sight ≡ sight_at way state doc seen.key → IsThere state sight b
    at None same = let none : sight.before ≡ None = ap (λ (s : Sight). s.before) same in cc
    at (Some n) same =
        let found : document_at n state.documents ≡ Some b =
        sym (ap (λ (s : Sight). s.before) same) ∙ is in
        record {
          at_number = subst (λ k. document_at k state.documents ≡ Some b)
              (sym (number-at n state.documents b found)) found;
          undrawn = ap (λ (s : Sight). s.drawn) same;
        }

-- the document that is seen has short lists, as all have
pub seen-short : (way : Way) (state : State) (sight : Sight) (top records : ℕ) →
    AreKept state.documents top records → IsSightOf way state sight → (b : Document) →
    sight.before ≡ Some b → IsWithinBounds b
seen-short way state sight top records kept seen b is = All-at IsWithinBounds b.doc.number
    state.documents b kept.short (seen-there way state sight seen b is).at_number

-- ---- limits that are not passed

then-passed : (first : Result (Unit {0}) Refusal) (rest : Result (Unit {0}) Refusal) →
    (first >>= λ _. rest) ≡ Ok tt → (first ≡ Ok tt) × (rest ≡ Ok tt)
then-passed (Ok u) rest h = (refl, h)
then-passed (Err refusal) rest h = cc

within-passed : (which : LimitOf) (count most : ℕ) → within_limit which count most ≡ Ok tt →
    count ≤ most
within-passed which count most h = at (nat_le count most) refl h
  where
    at : (b : Bool) → nat_le count most ≡ b → unless b (Limit which most) ≡ Ok tt → count ≤ most
    at true is e = grind (arith, nat_tests)
    at false is e = cc

-- neither too many documents nor too many records
record PassesNone (state : State) (sight : Sight) (document : Document) : Type 0 where
  documents : documents_with_plan state sight ≤ most_documents
  records : records_with state sight (Some document) ≤ most_kept_records

limits-none : (state : State) (sight : Sight) (plan : Plan) (document : Document) →
    limits_of state sight plan (Ok (Some document)) ≡ Ok tt → PassesNone state sight document
unfolding limits_of
limits-none state sight plan document h =
    let first = then-passed (within_limit Documents (documents_with_plan state sight)
    most_documents) _ h in
    let second = then-passed (records_limit state sight (Ok (Some document))) _ first.1 in
    record {
      documents = within-passed Documents _ _ first.0;
      records = within-passed Records _ _ second.0;
    }

-- ---- limits, and documents that can't be made

-- a limit that is passed is told first
pub limit-comes : (way : Way) (desk : Desk) (sight : Sight) (plan : Plan)
    (made : Result (Option Document) Refusal) (refusal : Refusal) →
    limits_in way desk sight plan made ≡ Err refusal →
    Comes way desk (or_stop (made_effect way desk sight plan made)) (Replies (Refused refusal))
limit-comes way desk sight plan made refusal passed =
    subst (λ (r : Result (Unit {0}) Refusal). Comes way desk (or_stop (r >>= λ _. made >>=
    work_effect desk.setting desk.serial sight.drawn sight plan)) (Replies (Refused refusal)))
    (sym passed) refl

-- and else why it can't be made
pub unmade-comes : (way : Way) (desk : Desk) (sight : Sight) (plan : Plan) (refusal : Refusal) →
    limits_in way desk sight plan (Err refusal) ≡ Ok tt →
    Comes way desk (or_stop (made_effect way desk sight plan (Err refusal)))
    (Replies (Refused refusal))
unmade-comes way desk sight plan refusal passed =
    subst (λ (r : Result (Unit {0}) Refusal). Comes way desk (or_stop (r >>= λ _. Err refusal >>=
    work_effect desk.setting desk.serial sight.drawn sight plan)) (Replies (Refused refusal)))
    (sym passed) refl

-- ---- a document that is put

module _ (way : Way) (desk : Desk) (sight : Sight) (plan : Plan) (document : Document)
    (seen : IsSightOf way desk.serial sight) (suits : Suits sight plan)
    (own : plan.doc ≡ document.doc) where
  number : document.doc.number ≡ number_with sight
  number = ap (λ (d : Doc). d.number) (sym own) ∙ suits.number

  -- one more at the most
  few : (before : Option Document) → sight.before ≡ before →
      length desk.serial.documents + cond (is_none before) 1 0 ≤ most_documents →
      length (with_document document desk.serial.documents) ≤ most_documents
  few None is h =
      omega (
        arith,
        h,
        length-with document desk.serial.documents,
        one (is_none (document_at document.doc.number desk.serial.documents)),
      )
    where
      one : (b : Bool) → cond b 1 0 ≤ 1
      one true = omega arith
      one false = omega arith
  few (Some b) is h =
      let there = seen-there way desk.serial sight seen b is in
      let same : document.doc.number ≡ b.doc.number = number
      ∙ (λ i. number_with (record sight { before = is i })) in
      let found : document_at document.doc.number desk.serial.documents ≡ Some b =
      ap (λ n. document_at n desk.serial.documents) same ∙ there.at_number in
      let count : length (with_document document desk.serial.documents)
      ≡ length desk.serial.documents + 0 = length-with document desk.serial.documents
      ∙ ap (λ (o : Option Document). length desk.serial.documents + cond (is_none o) 1 0) found in
      omega (arith, h, count)

  within : (before : Option Document) → sight.before ≡ before →
      records_in desk.serial.documents + (record_count document - records_before before)
      ≤ most_kept_records →
      records_in (with_document document desk.serial.documents) ≤ most_kept_records
  within None is h = omega (arith, h, records-with document desk.serial.documents)
  within (Some b) is h =
      let there = seen-there way desk.serial sight seen b is in
      let same : document.doc.number ≡ b.doc.number = number
      ∙ (λ i. number_with (record sight { before = is i })) in
      let found : document_at document.doc.number desk.serial.documents ≡ Some b =
      ap (λ n. document_at n desk.serial.documents) same ∙ there.at_number in
      let count : records_in (with_document document desk.serial.documents) + record_count b
      ≡ records_in desk.serial.documents + record_count document =
      subst (λ (o : Option Document). records_in (with_document document desk.serial.documents)
      + records_before o ≡ records_in desk.serial.documents + record_count document) found
      (records-with document desk.serial.documents) in
      omega (arith, h, count)

  fits : IsWithinBounds document → PassesNone desk.serial sight document → Fits desk document
  fits short none =
      let fewer = few sight.before refl none.documents in
      let fewer_records = within sight.before refl none.records in
      record {
        short = short;
        few = omega (arith, fewer);
        within = omega (arith, fewer_records);
      }

  -- a desk may put a document that passes its limits, and a replay asks later
  may_put : IsWithinBounds document → limits_in way desk sight plan (Ok (Some document)) ≡ Ok tt →
      MayMake way desk (Put document)
  may_put short passed = at way passed
    where
      at : (way : Way) → limits_in way desk sight plan (Ok (Some document)) ≡ Ok tt →
          MayMake way desk (Put document)
      at (Served entry) h = fits short (limits-none desk.serial sight plan document
          (then-passed (limits_of desk.serial sight plan (Ok (Some document))) _ h).0)
      at (Replayed drawn) h = short

  acknowledged : (source : Source) → IsPut source → acknowledgement_of plan.doc source
      ≡ Stands document.doc.active document.doc.number document.doc.state
  acknowledged (ByHand given) put =
      ap (λ (d : Doc). Stands d.active d.number d.state) own
  acknowledged ByRules put = ap (λ (d : Doc). Stands d.active d.number d.state) own
  acknowledged Kept put = ap (λ (d : Doc). Stands d.active d.number d.state) own
  acknowledged Nothing put = ap (λ (d : Doc). Stands d.active d.number d.state) own
  acknowledged Removed put = absurd put

  -- the greatest number is raised by the drawn one alone
  raised : (top records : ℕ) → AreKept desk.serial.documents top records →
      (before : Option Document) → sight.before ≡ before → max top sight.drawn
      ≡ max top document.doc.number
  raised top records kept None is =
      let drawn : document.doc.number ≡ sight.drawn = number
      ∙ (λ i. number_with (record sight { before = is i })) in ap (max top) (sym drawn)
  raised top records kept (Some b) is =
      let there = seen-there way desk.serial sight seen b is in
      let same : document.doc.number ≡ b.doc.number = number
      ∙ (λ i. number_with (record sight { before = is i })) in
      let low : b.doc.number ≤ top = All-at (λ d. d.doc.number ≤ top) b.doc.number
      desk.serial.documents b kept.numbered there.at_number in
      omega (arith, low, same, there.undrawn)

  put-leaves : (records : ℕ) → AreKept desk.serial.documents desk.serial.top records →
      IsPut plan.source → MayMake way desk (Put document) →
      Leaves way desk (effect_with desk.serial sight.drawn plan
      (record { before = sight.before; after = Some document })) (Put document)
      (Stands document.doc.active document.doc.number document.doc.state)
  put-leaves records kept put may = record {
    answer_is = ap Acknowledged (acknowledged plan.source put);
    state_is = ap (λ n. record desk {
      serial = record desk.serial {
        documents = with_document document desk.serial.documents;
        top = n;
      };
    }) (raised desk.serial.top records kept sight.before refl);
    may = may;
  }

  -- behind the limits stand the controls
  limits-passed : limits_in way desk sight plan (Ok (Some document)) ≡ Ok tt →
      made_effect way desk sight plan (Ok (Some document))
      ≡ work_effect desk.setting desk.serial sight.drawn sight plan (Some document)
  limits-passed passed = ap (λ (r : Result (Unit {0}) Refusal). r >>= λ _.
      work_effect desk.setting desk.serial sight.drawn sight plan (Some document)) passed

  pub put-comes : (records : ℕ) → AreKept desk.serial.documents desk.serial.top records →
      IsWithinBounds document → IsPut plan.source →
      limits_in way desk sight plan (Ok (Some document)) ≡ Ok tt →
      control_fault desk.setting plan (with_document document desk.serial.documents) sight.before
      (Some document) ≡ None →
      Comes way desk (or_stop (made_effect way desk sight plan (Ok (Some document))))
      (Changes (Put document)
      (Stands document.doc.active document.doc.number document.doc.state))
  unfolding work_effect
  put-comes records kept short put passed held =
      let P : Result Effect Refusal → Type 0 = λ effect. Comes way desk (or_stop effect)
      (Changes (Put document)
      (Stands document.doc.active document.doc.number document.doc.state)) in
      subst P (sym (limits-passed passed
      ∙ ap (λ (f : Option Refusal). none_or f >>= λ _. Ok (effect_with desk.serial sight.drawn plan
      (record { before = sight.before; after = Some document }))) held))
      (put-leaves records kept put (may_put short passed))

  -- a control that fails refuses the document
  pub control-comes : (refusal : Refusal) →
      limits_in way desk sight plan (Ok (Some document)) ≡ Ok tt →
      control_fault desk.setting plan (with_document document desk.serial.documents) sight.before
      (Some document) ≡ Some refusal →
      Comes way desk (or_stop (made_effect way desk sight plan (Ok (Some document))))
      (Replies (Refused refusal))
  unfolding work_effect
  control-comes refusal passed failed =
      let P : Result Effect Refusal → Type 0 = λ effect. Comes way desk (or_stop effect)
      (Replies (Refused refusal)) in
      subst P (sym (limits-passed passed
      ∙ ap (λ (f : Option Refusal). none_or f >>= λ _. Ok (effect_with desk.serial sight.drawn plan
      (record { before = sight.before; after = Some document }))) failed)) refl

-- ---- a document that is removed

module _ (way : Way) (desk : Desk) (sight : Sight) (plan : Plan)
    (seen : IsSightOf way desk.serial sight)
    (suits : Suits sight plan) (removed : plan.source ≡ Removed) where
  may_remove : (way : Way) → MayMake way desk (Remove plan.doc.number)
  may_remove (Served entry) = tt
  may_remove (Replayed drawn) = tt

  remove-leaves : (before : Option Document) → sight.before ≡ before → IsSome before →
      Leaves way desk (effect_with desk.serial sight.drawn plan
      (record { before = sight.before; after = None })) (Remove plan.doc.number)
      (Swept plan.doc.number)
  remove-leaves None is some = cc
  remove-leaves (Some b) is some =
      let there = seen-there way desk.serial sight seen b is in
      let same : plan.doc.number ≡ b.doc.number = suits.number
      ∙ (λ i. number_with (record sight { before = is i })) in
      let top : max desk.serial.top sight.drawn ≡ desk.serial.top =
      omega (arith, there.undrawn) in
      record {
        answer_is = ap (λ (s : Source). Acknowledged (acknowledgement_of plan.doc s)) removed;
        state_is = (λ i. record desk {
          serial = record desk.serial {
            documents = documents_with (is i) None desk.serial.documents;
            top = top i;
          };
        })
            ∙ ap (λ n. record desk {
              serial = record desk.serial { documents = without_document n desk.serial.documents };
            }) (sym same);
        may = may_remove way;
      }

  -- nothing is controlled where a document is removed
  uncontrolled : control_fault desk.setting plan
      (documents_with sight.before None desk.serial.documents) sight.before None ≡ None
  uncontrolled = ap (λ (p : Source). first_control desk.setting.config
      (controls_of desk.setting (record plan { source = p }))
      (documents_with sight.before None desk.serial.documents) sight.before None) removed

  pub remove-comes : limits_in way desk sight plan (Ok None) ≡ Ok tt →
      Comes way desk (or_stop (made_effect way desk sight plan (Ok None)))
      (Changes (Remove plan.doc.number) (Swept plan.doc.number))
  unfolding work_effect
  remove-comes passed =
      let P : Result Effect Refusal → Type 0 = λ effect. Comes way desk (or_stop effect)
      (Changes (Remove plan.doc.number) (Swept plan.doc.number)) in
      subst P (sym (ap (λ (r : Result (Unit {0}) Refusal). r >>= λ _.
      work_effect desk.setting desk.serial sight.drawn sight plan None) passed
      ∙ ap (λ (f : Option Refusal). none_or f >>= λ _. Ok (effect_with desk.serial sight.drawn plan
      (record { before = sight.before; after = None }))) uncontrolled))
      (remove-leaves sight.before refl
      (subst (RemovesOne sight.before) removed suits.removes))
