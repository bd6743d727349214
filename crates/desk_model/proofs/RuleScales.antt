-- The refusals of rules, of controls and of posting have their scales.
use Rattle.std.proofs.Common.{ℕ, pos, Bool, true, false, cond, Option, Some, None, IfSome}
use Rattle.std.proofs.Common.{List, [], ◌∷◌, ◌++◌, ◌&&◌, Result, Ok}
use Rattle.std.proofs.Common.{Err, slice_get, nat_le}
use Rattle.std.proofs.Common.{refl}
use Rattle.std.specs.Prelude.{int_lt}
use Rattle.reg_base.specs.declared.fault.PostFault.{PostFault}
use Rattle.reg_base.specs.declared.fault.PostFault.TheVariants.{Broken, Shortage, Overflow, Entry}
use Rattle.reg_base.specs.declared.fault.PostFault.TheVariants.{TooManyRecords, Negative}
use Rattle.reg_base.specs.declared.records.Doc.{Doc}
use Rattle.reg_base.specs.declared.records.DocState.TheVariants.{Posted}
use Rattle.reg_base.specs.declared.records.Document.{Document}
use Rattle.reg_base.specs.declared.value.Value.{Value}
use Rattle.reg_base.specs.Records.{Booked, records_of}
use Rattle.reg_base.specs.Balances.{groups_of, total}
use Rattle.reg_base.specs.Results.{unless, some_or, none_or}
use Rattle.cfg_model.specs.declared.config.Config.{Config}
use Rattle.cfg_model.specs.declared.register.Register.{Register}
use Rattle.cfg_model.specs.declared.register.Resource.{Resource}
use Rattle.post_model.specs.declared.made.Yield.{Yield}
use Rattle.post_model.specs.Yields.{yield_of}
use Rattle.desk_words.specs.declared.request.Write.{Write as WriteRequest}
use Rattle.desk_words.specs.declared.reply.Refusal.{Refusal}
use Rattle.desk_words.specs.declared.reply.Refusal.TheVariants.{UnknownDoc, WrongState, Closed}
use Rattle.desk_words.specs.declared.reply.Refusal.TheVariants.{Rule}
use Rattle.desk_words.specs.ReplyTexts.{RefusalHasScales}
use Rattle.desk_model.specs.declared.plan.Plan.{Plan}
use Rattle.desk_model.specs.declared.plan.Source.{Source}
use Rattle.desk_model.specs.declared.plan.Source.TheVariants.{ByHand, ByRules, Kept, Nothing}
use Rattle.desk_model.specs.declared.plan.Source.TheVariants.{Removed}
use Rattle.desk_model.specs.State.{Setting}
use Rattle.desk_model.specs.Plans.{Sight}
use Rattle.desk_model.specs.States.{named_is_seen, takes}
use Rattle.desk_model.specs.Posts.{is_unmarked_kind, is_posted_kind, plan_post, plan_standing}
use Rattle.desk_model.specs.Posts.{plan_unpost}
use Rattle.desk_model.specs.RecordSets.{no_sets, given_by_hand}
use Rattle.desk_model.specs.DocumentSets.{fault_scale, with_yield, document_from}
use Rattle.post_model.specs.Makes.{option_or}
use Rattle.desk_model.specs.Controls.{own_records, has_fallen, control_refusal, first_below}
use Rattle.desk_model.specs.Controls.{control_of, control_at}
use Rattle.desk_model.specs.Controls.{first_control, controls_of, control_fault}
use Rattle.desk_model.proofs.RefusalScales.{Plainly, then, test, there, with_given-plainly}
use Rattle.desk_model.proofs.RefusalScales.{named_is_seen-plainly, takes-plainly}
use Rattle.desk_model.proofs.RefusalScales.{plan_content-plainly}

-- ---- records by rules

fault_scale-plainly : (setting : Setting) (doc : Doc) (fault : PostFault) →
    RefusalHasScales (Rule fault (fault_scale setting doc fault))
fault_scale-plainly setting doc (Broken rule line code) = tt
fault_scale-plainly setting doc (Shortage rule line missing) = refl
fault_scale-plainly setting doc (Overflow rule line) = tt
fault_scale-plainly setting doc (Entry rule line fault) = tt
fault_scale-plainly setting doc TooManyRecords = tt
fault_scale-plainly setting doc (Negative rule line) = tt

with_yield-plainly : (setting : Setting) (doc : Doc) (made : Result Yield PostFault) →
    Plainly (with_yield setting doc made)
with_yield-plainly setting doc (Ok made) = tt
with_yield-plainly setting doc (Err fault) = fault_scale-plainly setting doc fault

pub document_from-plainly : (setting : Setting) (documents : List Document)
    (before : Option Document) (doc : Doc) (source : Source) →
    Plainly (document_from setting documents before doc source)
document_from-plainly setting documents before doc (ByHand given) =
    then (given_by_hand setting.config doc.date given) _
    (with_given-plainly setting.config doc.date (no_sets setting.config) given) (λ sets. tt)
document_from-plainly setting documents before doc ByRules =
    with_yield-plainly setting doc
    (yield_of setting.config setting.rules doc (λ register. records_of register documents))
document_from-plainly setting documents before doc Kept = tt
document_from-plainly setting documents before doc Nothing = tt
document_from-plainly setting documents before doc Removed = tt

-- ---- controls

-- a refusal that may be there has its scales
abbrev pub MayBePlain : Option Refusal → Type 0
MayBePlain fault = IfSome fault RefusalHasScales

none_or-plainly : (fault : Option Refusal) → MayBePlain fault → Plainly (none_or fault)
none_or-plainly None plain = tt
none_or-plainly (Some refusal) plain = plain

first_below-plainly : (register : Register) (resource : Resource) (place : ℕ)
    (before after all : List Booked) (combinations : List (List Value)) →
    MayBePlain (first_below register resource place before after all combinations)
first_below-plainly register resource place before after all [] = tt
first_below-plainly register resource place before after all (values ∷ more) =
    at (has_fallen place before after values && int_lt (total None values all place) (pos 0))
    (first_below-plainly register resource place before after all more)
  where
    at : (fails : Bool) →
        MayBePlain (first_below register resource place before after all more) →
        MayBePlain (cond fails (Some (control_refusal register resource values
        (total None values all place)))
        (first_below register resource place before after all more))
    at true others = tt
    at false others = others

control_of-plainly : (register : Register) (control : ℕ × ℕ) (documents : List Document)
    (before after : Option Document) (found : Option Resource) →
    MayBePlain (control_of register control documents before after found)
control_of-plainly register control documents before after None = tt
control_of-plainly register control documents before after (Some resource) =
    first_below-plainly register resource control.1 (own_records control.0 before)
    (own_records control.0 after) (records_of control.0 documents)
    (groups_of None (own_records control.0 before ++ own_records control.0 after))

control_at-plainly : (register : Option Register) (control : ℕ × ℕ) (documents : List Document)
    (before after : Option Document) →
    MayBePlain (control_at register control documents before after)
control_at-plainly None control documents before after = tt
control_at-plainly (Some register) control documents before after =
    control_of-plainly register control documents before after
    (slice_get register.resources control.1)

option_or-plain : (first other : Option Refusal) → MayBePlain first → MayBePlain other →
    MayBePlain (option_or first other)
option_or-plain None other plain others = others
option_or-plain (Some refusal) other plain others = plain

first_control-plainly : (config : Config) (controls : List (ℕ × ℕ)) (documents : List Document)
    (before after : Option Document) →
    MayBePlain (first_control config controls documents before after)
first_control-plainly config [] documents before after = tt
first_control-plainly config (control ∷ more) documents before after = option_or-plain
    (control_at (slice_get config.registers control.0) control documents before after)
    (first_control config more documents before after)
    (control_at-plainly (slice_get config.registers control.0) control documents before after)
    (first_control-plainly config more documents before after)

pub control_fault-plainly : (setting : Setting) (plan : Plan) (documents : List Document)
    (before after : Option Document) →
    Plainly (none_or (control_fault setting plan documents before after))
control_fault-plainly setting plan documents before after =
    none_or-plainly (control_fault setting plan documents before after)
    (first_control-plainly setting.config (controls_of setting plan) documents before after)

-- ---- plans

pub plan_post-plainly : (config : Config) (w : WriteRequest) (sight : Sight) →
    Plainly (plan_post config w sight)
unfolding plan_post
plan_post-plainly config w sight =
    then (named_is_seen w.doc sight.before) _ (named_is_seen-plainly w.doc sight.before)
    (λ u. then (takes is_unmarked_kind sight.before) _
    (takes-plainly is_unmarked_kind sight.before)
    (λ v. plan_content-plainly Posted ByRules config w sight))

pub plan_standing-plainly : (sight : Sight) → Plainly (plan_standing sight)
unfolding plan_standing
plan_standing-plainly sight =
    then (some_or sight.before UnknownDoc) _ (there _ UnknownDoc tt)
    (λ d. then (unless (is_unmarked_kind d.doc) (WrongState d.doc.state)) _
    (test _ (WrongState d.doc.state) tt)
    (λ u. then (unless (nat_le sight.closed d.doc.date) (Closed sight.closed)) _
    (test _ (Closed sight.closed) tt) (λ v. tt)))

pub plan_unpost-plainly : (sight : Sight) → Plainly (plan_unpost sight)
unfolding plan_unpost
plan_unpost-plainly sight =
    then (some_or sight.before UnknownDoc) _ (there _ UnknownDoc tt)
    (λ d. then (unless (is_posted_kind d.doc) (WrongState d.doc.state)) _
    (test _ (WrongState d.doc.state) tt)
    (λ u. then (unless (nat_le sight.closed d.doc.date) (Closed sight.closed)) _
    (test _ (Closed sight.closed) tt) (λ v. tt)))
