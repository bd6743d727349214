-- What a desk accepts, the serial machine accepts.
use Rattle.std.proofs.Common.{◌≡◌, ℕ, ◌+◌, ◌<◌, ◌≤◌, Bool, true, false, ◌&&◌, cond, nat_lt, Some}
use Rattle.std.proofs.Common.{None, Option, is_none, nat_le, length, List, [], ◌∷◌, All}
use Rattle.std.proofs.Common.{Result, Ok, Err, refl, ap, ◌∙◌, sym, arith}
use Rattle.std.proofs.lemmas.List.Elements.{All-head, All-tail}
use Rattle.std.proofs.lemmas.Bool.Decides.{nat_tests}
use Rattle.std.specs.Cmp.{nat_cmp_is}
use Rattle.std.specs.Ordering.{match_ordering, nat_cmp}
use Rattle.std.specs.declared.cmp.Ordering.TheVariants.{Greater}
use Rattle.reg_base.specs.declared.records.Document.{Document}
use Rattle.reg_base.specs.Results.{◌>>=◌, unless}
use Rattle.desk_words.specs.declared.request.Request.{Request}
use Rattle.desk_words.specs.declared.reply.Refusal.{Refusal}
use Rattle.desk_words.specs.declared.request.Request.TheVariants.{Write, Post, Unpost, Mark, Manual}
use Rattle.desk_words.specs.declared.request.Request.TheVariants.{Activity, Close, Sweep, Balance}
use Rattle.desk_words.specs.declared.request.Request.TheVariants.{Doc, Turnovers, Both, Documents}
use Rattle.desk_words.specs.declared.request.Request.TheVariants.{AccountBalance, AccountTurnovers}
use Rattle.desk_words.specs.declared.request.Request.TheVariants.{AccountBoth, DrCr}
use Rattle.desk_words.specs.declared.request.Post.TheVariants.{Content, Standing}
use Rattle.desk_words.specs.declared.reply.Refusal.TheVariants.{UnknownClerk, NotAllowed, Limit}
use Rattle.desk_words.specs.declared.reply.Limit.TheVariants.{Documents, Lines, Numbers}
use Rattle.reg_base.specs.Documents.{document_at}
use Rattle.desk_model.specs.declared.plan.Plan.{Plan}
use Rattle.desk_model.specs.State.{Setting, State, Desk}
use Rattle.desk_model.specs.Plans.{Sight, Change, Deed, changes, closes, asks}
use Rattle.desk_model.specs.Effects.{Effect, Tests, no_tests, close_effect}
use Rattle.desk_model.specs.Stops.{Stop, refuses, or_stop}
use Rattle.desk_model.specs.Limits.{greatest_number, most_documents, most_lines, within_limit}
use Rattle.desk_model.specs.Limits.{documents_with_plan, records_limit, number_is_left, limits_of}
use Rattle.desk_model.specs.Serial.{sight_of, made_at, work_effect, plan_effect, change_effect}
use Rattle.desk_model.specs.Serial.{deed_effect, effect_of, is_drawn, bad_number}
use Rattle.desk_model.specs.Serial.{or_fault, serial}
use Rattle.desk_model.specs.Clerks.{is_clerk, is_allowed}
use Rattle.desk_model.specs.Desk.{meaning_at, command_at, tests_of, next_number}
use Rattle.desk_model.specs.Laws.{AreNumbered, Replays}

-- ---- a number above all others is free

nat_cmp-Greater : (m n : ℕ) → n < m → nat_cmp m n ≡ Greater
nat_cmp-Greater m n h = sym (nat_cmp_is m n Greater h)

-- no document has a number above all others
document_at-above : (number top : ℕ) (documents : List Document) →
    All (λ d. d.doc.number ≤ top) documents → top < number → document_at number documents ≡ None
document_at-above number top [] all above = refl
document_at-above number top (d ∷ ds) all above =
    let P : Document → Type 0 = λ x. x.doc.number ≤ top in
    let first : d.doc.number ≤ top = All-head P d ds all in
    let greater : d.doc.number < number = omega arith in
    ap (λ o. match_ordering o None (Some d) (document_at number ds))
    (nat_cmp-Greater number d.doc.number greater)
    ∙ document_at-above number top ds (All-tail P d ds all) above

-- a number behind one that is at most another is below that
below-after : (top most : ℕ) → nat_le (top + 1) most ≡ true → nat_lt top most ≡ true
below-after top most h = grind (arith, nat_tests)

-- the next number may be drawn where one is left
is_drawn-next : (state : State) → AreNumbered state →
    nat_le (state.top + 1) greatest_number ≡ true → is_drawn state true (next_number state) ≡ true
is_drawn-next state numbered left =
    let free = document_at-above (state.top + 1) state.top state.documents numbered (omega arith) in
    let some : nat_lt 0 (state.top + 1) ≡ true = grind (arith, nat_tests) in
    ap (λ b. is_drawn state true (cond b (state.top + 1) 0))
    (below-after state.top greatest_number left)
    ∙ ap (λ d. nat_lt 0 (state.top + 1) && is_none d) free ∙ ap (λ b. b && true) some

-- ---- tests that passed can be left out

-- what stands behind the limits of a plan
abbrev behind : Setting → State → ℕ → Sight → Plan → Result Effect Refusal
behind setting state number sight plan =
    made_at setting state sight plan >>= work_effect setting state number sight plan

-- a plan that has an effect passed the limits, and has it without them
record Passes (tests : Tests) (setting : Setting) (state : State) (number : ℕ) (change : Change)
    (effect : Effect) : Type 0 where
  plan : Plan
  passed : tests.limits (sight_of state number change) plan
      (made_at setting state (sight_of state number change) plan) ≡ Ok tt
  entered : tests.entry ≡ Ok tt
  same : change_effect no_tests setting state number change ≡ Ok effect

change_effect-passes : (tests : Tests) (setting : Setting) (state : State) (number : ℕ)
    (change : Change) (effect : Effect) →
    change_effect tests setting state number change ≡ Ok effect →
    Passes tests setting state number change effect
unfolding change_effect plan_effect
change_effect-passes tests setting state number change effect accepted =
    at (change.plan (sight_of state number change)) refl accepted
  where
    sight : Sight
    sight = sight_of state number change

    test : (plan : Plan) → change.plan sight ≡ Ok plan →
        (tested entered : Result (Unit {0}) Refusal) →
        tests.limits sight plan (made_at setting state sight plan) ≡ tested →
        tests.entry ≡ entered →
        (tested >>= λ _. entered >>= λ _. behind setting state number sight plan) ≡ Ok effect →
        Passes tests setting state number change effect
    test plan planned (Ok u) (Ok v) is enters h = record {
      plan = plan;
      passed = is;
      entered = enters;
      same = ap (λ (r : Result Plan Refusal). r >>= λ p. behind setting state number sight p)
          planned ∙ h;
    }
    test plan planned (Ok u) (Err refusal) is enters h = cc
    test plan planned (Err refusal) entered is enters h = cc

    at : (planned : Result Plan Refusal) → change.plan sight ≡ planned →
        (planned >>= λ plan. tests.limits sight plan (made_at setting state sight plan)
        >>= λ _. tests.entry >>= λ _. behind setting state number sight plan) ≡ Ok effect
        → Passes tests setting state number change effect
    at (Ok plan) is h =
        test plan is (tests.limits sight plan (made_at setting state sight plan)) tests.entry refl
        refl h
    at (Err refusal) is h = cc

-- what stands behind a test that was passed
then_rest : (tested : Result (Unit {0}) Refusal) (rest : Result Effect Refusal) (effect : Effect) →
    (tested >>= λ _. rest) ≡ Ok effect → rest ≡ Ok effect
then_rest (Ok u) rest effect h = h
then_rest (Err refusal) rest effect h = cc

deed_effect-no_tests : (tests : Tests) (setting : Setting) (state : State) (number : ℕ)
    (deed : Deed) (effect : Effect) → deed_effect tests setting state number deed ≡ Ok effect →
    deed_effect no_tests setting state number deed ≡ Ok effect
deed_effect-no_tests tests setting state number (changes change) effect h =
    (change_effect-passes tests setting state number change effect h).same
deed_effect-no_tests tests setting state number (closes date) effect h =
    then_rest tests.entry (Ok (close_effect state date)) effect h
deed_effect-no_tests tests setting state number (asks question) effect h = h

-- ---- a number that was drawn is free

unless-passed : {F : Type 0} (b : Bool) (fault : F) → unless b fault ≡ Ok tt → b ≡ true
unless-passed true fault h = refl
unless-passed false fault h = cc

-- where a test and others behind it were passed, the others were
rest-passed : {F : Type 0} (first rest : Result (Unit {0}) F) → (first >>= λ _. rest) ≡ Ok tt →
    rest ≡ Ok tt
rest-passed (Ok u) rest h = h
rest-passed (Err fault) rest h = cc

-- where the limits of a desk were passed, a number was left
limits_of-left : (state : State) (sight : Sight) (plan : Plan)
    (made : Result (Option Document) Refusal) → limits_of state sight plan made ≡ Ok tt →
    number_is_left state sight ≡ true
unfolding limits_of
limits_of-left state sight plan made h =
    unless-passed (number_is_left state sight) (Limit Numbers greatest_number)
    (rest-passed (within_limit Lines (length plan.doc.lines) most_lines) _
    (rest-passed (records_limit state sight made) _
    (rest-passed (within_limit Documents (documents_with_plan state sight) most_documents) _ h)))

-- a change that a desk accepts has a number of its own exactly where it draws one
making-drawn : (tested : Result (Unit {0}) Stop) (entry : Result (Unit {0}) Refusal)
    (setting : Setting) (state : State) (doc : Option ℕ) (key : Option (List ℕ))
    (plan : Sight → Result Plan Refusal) (effect : Effect) → AreNumbered state →
    change_effect (record { number = tested; limits = limits_of state; entry = entry }) setting
    state
    (cond (is_none doc) (next_number state) 0) (record { doc = doc; key = key; plan = plan })
    ≡ Ok effect →
    is_drawn state (is_none doc) (cond (is_none doc) (next_number state) 0) ≡ true
making-drawn tested entry setting state None key plan effect numbered h =
    let passes = change_effect-passes
    (record { number = tested; limits = limits_of state; entry = entry }) setting state
    (next_number state) (record { doc = None; key = key; plan = plan }) effect h in
    is_drawn-next state numbered (limits_of-left state _ passes.plan _ passes.passed)
making-drawn tested entry setting state (Some number) key plan effect numbered h = refl

-- so has each request that a desk accepts
drawn-at : (desk : Desk) (request : Request) (effect : Effect) → AreNumbered desk.serial →
    deed_effect (tests_of desk (meaning_at desk request) request) desk.setting
    desk.serial (command_at desk request).number (meaning_at desk request).deed ≡ Ok effect →
    is_drawn desk.serial (meaning_at desk request).draws (command_at desk request).number ≡ true
drawn-at desk (Write w) effect numbered h =
    making-drawn _ _ desk.setting desk.serial w.doc w.key _ effect numbered h
drawn-at desk (Post (Content w)) effect numbered h =
    making-drawn _ _ desk.setting desk.serial w.doc w.key _ effect numbered h
drawn-at desk (Post (Standing s)) effect numbered h = refl
drawn-at desk (Unpost u) effect numbered h = refl
drawn-at desk (Mark m) effect numbered h = refl
drawn-at desk (Manual m) effect numbered h =
    making-drawn _ _ desk.setting desk.serial m.doc m.key _ effect numbered h
drawn-at desk (Activity m) effect numbered h = refl
drawn-at desk (Close c) effect numbered h = refl
drawn-at desk (Sweep s) effect numbered h = refl
drawn-at desk (Balance b) effect numbered h = refl
drawn-at desk (Turnovers t) effect numbered h = refl
drawn-at desk (Both b) effect numbered h = refl
drawn-at desk (AccountBalance b) effect numbered h = refl
drawn-at desk (AccountTurnovers t) effect numbered h = refl
drawn-at desk (AccountBoth t) effect numbered h = refl
drawn-at desk (DrCr q) effect numbered h = refl
drawn-at desk (Documents q) effect numbered h = refl
drawn-at desk (Doc q) effect numbered h = refl

-- a stop is no effect
or_stop-Ok : (tried : Result Effect Refusal) (effect : Effect) → or_stop tried ≡ Ok effect →
    tried ≡ Ok effect
or_stop-Ok (Ok e) effect h = let same : e ≡ effect = cc in ap Ok same
or_stop-Ok (Err refusal) effect h = cc

pub Replays-always : (desk : Desk) (request : Request) → Replays desk request
unfolding effect_of serial
Replays-always desk request = known (is_clerk desk.setting.config (meaning_at desk request).clerk)
    (is_allowed desk.setting.config (meaning_at desk request).clerk (meaning_at desk request).right)
    (tests_of desk (meaning_at desk request) request).number
  where
    known : (b allowed : Bool) (numbered : Result (Unit {0}) Stop) (effect : Effect) →
        AreNumbered desk.serial
        → (unless b (refuses UnknownClerk) >>= λ _. unless allowed
        (refuses (NotAllowed (meaning_at desk request).right)) >>= λ _. numbered >>= λ _. or_stop
        (deed_effect (tests_of desk (meaning_at desk request) request) desk.setting
        desk.serial (command_at desk request).number (meaning_at desk request).deed)) ≡ Ok effect
        → (unless (is_drawn desk.serial (meaning_at desk request).draws
        (command_at desk request).number) bad_number >>= λ _. or_fault
        (unless b (refuses UnknownClerk) >>= λ _. unless allowed
        (refuses (NotAllowed (meaning_at desk request).right)) >>= λ _. or_stop
        (deed_effect no_tests desk.setting desk.serial (command_at desk request).number
        (meaning_at desk request).deed))) ≡ Ok effect
    known true true (Ok u) effect numbered h =
        let tests = tests_of desk (meaning_at desk request) request in
        let tried = or_stop-Ok (deed_effect tests desk.setting desk.serial
        (command_at desk request).number (meaning_at desk request).deed) effect h in
        let dropped = deed_effect-no_tests tests desk.setting desk.serial
        (command_at desk request).number (meaning_at desk request).deed effect tried in
        let drawn = drawn-at desk request effect numbered tried in
        ap (λ b. unless b bad_number >>= λ _. or_fault
        (or_stop (deed_effect no_tests desk.setting desk.serial (command_at desk request).number
        (meaning_at desk request).deed))) drawn
        ∙ ap (λ t. or_fault (or_stop t)) dropped
    known true true (Err stop) effect numbered h = cc
    known true false t effect numbered h = cc
    known false allowed t effect numbered h = cc
