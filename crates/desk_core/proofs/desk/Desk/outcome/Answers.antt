use Rattle.std.proofs.Common.{◌≡◌, true, List, ap, ◌∙◌, sym}
use Rattle.desk_model.specs.declared.last.Last.{Last}
use Rattle.desk_model.specs.State.{Desk}
use Rattle.desk_model.specs.Plans.{Meaning}
use Rattle.desk_model.specs.Clerks.{is_clerk, is_allowed}
use Rattle.desk_model.specs.LastRequests.{number_test}
use Rattle.desk_model.specs.Desk.{meaning_at}
use Rattle.desk_core.specs.declared.way.Way.TheVariants.{Served}
use Rattle.desk_core.specs.DeskViews.{DeskView}
use Rattle.desk_core.specs.Outcomes.{stop_reply}
use Rattle.desk_core.proofs.DeedLemmas.{number-goes, number-stops}
use Rattle.desk_core.proofs.desk.Desk.outcome.Goals as goal

pub returns-in-Some-clause-comes : goal.returns-in-Some-clause-comes
returns-in-Some-clause-comes c =
    let desk : Desk = c.args.self.now.desk in
    let request = c.args.request.now in
    let meaning : Meaning = meaning_at desk request in
    let config : c.self.inside.config ≡ desk.setting.config =
    ap (λ (v : DeskView). v.desk.setting.config) c.self.view_is in
    let clerk : c.clerk_of-clerk.result.now ≡ meaning.clerk =
    c.clerk_of-clerk.ensures desk.setting.config in
    let known : is_clerk desk.setting.config meaning.clerk ≡ true =
    (λ i. is_clerk (sym config i) (sym clerk i)) ∙ sym c.is_clerk.ensures
    ∙ c.if-not-is_clerk.false in
    let allowed : is_allowed desk.setting.config meaning.clerk meaning.right ≡ true =
    (λ i. is_allowed (sym config i) (sym clerk i)
    (sym (c.right_of-right.ensures desk.setting.config) i))
    ∙ sym c.is_allowed.ensures ∙ c.if-not-is_allowed.false in
    let lasts : c.deref.result.now ≡ desk.serial.lasts =
    c.deref.ensures.value ∙ ap (λ (v : DeskView). v.desk.serial.lasts) c.self.view_is in
    number-stops (Served c.args.entry) desk request c.in-Some.reply known allowed
    (sym c.in-Some.is ∙ c.in_ok-reply.ensures desk.setting.config
    ∙ ap (λ (ls : List Last). stop_reply (number_test ls meaning.clerk meaning.number
    request)) lasts)

pub returns-in-None-clause-comes : goal.returns-in-None-clause-comes
returns-in-None-clause-comes c =
    let desk : Desk = c.args.self.now.desk in
    let request = c.args.request.now in
    let meaning : Meaning = meaning_at desk request in
    let config : c.self.inside.config ≡ desk.setting.config =
    ap (λ (v : DeskView). v.desk.setting.config) c.self.view_is in
    let clerk : c.clerk_of-clerk.result.now ≡ meaning.clerk =
    c.clerk_of-clerk.ensures desk.setting.config in
    let known : is_clerk desk.setting.config meaning.clerk ≡ true =
    (λ i. is_clerk (sym config i) (sym clerk i)) ∙ sym c.is_clerk.ensures
    ∙ c.if-not-is_clerk.false in
    let allowed : is_allowed desk.setting.config meaning.clerk meaning.right ≡ true =
    (λ i. is_allowed (sym config i) (sym clerk i)
    (sym (c.right_of-right.ensures desk.setting.config) i))
    ∙ sym c.is_allowed.ensures ∙ c.if-not-is_allowed.false in
    let lasts : c.deref.result.now ≡ desk.serial.lasts =
    c.deref.ensures.value ∙ ap (λ (v : DeskView). v.desk.serial.lasts) c.self.view_is in
    number-goes c.args.entry desk request c.deed_outcome.result c.requires.entry known allowed
    (sym c.in-None.is ∙ c.in_ok-reply.ensures desk.setting.config
    ∙ ap (λ (ls : List Last). stop_reply (number_test ls meaning.clerk meaning.number
    request)) lasts) (c.deed_outcome.ensures.comes _)
