use Rattle.std.proofs.Common.{◌∙◌, inl, inr}
use Rattle.post_journal.specs.declared.journal.Journal.{Journal}
use Rattle.post_journal.proofs.ReadRuns.{is_fault}
use Rattle.post_journal.proofs.OpenSteps.{begun_run, is_closed, is_new, is_small, keeps_begun}
use Rattle.post_journal.proofs.OpenSteps.{not_begun, opens_bad, opens_empty, opens_run, seen_kind}
use Rattle.post_journal.proofs.Shows.{sure_stays}
use Rattle.post_journal.proofs.journal.Journal.open.Goals as goal

pub begin_empty-requires-clause-small : goal.begin_empty-requires-clause-small
begin_empty-requires-clause-small g c =
    let o = (g.D.Disk.state c.args.disk.now).content in
    let seen = c.in_ok-beginning in
    let kind = seen_kind o seen.beginning seen.len seen.ensures.seen in
    rw c.look.ensures.content (is_small o seen.beginning kind c.in-Empty.is)

pub begin-requires-clause-closed : goal.begin-requires-clause-closed
begin-requires-clause-closed g c =
    let o = (g.D.Disk.state c.args.disk.now).content in
    let seen = c.in_ok-beginning in
    let kind = seen_kind o seen.beginning seen.len seen.ensures.seen in
    rw c.look.ensures.content (is_closed o seen.beginning kind c.in-Fresh.is)

pub returns-in_err-begin_empty-in-Empty-clause-keeps :
    goal.returns-in_err-begin_empty-in-Empty-clause-keeps
returns-in_err-begin_empty-in-Empty-clause-keeps g c =
    let o = (g.D.Disk.state c.args.disk.now).content in
    let seen = c.in_ok-beginning in
    let kind = seen_kind o seen.beginning seen.len seen.ensures.seen in
    keeps_begun _ (g.D.Disk.state c.look.new.disk) _ c.look.ensures.shows c.look.ensures.content
    (is_new o seen.beginning kind (inl c.in-Empty.is)) c.begin_empty.ensures.shows

pub returns-in_err-begin-in-Fresh-clause-keeps : goal.returns-in_err-begin-in-Fresh-clause-keeps
returns-in_err-begin-in-Fresh-clause-keeps g c =
    let o = (g.D.Disk.state c.args.disk.now).content in
    let seen = c.in_ok-beginning in
    let kind = seen_kind o seen.beginning seen.len seen.ensures.seen in
    keeps_begun _ (g.D.Disk.state c.look.new.disk) _ c.look.ensures.shows c.look.ensures.content
    (is_new o seen.beginning kind (inr c.in-Fresh.is)) c.begin.ensures.shows

pub returns-in_ok-begin_empty-in-Empty-clause-keeps :
    goal.returns-in_ok-begin_empty-in-Empty-clause-keeps
returns-in_ok-begin_empty-in-Empty-clause-keeps g c =
    let o = (g.D.Disk.state c.args.disk.now).content in
    let seen = c.in_ok-beginning in
    let kind = seen_kind o seen.beginning seen.len seen.ensures.seen in
    keeps_begun _ (g.D.Disk.state c.look.new.disk) _ c.look.ensures.shows c.look.ensures.content
    (is_new o seen.beginning kind (inl c.in-Empty.is)) c.begin_empty.ensures.shows

pub returns-in_ok-begin-in-Fresh-clause-keeps : goal.returns-in_ok-begin-in-Fresh-clause-keeps
returns-in_ok-begin-in-Fresh-clause-keeps g c =
    let o = (g.D.Disk.state c.args.disk.now).content in
    let seen = c.in_ok-beginning in
    let kind = seen_kind o seen.beginning seen.len seen.ensures.seen in
    keeps_begun _ (g.D.Disk.state c.look.new.disk) _ c.look.ensures.shows c.look.ensures.content
    (is_new o seen.beginning kind (inr c.in-Fresh.is)) c.begin.ensures.shows

pub returns-in_ok-begin_empty-in-Empty-clause-opens :
    goal.returns-in_ok-begin_empty-in-Empty-clause-opens
returns-in_ok-begin_empty-in-Empty-clause-opens g c =
    let o = (g.D.Disk.state c.args.disk.now).content in
    let seen = c.in_ok-beginning in
    let kind = seen_kind o seen.beginning seen.len seen.ensures.seen in
    opens_empty o _ c.new.ensures (is_new o seen.beginning kind (inl c.in-Empty.is))

pub returns-in_ok-begin-in-Fresh-clause-opens : goal.returns-in_ok-begin-in-Fresh-clause-opens
returns-in_ok-begin-in-Fresh-clause-opens g c =
    let o = (g.D.Disk.state c.args.disk.now).content in
    let seen = c.in_ok-beginning in
    let kind = seen_kind o seen.beginning seen.len seen.ensures.seen in
    opens_empty o _ c.new-in-Fresh.ensures (is_new o seen.beginning kind (inr c.in-Fresh.is))

pub returns-in-Other-clause-opens : goal.returns-in-Other-clause-opens
returns-in-Other-clause-opens g c =
    let o = (g.D.Disk.state c.args.disk.now).content in
    let seen = c.in_ok-beginning in
    let kind = seen_kind o seen.beginning seen.len seen.ensures.seen in
    not_begun o seen.beginning kind c.in-Other.is

pub returns-in_err-end-in-Begun-clause-opens : goal.returns-in_err-end-in-Begun-clause-opens
returns-in_err-end-in-Begun-clause-opens g c =
    let o = (g.D.Disk.state c.args.disk.now).content in
    let seen = c.in_ok-beginning in
    let kind = seen_kind o seen.beginning seen.len seen.ensures.seen in
    let run = begun_run o seen.beginning kind c.in-Begun.is in
    rw (is_fault c.from_residual-in_err-end-in-Begun.result c.in_err-end-in-Begun.field-0.0
    c.from_residual-in_err-end-in-Begun.ensures)
    (opens_bad Journal o c.in_err-end-in-Begun.field-0.0 run
    (rw c.look.ensures.content at c.in_err-end-in-Begun.ensures.run))

pub returns-in_ok-end-in-Begun-clause-opens : goal.returns-in_ok-end-in-Begun-clause-opens
returns-in_ok-end-in-Begun-clause-opens g c =
    let o = (g.D.Disk.state c.args.disk.now).content in
    let seen = c.in_ok-beginning in
    let kind = seen_kind o seen.beginning seen.len seen.ensures.seen in
    let run = begun_run o seen.beginning kind c.in-Begun.is in
    let read = c.in_ok-end-in-Begun in
    (opens_run o c.at-in-Begun.result read.end read.entries run
    (rw c.look.ensures.content at read.ensures.run)).0

pub returns-in_ok-end-in-Begun-clause-stands : goal.returns-in_ok-end-in-Begun-clause-stands
returns-in_ok-end-in-Begun-clause-stands g c =
    let o = (g.D.Disk.state c.args.disk.now).content in
    let seen = c.in_ok-beginning in
    let kind = seen_kind o seen.beginning seen.len seen.ensures.seen in
    let run = begun_run o seen.beginning kind c.in-Begun.is in
    let read = c.in_ok-end-in-Begun in (
      c.at-in-Begun.ensures.usable,
      rw c.at-in-Begun.ensures.end (record {
        run = rw (c.read_run.ensures.stays.content ∙ c.look.ensures.content)
            (opens_run o c.at-in-Begun.result read.end read.entries run
            (rw c.look.ensures.content at read.ensures.run)).1;
        sure = sure_stays c.read_run.ensures.stays c.in_ok-beginning.ensures.sure;
      }),
    )
