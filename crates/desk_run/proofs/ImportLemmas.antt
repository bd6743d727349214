-- An import from before the opening of its journal, and that what it leaves opens again.
use Rattle.std.proofs.Common.{◌≡◌, ℕ, ◌≤◌, false, List, [], ◌∷◌, Option, None, Some, refl}
use Rattle.std.proofs.Common.{ap, ◌∙◌, arith, inl, inr, subst}
use Rattle.std.specs.Prelude.{Result, Ok, Err}
use Rattle.std.proofs.lemmas.Bool.{false≢true}
use Rattle.std.specs.Io.KnownBytes.{Appends}
use Rattle.reg_io.specs.Counts.{AppendsPrefix, Rose}
use Rattle.reg_io.specs.Disks.{DiskState, IsSure}
use Rattle.post_journal.specs.Journals.{Grows}
use Rattle.post_journal.proofs.ForAbove.{grows_more, grows_none}
use Rattle.csv_groups.specs.declared.fault.RowFault.{RowFault}
use Rattle.csv_groups.specs.declared.group.Group.{Group}
use Rattle.csv_import.specs.ImportEnds.{ImportEnds}
use Rattle.csv_import.specs.Imports.{desk_behind, group_comes, posting_of}
use Rattle.csv_import.specs.Imports.{renumbered, batch_number, standing_document}
use Rattle.desk_core.specs.DeskViews.{DeskView}
use Rattle.desk_core.specs.Histories.{ReplaysTo, ReplaysToEither, opened_desk}
use Rattle.desk_core.specs.declared.desk.StepEnd.{StepEnd}
use Rattle.desk_core.specs.declared.desk.StepEnd.TheVariants.{Memory, DiskFault, Closed}
use Rattle.desk_model.specs.State.{Setting, Desk}
use Rattle.desk_model.proofs.ForAbove.{step-setting}
use Rattle.desk_run.specs.declared.fault.JobFault.{JobFault}
use Rattle.desk_run.specs.declared.fault.JobFault.TheVariants.{Memory as NoMemory}
use Rattle.desk_run.specs.declared.fault.JobFault.TheVariants.{Write as NoWrite}
use Rattle.desk_run.specs.Imports.{Imports, PostsGroups, StopsImport, end_of_posting, going_desk}
use Rattle.desk_run.specs.Inputs.{ReplaysUnder}
use Rattle.desk_run.specs.Statuses.{row_fault}
use Rattle.desk_run.specs.Steps.{ImportsAt, StopsAt}
use Rattle.desk_run.proofs.Opened.{opened_parts, replays_under}

-- ---- the setting stays

comes-setting : (standing : Option ℕ) (desk : Desk) (group : Group)
    → (group_comes standing desk group).desk.setting ≡ desk.setting
comes-setting (Some doc) desk group = refl
comes-setting None desk group =
    step-setting desk (renumbered (batch_number desk) group.request)

posting-setting : (desk : Desk) (group : Group)
    → (posting_of desk group).desk.setting ≡ desk.setting
unfolding posting_of
posting-setting desk group = comes-setting (standing_document desk group) desk group

behind-setting : (desk : Desk) (groups : List Group)
    → (desk_behind desk groups).setting ≡ desk.setting
behind-setting desk [] = refl
behind-setting desk (group ∷ groups) =
    behind-setting (posting_of desk group).desk groups ∙ posting-setting desk group

-- ---- from before the opening

posts-from : (old new : DeskView) (groups : List Group) (out out_now : List ℕ)
    (first mid disk_now : DiskState) (f f_mid f_now : ℕ) (end : Result (Unit {0}) StepEnd)
    → Grows first mid [] [] → f ≤ f_mid
    → ImportEnds old new groups out out_now mid disk_now f_mid f_now end
    → ImportEnds old new groups out out_now first disk_now f f_now end
posts-from old new groups out out_now first mid disk_now f f_mid f_now (Ok done) so later posts =
    record {
      going = posts.going;
      text = posts.text;
      new_is = posts.new_is;
      grows = grows_more first mid disk_now [] _ [] so posts.grows;
      replays = posts.replays;
    }
posts-from old new groups out out_now first mid disk_now f f_mid f_now (Err Memory) so later
    posts = record {
      going = posts.going;
      first = posts.first;
      rest = posts.rest;
      split = posts.split;
      text = posts.text;
      new_is = posts.new_is;
      grows = grows_more first mid disk_now [] _ [] so posts.grows;
      replays = posts.replays;
    }
posts-from old new groups out out_now first mid disk_now f f_mid f_now (Err DiskFault) so later
    posts = record {
      going = posts.going;
      first = posts.first;
      group = posts.group;
      rest = posts.rest;
      split = posts.split;
      text = posts.text;
      new_is = posts.new_is;
      grows = grows_more first mid disk_now [] _ _ so posts.grows;
      replays = posts.replays;
      cause = omega (arith, later, posts.cause);
    }
posts-from old new groups out out_now first mid disk_now f f_mid f_now (Err Closed) so later
    posts = posts

-- ---- what it leaves opens again

module _ (setting : Setting) (entries : List (List ℕ)) (desk : Desk)
    (opened : opened_desk setting entries ≡ Ok desk) where
  desk_setting : desk.setting ≡ setting
  desk_setting = (opened_parts setting entries desk opened).setting_is

  behind_under : (groups : List Group) (view : DeskView) (disk : DiskState)
      → view.desk ≡ desk_behind desk groups → ReplaysTo view.desk disk.content
      → ReplaysUnder setting disk.content
  behind_under groups view disk is so = replays_under setting view.desk disk.content
      (ap (λ (d : Desk). d.setting) is ∙ behind-setting desk groups ∙ desk_setting) so

  either_under : (groups : List Group) (group : Group) (view : DeskView) (disk : DiskState)
      → view.desk ≡ desk_behind desk groups
      → ReplaysToEither view.desk (posting_of view.desk group).desk disk.content
      → ReplaysUnder setting disk.content
  either_under groups group view disk is (inl so) = behind_under groups view disk is so
  either_under groups group view disk is (inr so) =
      replays_under setting (posting_of view.desk group).desk disk.content
      (posting-setting view.desk group ∙ ap (λ (d : Desk). d.setting) is
      ∙ behind-setting desk groups ∙ desk_setting) so

  posts_again : (new : DeskView) (groups : List Group) (out out_now : List ℕ)
      (disk disk_now : DiskState) (f f_now : ℕ) (end : Result (Unit {0}) StepEnd)
      → ImportEnds (going_desk desk) new groups out out_now disk disk_now f f_now end
      → ReplaysUnder setting disk_now.content
  posts_again new groups out out_now disk disk_now f f_now (Ok done) posts =
      behind_under groups new disk_now (ap (λ (v : DeskView). v.desk) posts.new_is) posts.replays
  posts_again new groups out out_now disk disk_now f f_now (Err Memory) posts =
      behind_under posts.first new disk_now (ap (λ (v : DeskView). v.desk) posts.new_is)
      posts.replays
  posts_again new groups out out_now disk disk_now f f_now (Err DiskFault) posts =
      either_under posts.first posts.group new disk_now
      (ap (λ (v : DeskView). v.desk) posts.new_is) posts.replays
  posts_again new groups out out_now disk disk_now f f_now (Err Closed) posts =
      absurd (false≢true posts.0)

-- ---- an import

-- groups that were posted behind an opening
groups-from : (desk : Desk) (groups : List Group) (before now : Option (List ℕ)) (w w_now : ℕ)
    (first mid disk_now : DiskState) (f f_mid f_now : ℕ) (end : Result (Unit {0}) JobFault)
    → Grows first mid [] [] → f ≤ f_mid
    → PostsGroups desk groups before now w w_now mid disk_now f_mid f_now end
    → PostsGroups desk groups before now w w_now first disk_now f f_now end
groups-from desk groups before now w w_now first mid disk_now f f_mid f_now end so later posts =
    record {
      after = posts.after;
      text = posts.text;
      posting_end = posts.posting_end;
      posts = posts-from (going_desk desk) posts.after groups [] posts.text first mid disk_now
          f f_mid f_now posts.posting_end so later posts.posts;
      written = posts.written;
    }

-- what was not begun
stops-from : (before now : Option (List ℕ)) (first mid disk_now : DiskState) (fault : JobFault)
    (end : Result (Unit {0}) JobFault) → Grows first mid [] []
    → StopsImport before now mid disk_now fault end → StopsImport before now first disk_now fault end
stops-from before now first mid disk_now fault end so stops = record {
  out = stops.out;
  grows = grows_more first mid disk_now [] [] [] so stops.grows;
  end_is = stops.end_is;
}

-- an import behind an opening
pub imports-from : (read : Result (List Group) RowFault) (desk : Desk)
    (before now : Option (List ℕ)) (w w_now : ℕ) (first mid disk_now : DiskState)
    (f f_mid f_now : ℕ) (end : Result (Unit {0}) JobFault)
    → Grows first mid [] [] → f ≤ f_mid
    → ImportsAt read desk before now w w_now mid disk_now f_mid f_now end
    → Imports read desk before now w w_now first disk_now f f_now end
imports-from (Ok groups) desk before now w w_now first mid disk_now f f_mid f_now end so later
    (inl posts) = inl (groups-from desk groups before now w w_now first mid disk_now f f_mid f_now
    end so later posts)
imports-from (Ok groups) desk before now w w_now first mid disk_now f f_mid f_now end so later
    (inr at) = inr (stops-from before now first mid disk_now NoMemory end so at.stops)
imports-from (Err fault) desk before now w w_now first mid disk_now f f_mid f_now end so later
    (inl at) = inl (stops-from before now first mid disk_now (row_fault fault) end so at.stops)
imports-from (Err fault) desk before now w w_now first mid disk_now f f_mid f_now end so later
    (inr at) = inr (stops-from before now first mid disk_now NoMemory end so at.stops)

-- what an import leaves opens again
pub import_again : (setting : Setting) (entries : List (List ℕ)) (desk : Desk)
    (read : Result (List Group) RowFault) (before now : Option (List ℕ)) (w w_now : ℕ)
    (disk disk_now : DiskState) (f f_now : ℕ) (end : Result (Unit {0}) JobFault)
    → opened_desk setting entries ≡ Ok desk
    → ImportsAt read desk before now w w_now disk disk_now f f_now end
    → ReplaysUnder setting disk_now.content
import_again setting entries desk (Ok groups) before now w w_now disk disk_now f f_now end opened
    (inl posts) = posts_again setting entries desk opened posts.after groups [] posts.text
    disk disk_now f f_now posts.posting_end posts.posts
import_again setting entries desk (Ok groups) before now w w_now disk disk_now f f_now end opened
    (inr at) = replays_under setting desk disk_now.content
    (desk_setting setting entries desk opened) at.replays
import_again setting entries desk (Err fault) before now w w_now disk disk_now f f_now end opened
    (inl at) = replays_under setting desk disk_now.content
    (desk_setting setting entries desk opened) at.replays
import_again setting entries desk (Err fault) before now w w_now disk disk_now f f_now end opened
    (inr at) = replays_under setting desk disk_now.content
    (desk_setting setting entries desk opened) at.replays

-- ---- the import's own ends

-- memory was refused, or a row, before anything was done
pub nothing-done : (desk : Desk) (out : Option (List ℕ)) (disk : DiskState) (fault : JobFault)
    → IsSure disk → ReplaysTo desk disk.content
    → StopsAt desk out out disk disk fault (Err fault)
nothing-done desk out disk fault sure replays = record {
  stops = record { out = refl; grows = grows_none disk sure; end_is = refl };
  replays = replays;
}

-- groups that were posted, with a text that was written whole
module _ (read : Result (List Group) RowFault) (groups : List Group) (old after : DeskView)
    (out text : List ℕ) (before now : Option (List ℕ)) (w w_now : ℕ) (disk disk_now : DiskState)
    (f f_now : ℕ) (end : Result (Unit {0}) StepEnd) (is : read ≡ Ok groups)
    (going : old.stopped ≡ false) (empty : out ≡ [])
    (posts : ImportEnds old after groups out text disk disk_now f f_now end) where
  from_going : ImportEnds (going_desk old.desk) after groups [] text disk disk_now f f_now end
  from_going =
      let same : old ≡ going_desk old.desk =
      λ i. record { desk = old.desk; stopped = going i } in
      subst (λ o. ImportEnds (going_desk old.desk) after groups o text disk disk_now f f_now end)
      empty (subst (λ v. ImportEnds v after groups out text disk disk_now f f_now end) same posts)

  pub ImportsAt-whole : Appends before now text
      → ImportsAt read old.desk before now w w_now disk disk_now f f_now (end_of_posting end)
  ImportsAt-whole whole = rw is (inl (record {
    after = after;
    text = text;
    posting_end = end;
    posts = from_going;
    written = inl (whole, refl);
  }))

  -- or in part
  pub ImportsAt-part : AppendsPrefix before now text → Rose w w_now
      → ImportsAt read old.desk before now w w_now disk disk_now f f_now (Err NoWrite)
  ImportsAt-part part cause = rw is (inl (record {
    after = after;
    text = text;
    posting_end = end;
    posts = from_going;
    written = inr (part, cause, refl);
  }))
