-- What may be found on a disk, call after call.
use Rattle.std.proofs.Common.{◌≡◌, inl, inr, ⊎_elim, ℕ, ◌≤◌, List, Option, None, Some, IfSome, sym}
use Rattle.std.proofs.Common.{◌∙◌, ap, subst, arith}
use Rattle.std.specs.Option.{is_some}
use Rattle.reg_io.specs.Disks.{DiskState, IsSure, LeavesOnly, Stays}
use Rattle.post_journal.specs.Gates.{IsContent}
use Rattle.post_journal.specs.Journals.{ShowsOnly}

pub weaker : (old new : DiskState) {P Q : List ℕ → Type 0} → LeavesOnly old new Q
    → ((image : List ℕ) → Q image → P image) → LeavesOnly old new P
weaker old new call each k image left =
    ⊎_elim (λ was. inl was) (λ q. inr (each image q)) (call k image left)

-- one call more
pub then : (old mid new : DiskState) {P Q : List ℕ → Type 0} → LeavesOnly old mid P
    → LeavesOnly mid new Q → ((image : List ℕ) → Q image → P image) → LeavesOnly old new P
then old mid new first second each k image left =
    ⊎_elim (λ was. first k image was) (λ q. inr (each image q)) (second k image left)

pub if_some : {X : Type 0} {P Q : X → Type 0} (o : Option X) → ((x : X) → P x → Q x)
    → IfSome o P → IfSome o Q
if_some None each p = tt
if_some (Some x) each p = each x p

pub shows_by : {first now : DiskState} {P Q : List ℕ → Type 0} → ShowsOnly first now Q
    → ((image : List ℕ) → Q image → P image) → ShowsOnly first now P
shows_by {first = first} {now = now} shows each = record {
  moments = weaker first now shows.moments each;
  shown = if_some now.content each shows.shown;
  told = shows.told;
  later = shows.later;
}

pub shows_more : {first mid now : DiskState} {P Q : List ℕ → Type 0} → ShowsOnly first mid P
    → ShowsOnly mid now Q → ((image : List ℕ) → Q image → P image) → ShowsOnly first now P
shows_more {first = first} {mid = mid} {now = now} so next each = record {
  moments = then first mid now so.moments next.moments each;
  shown = if_some now.content each next.shown;
  told = next.told ∙ so.told;
  later = omega (arith, so.later, next.later);
}

content_is : (first now : Option (List ℕ)) → now ≡ first → IfSome now (λ image. first ≡ Some image)
content_is first None is = tt
content_is first (Some image) is = sym is

-- a sync, however it ends
pub shows_sync : (first now : DiskState) → now.content ≡ first.content
    → LeavesOnly first now (λ image. now.content ≡ Some image) → first.syncs ≤ now.syncs
    → ShowsOnly first now (IsContent first)
shows_sync first now is leaves later = record {
  moments = weaker first now leaves (λ image e. sym is ∙ e);
  shown = content_is first.content now.content is;
  told = ap is_some is;
  later = later;
}

-- a call that changes nothing
pub shows_stays : {first mid now : DiskState} {P : List ℕ → Type 0} → ShowsOnly first mid P
    → Stays mid now → ShowsOnly first now P
shows_stays {P = P} shows stays = record {
  moments = λ k image left. shows.moments k image (stays.leaves k image left);
  shown = subst (λ (o : Option (List ℕ)). IfSome o P) (sym stays.content) shows.shown;
  told = ap is_some stays.content ∙ shows.told;
  later = omega (arith, shows.later, stays.syncs);
}

pub stays_trans : {a b c : DiskState} → Stays a b → Stays b c → Stays a c
stays_trans p q = record {
  content = q.content ∙ p.content;
  syncs = q.syncs ∙ p.syncs;
  leaves = λ k image left. p.leaves k image (q.leaves k image left);
}

pub sure_stays : {a b : DiskState} → Stays a b → IsSure a → IsSure b
sure_stays {a = a} {b = b} stays sure image left =
    stays.content ∙ sure image (subst (λ (k : ℕ). a.left_since k image) stays.syncs
    (stays.leaves b.syncs image left))
