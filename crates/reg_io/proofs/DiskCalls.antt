-- What a crash may leave of a disk in memory, call by call.
use Rattle.std.proofs.Common.{◌≡◌, inl, inr, ⊎_elim, ℕ, zero, suc, ◌+◌, ◌<◌, ◌≤◌, min, max, true}
use Rattle.std.proofs.Common.{List, [], ◌∷◌, ◌++◌, length, map, take, drop, Option, None, Some}
use Rattle.std.proofs.Common.{Result, Ok, Err, OnOk, OnErr, refl, sym, ◌∙◌, ap, subst, arith}
use Rattle.std.specs.Prelude.{◌==◌, ◌⊎◌}
use Rattle.std.proofs.lemmas.Bool.{false≢true, and_parts, and_from, eqb-true, eq-eqb}
use Rattle.std.proofs.lemmas.List.{length-take, length-drop, length-append, take_all, drop_all}
use Rattle.reg_io.specs.Disks.{After, CutBack, DiskState, IsSure, LeavesOnly, MayLeave, Torn}
use Rattle.reg_io.specs.Disks.{put_at}
use Rattle.reg_io.specs.DiskCalls.{History, IsImage, LeftBefore, LeftSince, Stage, after_call}
use Rattle.reg_io.specs.DiskCalls.{after_calls, all_suit, history_of, loosened, loosened_stage}
use Rattle.reg_io.specs.DiskCalls.{disk_of, is_suited, sure_of}
use Rattle.reg_io.specs.Crashes.{IsValid}
use Rattle.reg_io.specs.declared.disk_call.DiskCall.{DiskCall}
use Rattle.reg_io.specs.declared.disk_call.DiskCall.TheVariants.{Wrote, FailedWrite, Cut, FailedCut}
use Rattle.reg_io.specs.declared.disk_call.DiskCall.TheVariants.{Synced}

-- ---- one call more

pub after_calls-push : (calls : List DiskCall) (call : DiskCall) (h : History)
    → after_calls (calls ++ call ∷ []) h ≡ after_call call (after_calls calls h)
after_calls-push [] call h = refl
after_calls-push (c ∷ calls) call h = after_calls-push calls call (after_call c h)

pub history-push : (first : List ℕ) (calls : List DiskCall) (call : DiskCall)
    → history_of first (calls ++ call ∷ []) ≡ after_call call (history_of first calls)
history-push first calls call =
    after_calls-push calls call (record { now = sure_of first; before = [] })

-- ---- what is sure of the bytes

fits_sure : (content : List ℕ) → all_suit (map Some content) content ≡ true
fits_sure [] = refl
fits_sure (b ∷ content) = and_from (b == b) _ (eq-eqb b b refl) (fits_sure content)

sure_image : (content image : List ℕ) → all_suit (map Some content) image ≡ true
    → length content ≤ length image → image ≡ content
sure_image [] [] fit long = refl
sure_image [] (b ∷ image) fit long = absurd (false≢true fit)
sure_image (c ∷ content) [] fit long = absurd (omega arith)
sure_image (c ∷ content) (b ∷ image) fit long =
    let parts = and_parts (b == c) _ fit in
    λ i. eqb-true b c parts.0 i ∷ sure_image content image parts.1 (omega arith) i

-- a file that a crash left after a write, as it could have been before it
abbrev mended : ℕ → ℕ → List (Option ℕ) → List ℕ → List ℕ
mended place count sure [] = []
mended zero zero sure (b ∷ image) = b ∷ image
mended zero (suc count) [] (b ∷ image) = []
mended zero (suc count) (None ∷ sure) (b ∷ image) = b ∷ mended zero count sure image
mended zero (suc count) (Some s ∷ sure) (b ∷ image) = s ∷ mended zero count sure image
mended (suc place) count [] (b ∷ image) = []
mended (suc place) count (s ∷ sure) (b ∷ image) = b ∷ mended place count sure image

pub fits_length : (sure : List (Option ℕ)) (image : List ℕ) → all_suit sure image ≡ true
    → length image ≤ length sure
fits_length sure [] fit = omega arith
fits_length [] (b ∷ image) fit = absurd (false≢true fit)
fits_length (s ∷ sure) (b ∷ image) fit =
    omega (arith, fits_length sure image (and_parts (is_suited s b) _ fit).1)

length-loosened : (count : ℕ) → length (loosened zero count []) ≡ count
length-loosened zero = refl
length-loosened (suc count) = omega (arith, length-loosened count)

drop_next : (m n b c : ℕ) (xs ys : List ℕ) → m ≡ suc n → drop n xs ≡ drop n ys
    → drop m (b ∷ xs) ≡ drop m (c ∷ ys)
drop_next m n b c xs ys is e = subst (λ k. drop k (b ∷ xs) ≡ drop k (c ∷ ys)) (sym is) e

record IsMended (place count : ℕ) (sure : List (Option ℕ)) (image old : List ℕ) : Type 0 where
  fitting : all_suit sure old ≡ true
  before : take place image ≡ take place old
  behind : (m n : ℕ) → m ≡ place → n ≡ m + count → drop n image ≡ drop n old
  no_longer : length old ≤ length image
  long : length image ≤ max (length old) (place + count)
  least : min (length image) (length sure) ≤ length old

mend : (place count : ℕ) (sure : List (Option ℕ)) (image : List ℕ) → place ≤ length sure
    → all_suit (loosened place count sure) image ≡ true
    → IsMended place count sure image (mended place count sure image)
mend place count sure [] within fit = record {
  fitting = refl;
  before = refl;
  behind = λ m n is sum. refl;
  no_longer = omega arith;
  long = omega arith;
  least = omega arith;
}
mend zero zero sure (b ∷ image) within fit = record {
  fitting = fit;
  before = refl;
  behind = λ m n is sum. refl;
  no_longer = omega arith;
  long = omega arith;
  least = omega arith;
}
mend zero (suc count) [] (b ∷ image) within fit =
    let short = fits_length (loosened zero (suc count) []) (b ∷ image) fit in
    let is = length-loosened (suc count) in
    record {
      fitting = refl;
      before = refl;
      behind = λ m n here sum. drop_all n (b ∷ image) (omega arith)
          ∙ sym (drop_all n [] (omega arith));
      no_longer = omega arith;
      long = omega arith;
      least = omega arith;
    }
mend zero (suc count) (None ∷ sure) (b ∷ image) within fit =
    let more = mend zero count sure image (omega arith) fit in
    record {
      fitting = more.fitting;
      before = refl;
      behind = λ m n is sum. drop_next n count b b _ _ (omega arith) (more.behind 0 count refl
          (omega arith));
      no_longer = omega (arith, more.no_longer);
      long = omega (arith, more.long);
      least = omega (arith, more.least);
    }
mend zero (suc count) (Some s ∷ sure) (b ∷ image) within fit =
    let more = mend zero count sure image (omega arith) fit in
    record {
      fitting = and_from (s == s) _ (eq-eqb s s refl) more.fitting;
      before = refl;
      behind = λ m n is sum. drop_next n count b s _ _ (omega arith) (more.behind 0 count refl
          (omega arith));
      no_longer = omega (arith, more.no_longer);
      long = omega (arith, more.long);
      least = omega (arith, more.least);
    }
mend (suc place) count [] (b ∷ image) within fit = absurd (omega arith)
mend (suc place) count (s ∷ sure) (b ∷ image) within fit =
    let parts = and_parts (is_suited s b) _ fit in
    let more = mend place count sure image (omega arith) parts.1 in
    record {
      fitting = and_from (is_suited s b) _ parts.0 more.fitting;
      before = ap (λ (l : List ℕ). b ∷ l) more.before;
      behind = λ m n is sum. drop_next n (place + count) b b _ _ (omega arith)
          (more.behind place (place + count) refl refl);
      no_longer = omega (arith, more.no_longer);
      long = omega (arith, more.long);
      least = omega (arith, more.least);
    }

-- ---- a stage tells what a read gives among what a crash may leave

fits_drop : (n : ℕ) (sure : List (Option ℕ)) (image : List ℕ) → all_suit sure image ≡ true
    → all_suit (drop n sure) (drop n image) ≡ true
fits_drop zero sure image fit = fit
fits_drop (suc n) sure [] fit = refl
fits_drop (suc n) [] (b ∷ image) fit = absurd (false≢true fit)
fits_drop (suc n) (s ∷ sure) (b ∷ image) fit =
    fits_drop n sure image (and_parts (is_suited s b) _ fit).1

pub fits_take : (n : ℕ) (sure : List (Option ℕ)) (image : List ℕ) → all_suit sure image ≡ true
    → all_suit sure (take n image) ≡ true
fits_take zero sure image fit = refl
fits_take (suc n) sure [] fit = refl
fits_take (suc n) [] (b ∷ image) fit = absurd (false≢true fit)
fits_take (suc n) (s ∷ sure) (b ∷ image) fit =
    let parts = and_parts (is_suited s b) _ fit in
    and_from (is_suited s b) _ parts.0 (fits_take n sure image parts.1)

fits_loose : (place count : ℕ) (sure : List (Option ℕ)) (image : List ℕ) → all_suit sure image
    ≡ true
    → all_suit (loosened place count sure) image ≡ true
fits_loose place count sure [] fit = refl
fits_loose place count [] (b ∷ image) fit = absurd (false≢true fit)
fits_loose zero zero (s ∷ sure) (b ∷ image) fit = fit
fits_loose zero (suc count) (s ∷ sure) (b ∷ image) fit =
    fits_loose zero count sure image (and_parts (is_suited s b) _ fit).1
fits_loose (suc place) count (s ∷ sure) (b ∷ image) fit =
    let parts = and_parts (is_suited s b) _ fit in
    and_from (is_suited s b) _ parts.0 (fits_loose place count sure image parts.1)

fits_over : (bytes : List ℕ) (sure : List (Option ℕ)) (tail : List ℕ)
    → all_suit (drop (length bytes) sure) tail ≡ true
    → all_suit (loosened zero (length bytes) sure) (bytes ++ tail) ≡ true
fits_over [] sure tail fit = fit
fits_over (b ∷ bytes) [] tail fit =
    fits_over bytes [] tail (rw (drop_all {X = Option ℕ} (length bytes) [] (omega arith)) fit)
fits_over (b ∷ bytes) (s ∷ sure) tail fit = fits_over bytes sure tail fit

fits_put : (place end : ℕ) (bytes : List ℕ) (sure : List (Option ℕ)) (content : List ℕ)
    → end ≡ place + length bytes → place ≤ length content → all_suit sure content ≡ true
    → all_suit (loosened place (length bytes) sure) (take place content
    ++ (bytes ++ drop end content)) ≡ true
fits_put zero end bytes sure content is within fit =
    let same : end ≡ length bytes = omega arith in
    fits_over bytes sure (drop end content)
    (rw same (fits_drop (length bytes) sure content fit))
fits_put (suc place) end bytes sure [] is within fit = absurd (omega arith)
fits_put (suc place) end bytes [] (c ∷ content) is within fit = absurd (false≢true fit)
fits_put (suc place) zero bytes (s ∷ sure) (c ∷ content) is within fit = absurd (omega arith)
fits_put (suc place) (suc end) bytes (s ∷ sure) (c ∷ content) is within fit =
    let parts = and_parts (is_suited s c) _ fit in
    and_from (is_suited s c) _ parts.0
    (fits_put place end bytes sure content (omega arith) (omega arith) parts.1)

length-put_at : (place : ℕ) (bytes content : List ℕ) → place ≤ length content
    → length content ≤ length (put_at place bytes content)
length-put_at place bytes content within =
    simp (length-append, length-take, length-drop) (omega arith)

pub valid_sure : (content : List ℕ) → IsValid (sure_of content)
valid_sure content = record {
  low = omega arith;
  fitting = fits_sure content;
  confirmed_low = omega arith;
  confirmed_fitting = fits_sure content;
}

pub valid_call : (call : DiskCall) (h : History) → IsValid h.now → IsValid (after_call call h).now
valid_call (Wrote place bytes) h is = record {
  low = omega (
    arith,
    is.low,
    length-put_at (min place (length h.now.content)) bytes h.now.content (omega arith),
  );
  fitting = fits_put (min place (length h.now.content)) _ bytes h.now.bytes h.now.content refl
      (omega arith) is.fitting;
  confirmed_low = is.confirmed_low;
  confirmed_fitting = fits_loose (min place (length h.now.content)) (length bytes) h.now.bytes
      h.now.confirmed is.confirmed_fitting;
}
valid_call (FailedWrite place count) h is = record {
  low = is.low;
  fitting = fits_loose (min place (length h.now.content)) count h.now.bytes h.now.content
      is.fitting;
  confirmed_low = is.confirmed_low;
  confirmed_fitting =
      fits_loose (min place (length h.now.content)) count h.now.bytes h.now.confirmed
      is.confirmed_fitting;
}
valid_call (Cut len) h is = record {
  low = simp length-take (omega (arith, is.low));
  fitting = fits_take len h.now.bytes h.now.content is.fitting;
  confirmed_low = omega (arith, is.confirmed_low);
  confirmed_fitting = is.confirmed_fitting;
}
valid_call (FailedCut len) h is = record {
  low = omega (arith, is.low);
  fitting = is.fitting;
  confirmed_low = omega (arith, is.confirmed_low);
  confirmed_fitting = is.confirmed_fitting;
}
valid_call Synced h is = valid_sure h.now.content

valid_calls : (calls : List DiskCall) (h : History) → IsValid h.now
    → IsValid (after_calls calls h).now
valid_calls [] h is = is
valid_calls (call ∷ calls) h is = valid_calls calls (after_call call h) (valid_call call h is)

pub valid : (first : List ℕ) (calls : List DiskCall) → IsValid (history_of first calls).now
valid first calls =
    valid_calls calls (record { now = sure_of first; before = [] }) (valid_sure first)

-- ---- what each call leaves

abbrev pub of : History → DiskState
of h = disk_of h.now.content h

left_le : (k : ℕ) (before : List Stage) (image : List ℕ) → LeftBefore k before image
    → k < length before
left_le k [] image left = absurd left
left_le k (s ∷ before) image (inl here) = omega (arith, here.0)
left_le k (s ∷ before) image (inr there) = omega (arith, left_le k before image there)

pub left_now : (h : History) (image : List ℕ) → IsImage h.now image → MayLeave (of h) image
left_now h image is = (omega arith, inl (omega arith, is))

-- a stage in the place of the one that was now
leaves_now : (h : History) (now : Stage) (P : List ℕ → Type 0)
    → ((image : List ℕ) → IsImage now image → P image)
    → LeavesOnly (of h) (of (record { now = now; before = h.before })) P
leaves_now h now P each k image (le, inl here) = inr (each image here.1)
leaves_now h now P each k image (le, inr older) = inl (le, inr older)

write_leaves : (h : History) (place count : ℕ) (content : List ℕ) → IsValid h.now
    → place ≤ length h.now.content
    → LeavesOnly (of h)
    (of (record { now = loosened_stage place count content h.now; before = h.before }))
    (After (Torn place count) (of h))
write_leaves h place count content is within =
    leaves_now h (loosened_stage place count content h.now) _ each
  where
    each : (image : List ℕ) → IsImage (loosened_stage place count content h.now) image
        → After (Torn place count) (of h) image
    each image left =
        let here : min place (length h.now.content) ≡ place = omega (arith, within) in
        let fit = subst (λ (q : ℕ). all_suit (loosened q count h.now.bytes) image ≡ true) here
        left.fitting in
        let more = fits_length h.now.bytes h.now.content is.fitting in
        let low = is.low in let long = left.long in
        let m = mend place count h.now.bytes image (omega arith) fit in
        let old = mended place count h.now.bytes image in (
          old,
          left_now h old (record { long = omega (arith, m.least); fitting = m.fitting }),
          record {
            before = m.before;
            behind = m.behind place (place + count) refl refl;
            no_shorter = m.no_longer;
            no_longer = m.long;
          },
        )

-- a file that a crash left after a cut, with what it could have had behind it
abbrev value_of : Option ℕ → ℕ
value_of None = 0
value_of (Some b) = b

abbrev filled : ℕ → List (Option ℕ) → List ℕ → List ℕ
filled zero sure image = image
filled (suc least) [] image = image
filled (suc least) (s ∷ sure) [] = value_of s ∷ filled least sure []
filled (suc least) (s ∷ sure) (b ∷ image) = b ∷ filled least sure image

suits_value : (s : Option ℕ) → is_suited s (value_of s) ≡ true
suits_value None = refl
suits_value (Some b) = eq-eqb b b refl

record IsFilled (least : ℕ) (sure : List (Option ℕ)) (image old : List ℕ) : Type 0 where
  fitting : all_suit sure old ≡ true
  front : take (length image) old ≡ image
  long : min least (length sure) ≤ length old
  no_longer : length old ≤ max (length image) least

fill : (least : ℕ) (sure : List (Option ℕ)) (image : List ℕ) → all_suit sure image ≡ true
    → IsFilled least sure image (filled least sure image)
fill zero sure image fit = record {
  fitting = fit;
  front = take_all (length image) image (omega arith);
  long = omega arith;
  no_longer = omega arith;
}
fill (suc least) [] image fit = record {
  fitting = fit;
  front = take_all (length image) image (omega arith);
  long = omega arith;
  no_longer = omega arith;
}
fill (suc least) (s ∷ sure) [] fit =
    let more = fill least sure [] refl in
    record {
      fitting = and_from (is_suited s (value_of s)) _ (suits_value s) more.fitting;
      front = refl;
      long = omega (arith, more.long);
      no_longer = omega (arith, more.no_longer);
    }
fill (suc least) (s ∷ sure) (b ∷ image) fit =
    let parts = and_parts (is_suited s b) _ fit in
    let more = fill least sure image parts.1 in
    record {
      fitting = and_from (is_suited s b) _ parts.0 more.fitting;
      front = ap (λ (l : List ℕ). b ∷ l) more.front;
      long = omega (arith, more.long);
      no_longer = omega (arith, more.no_longer);
    }

cut_leaves : (h : History) (len : ℕ) (content : List ℕ) → IsValid h.now
    → LeavesOnly (of h)
    (of (record {
      now = record {
        confirmed = h.now.confirmed;
        content = content;
        bytes = h.now.bytes;
        least =
            min len h.now.least;
      };
      before = h.before;
    }))
    (After (CutBack len) (of h))
cut_leaves h len content is =
    leaves_now h (record {
      confirmed = h.now.confirmed;
      content = content;
      bytes =
          h.now.bytes;
      least = min len h.now.least;
    }) _ each
  where
    each : (image : List ℕ)
        → IsImage (record {
          confirmed = h.now.confirmed;
          content = content;
          bytes =
              h.now.bytes;
          least = min len h.now.least;
        }) image
        → After (CutBack len) (of h) image
    each image left =
        let more = fits_length h.now.bytes h.now.content is.fitting in
        let low = is.low in let long = left.long in
        let f = fill h.now.least h.now.bytes image left.fitting in
        let old = filled h.now.least h.now.bytes image in (
          old,
          left_now h old (record { long = omega (arith, f.long); fitting = f.fitting }),
          record { front = f.front; no_shorter = omega (arith, f.no_longer) },
        )

sync_leaves : (h : History)
    → LeavesOnly (of h) (of (after_call Synced h))
    (λ image. Some h.now.content ≡ Some image)
sync_leaves h k image (le, inl here) =
    inr (ap Some (sym (sure_image h.now.content image here.1.fitting here.1.long)))
sync_leaves h k image (le, inr older) =
    inl (omega (arith, left_le k (h.now ∷ h.before) image older), older)

sync_only : (h : History)
    → IsSure (of (after_call Synced h))
sync_only h image (le, inl here) =
    ap Some (sym (sure_image h.now.content image here.1.fitting here.1.long))
sync_only h image (le, inr older) =
    absurd (omega (arith, left_le (length (h.now ∷ h.before)) (h.now ∷ h.before) image older))

-- ---- the same over the record of a disk

pub next : (first first_now : List ℕ) (calls calls_now : List DiskCall) (call : DiskCall)
    → first_now ≡ first → calls_now ≡ calls ++ call ∷ []
    → history_of first_now calls_now ≡ after_call call (history_of first calls)
next first first_now calls calls_now call same e =
    ap (λ (l : List ℕ). history_of l calls_now) same ∙ ap (history_of first) e
    ∙ history-push first calls call

pub shown : (first : List ℕ) (calls : List DiskCall) (content : List ℕ)
    → (history_of first calls).now.content ≡ content
    → MayLeave (of (history_of first calls)) content
shown first calls content is =
    let h = history_of first calls in
    let v = valid first calls in
    left_now h content (subst (IsImage h.now) is (record { long = v.low; fitting = v.fitting }))

pub within_min : (place n : ℕ) → place ≤ n → min place n ≡ place
within_min place n within = omega arith

pub wrote_content : (h now : History) (place : ℕ) (bytes content : List ℕ) → h.now.content ≡ content
    → place ≤ length content → now ≡ after_call (Wrote place bytes) h
    → now.now.content ≡ put_at place bytes content
wrote_content h now place bytes content is within e =
    ap (λ (g : History). g.now.content) e
    ∙ ap (λ (l : List ℕ). put_at (min place (length l)) bytes l) is
    ∙ ap (λ (q : ℕ). put_at q bytes content) (within_min place (length content) within)

pub wrote : (h now : History) (place : ℕ) (bytes content : List ℕ) → IsValid h.now
    → h.now.content ≡ content → place ≤ length content → now ≡ after_call (Wrote place bytes) h
    → LeavesOnly (of h) (of now) (After (Torn place (length bytes)) (of h))
wrote h now place bytes content v is within e =
    subst (λ (g : History). LeavesOnly (of h) (of g)
    (After (Torn place (length bytes)) (of h))) (sym e)
    (write_leaves h place (length bytes) _ v (rw is within))

pub failed_write : (h now : History) (place count : ℕ) (content : List ℕ) → IsValid h.now
    → h.now.content ≡ content → place ≤ length content → now
    ≡ after_call (FailedWrite place count) h
    → LeavesOnly (of h) (of now) (After (Torn place count) (of h))
failed_write h now place count content v is within e =
    subst (λ (g : History). LeavesOnly (of h) (of g)
    (After (Torn place count) (of h))) (sym e)
    (write_leaves h place count _ v (rw is within))

pub was_cut : (h now : History) (len : ℕ) → IsValid h.now → now ≡ after_call (Cut len) h
    → LeavesOnly (of h) (of now) (After (CutBack len) (of h))
was_cut h now len v e =
    subst (λ (g : History). LeavesOnly (of h) (of g)
    (After (CutBack len) (of h))) (sym e) (cut_leaves h len _ v)

pub failed_cut : (h now : History) (len : ℕ) → IsValid h.now → now ≡ after_call (FailedCut len) h
    → LeavesOnly (of h) (of now) (After (CutBack len) (of h))
failed_cut h now len v e =
    subst (λ (g : History). LeavesOnly (of h) (of g)
    (After (CutBack len) (of h))) (sym e) (cut_leaves h len _ v)

pub synced_leaves : (h now : History) (content : List ℕ) → h.now.content ≡ content
    → now ≡ after_call Synced h
    → LeavesOnly (of h) (of now) (λ image. Some content ≡ Some image)
synced_leaves h now content is e k image left =
    ⊎_elim (λ was. inl was) (λ same. inr (ap Some (sym is) ∙ same))
    (sync_leaves h k image (subst (λ (g : History). LeftSince g k image) e left))

pub synced_only : (h now : History) (content : List ℕ) → h.now.content ≡ content
    → now ≡ after_call Synced h → IsSure (disk_of content now)
synced_only h now content is e =
    subst (λ (g : History). IsSure (disk_of content g)) (sym e)
    (subst (λ (c : List ℕ). IsSure (disk_of c (after_call Synced h))) is (sync_only h))

-- a call that may have been kept
pub kept_or_not : {T E A B : Type 0} (r : Result T E) → OnOk r A → OnErr r B → A ⊎ B
kept_or_not (Ok x) a b = inl a
kept_or_not (Err e) a b = inr b

pub done_or_not : {T E A B C D : Type 0} (r : Result T E) → OnOk r A → OnOk r B → OnErr r C
    → OnErr r D → (A × B) ⊎ (C × D)
done_or_not (Ok x) a b c d = inl (a, b)
done_or_not (Err e) a b c d = inr (c, d)
