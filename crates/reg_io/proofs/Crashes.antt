-- What a crash leaves of a disk in memory, from the record of its calls.
use Rattle.std.proofs.Common.{◌≡◌, ℕ, zero, suc, ◌+◌, ◌<◌, ◌≤◌, min, get_or, true, List, [], ◌∷◌}
use Rattle.std.proofs.Common.{◌++◌, length, map, take, drop, replicate, Option, None, Some, Result}
use Rattle.std.proofs.Common.{Ok, Err, OnOk, refl, sym, ◌∙◌, ap, subst, arith}
use Rattle.std.proofs.lemmas.Bool.{and_from, eq-eqb}
use Rattle.std.proofs.lemmas.List.{drop_all, length-map, length-replicate, length-take, take_all}
use Rattle.std.proofs.lemmas.List.{take_more}
use Rattle.reg_io.specs.Disks.{MayLeave, put_at}
use Rattle.reg_io.specs.DiskCalls.{History, IsImage, Stage, after_call, all_suit, history_of}
use Rattle.reg_io.specs.DiskCalls.{loosened, disk_of, is_suited}
use Rattle.reg_io.specs.Crashes.{Follows, IsValid, crash_bytes, scrambled}
use Rattle.reg_io.specs.declared.crash.CrashImage.{CrashImage}
use Rattle.reg_io.specs.declared.crash.CrashImage.TheVariants.{AsRead, Confirmed, Scrambled}
use Rattle.reg_io.specs.declared.crash.Replay.{Replay}
use Rattle.reg_io.specs.declared.disk_call.DiskCall.{DiskCall}
use Rattle.reg_io.specs.declared.disk_call.DiskCall.TheVariants.{Wrote, FailedWrite, Cut, FailedCut}
use Rattle.reg_io.specs.declared.disk_call.DiskCall.TheVariants.{Synced}
use Rattle.reg_io.proofs.DiskCalls.{fits_length, fits_take, history-push, left_now, valid}
use Rattle.reg_io.proofs.DiskCalls.{valid_call}

-- ---- the three are among what a crash may leave

suits_scrambled : (s : Option ℕ) → is_suited s (scrambled s) ≡ true
suits_scrambled None = refl
suits_scrambled (Some b) = eq-eqb b b refl

fits_scrambled : (sure : List (Option ℕ)) → all_suit sure (map scrambled sure) ≡ true
fits_scrambled [] = refl
fits_scrambled (s ∷ sure) =
    and_from (is_suited s (scrambled s)) _ (suits_scrambled s) (fits_scrambled sure)

is_image : (image : CrashImage) (stage : Stage) → IsValid stage
    → IsImage stage (crash_bytes image stage)
is_image AsRead stage v = record { long = v.low; fitting = v.fitting }
is_image Confirmed stage v = record { long = v.confirmed_low; fitting = v.confirmed_fitting }
is_image Scrambled stage v =
    let low = v.low in
    let within = fits_length stage.bytes stage.content v.fitting in
    let size = length-take (length stage.content) (map scrambled stage.bytes) in
    let mapped = length-map stage.bytes scrambled in
    record {
      long = omega arith;
      fitting = fits_take (length stage.content) stage.bytes (map scrambled stage.bytes)
          (fits_scrambled stage.bytes);
    }

pub left : (image : CrashImage) (first : List ℕ) (calls : List DiskCall) (content bytes : List ℕ)
    → bytes ≡ crash_bytes image (history_of first calls).now
    → MayLeave (disk_of content (history_of first calls)) bytes
left image first calls content bytes is =
    let h = history_of first calls in
    left_now h bytes (subst (IsImage h.now) (sym is) (is_image image h.now (valid first calls)))

-- ---- calls replayed

scrambled-loosened : (place end count : ℕ) (sure : List (Option ℕ)) → end ≡ place + count
    → place ≤ length sure → map scrambled (loosened place count sure)
    ≡ take place (map scrambled sure) ++ (replicate count 0x37 ++ drop end (map scrambled sure))
scrambled-loosened zero zero zero sure is within = refl
scrambled-loosened zero (suc end) zero sure is within = absurd (omega arith)
scrambled-loosened zero zero (suc count) sure is within = absurd (omega arith)
scrambled-loosened zero (suc end) (suc count) [] is within =
    ap (λ (l : List ℕ). 0x37 ∷ l) (scrambled-loosened zero end count [] (omega arith) (omega arith)
    ∙ ap (λ (l : List ℕ). replicate count 0x37 ++ l) (drop_all end [] (omega arith)))
scrambled-loosened zero (suc end) (suc count) (s ∷ sure) is within =
    ap (λ (l : List ℕ). 0x37 ∷ l) (scrambled-loosened zero end count sure (omega arith)
    (omega arith))
scrambled-loosened (suc place) end count [] is within = absurd (omega arith)
scrambled-loosened (suc place) zero count (s ∷ sure) is within = absurd (omega arith)
scrambled-loosened (suc place) (suc end) count (s ∷ sure) is within =
    ap (λ (l : List ℕ). scrambled s ∷ l) (scrambled-loosened place end count sure (omega arith)
    (omega arith))

loosened_put : (place count : ℕ) (sure : List (Option ℕ)) → place ≤ length sure
    → map scrambled (loosened place count sure)
    ≡ put_at place (replicate count 0x37) (map scrambled sure)
loosened_put place count sure within =
    scrambled-loosened place (place + count) count sure refl within
    ∙ ap (λ (k : ℕ). take place (map scrambled sure)
    ++ (replicate count 0x37 ++ drop (place + k) (map scrambled sure)))
    (sym (length-replicate count 0x37))

blotted : (replay : Replay) (h : History) (place count p m : ℕ) (now : List ℕ) → Follows replay h
    → p ≡ min place (length replay.content.items) → m ≡ length replay.scrambled.items
    → now ≡ put_at (min p m) (replicate count 0x37) replay.scrambled.items
    → now ≡ map scrambled (loosened (min place (length h.now.content)) count h.now.bytes)
blotted replay h place count p m now f p_is m_is is =
    let within = fits_length h.now.bytes h.now.content f.valid.fitting in
    let mapped = length-map h.now.bytes scrambled in
    let sizes = ap length f.content in
    let longs = ap length f.bytes in
    let here : min p m ≡ min place (length h.now.content) = omega arith in
    is ∙ ap (λ (k : ℕ). put_at k (replicate count 0x37) replay.scrambled.items) here
    ∙ ap (put_at (min place (length h.now.content)) (replicate count 0x37)) f.bytes
    ∙ sym (loosened_put (min place (length h.now.content)) count h.now.bytes (omega arith))

pub follows_wrote : (replay now : Replay) (h : History) (place p m : ℕ) (bytes : List ℕ)
    → Follows replay h → p ≡ min place (length replay.content.items)
    → m ≡ length replay.scrambled.items → now.confirmed.items ≡ replay.confirmed.items
    → now.content.items ≡ put_at p bytes replay.content.items
    → now.scrambled.items ≡ put_at (min p m) (replicate (length bytes) 0x37) replay.scrambled.items
    → Follows now (after_call (Wrote place bytes) h)
follows_wrote replay now h place p m bytes f p_is m_is same put blot = record {
  valid = valid_call (Wrote place bytes) h f.valid;
  confirmed = same ∙ f.confirmed;
  content = put ∙ ap (λ (k : ℕ). put_at k bytes replay.content.items) p_is
      ∙ ap (λ (c : List ℕ). put_at (min place (length c)) bytes c) f.content;
  bytes = blotted replay h place (length bytes) p m now.scrambled.items f p_is m_is blot;
}

pub follows_failed : (replay now : Replay) (h : History) (place count p m : ℕ) → Follows replay h
    → p ≡ min place (length replay.content.items) → m ≡ length replay.scrambled.items
    → now.confirmed.items ≡ replay.confirmed.items → now.content.items ≡ replay.content.items
    → now.scrambled.items ≡ put_at (min p m) (replicate count 0x37) replay.scrambled.items
    → Follows now (after_call (FailedWrite place count) h)
follows_failed replay now h place count p m f p_is m_is same kept blot = record {
  valid = valid_call (FailedWrite place count) h f.valid;
  confirmed = same ∙ f.confirmed;
  content = kept ∙ f.content;
  bytes = blotted replay h place count p m now.scrambled.items f p_is m_is blot;
}

pub on_ok : {T E A B : Type 0} (result : Result T E) → OnOk result A → (A → B) → OnOk result B
on_ok (Ok x) a next = next a
on_ok (Err e) a next = tt

pub follows_cut : (replay now : Replay) (h : History) (len : ℕ) → Follows replay h
    → now.confirmed.items ≡ replay.confirmed.items
    → now.content.items ≡ take len replay.content.items
    → now.scrambled.items ≡ replay.scrambled.items → Follows now (after_call (Cut len) h)
follows_cut replay now h len f same cut kept = record {
  valid = valid_call (Cut len) h f.valid;
  confirmed = same ∙ f.confirmed;
  content = cut ∙ ap (take len) f.content;
  bytes = kept ∙ f.bytes;
}

pub follows_failed_cut : (replay : Replay) (h : History) (len : ℕ) → Follows replay h
    → Follows replay (after_call (FailedCut len) h)
follows_failed_cut replay h len f = record {
  valid = valid_call (FailedCut len) h f.valid;
  confirmed = f.confirmed;
  content = f.content;
  bytes = f.bytes;
}

scrambled-sure : (content : List ℕ) → map scrambled (map Some content) ≡ content
scrambled-sure [] = refl
scrambled-sure (b ∷ content) = ap (λ (l : List ℕ). b ∷ l) (scrambled-sure content)

pub follows_synced : (replay now : Replay) (h : History) → Follows replay h
    → now.confirmed.items ≡ replay.content.items → now.content.items ≡ replay.content.items
    → now.scrambled.items ≡ replay.content.items → Follows now (after_call Synced h)
follows_synced replay now h f confirmed kept sure = record {
  valid = valid_call Synced h f.valid;
  confirmed = confirmed ∙ f.content;
  content = kept ∙ f.content;
  bytes = sure ∙ f.content ∙ sym (scrambled-sure h.now.content);
}

pub follows_first : (replay : Replay) (first : List ℕ) → replay.confirmed.items ≡ first
    → replay.content.items ≡ first → replay.scrambled.items ≡ first
    → Follows replay (history_of first [])
follows_first replay first confirmed content sure = record {
  valid = valid first [];
  confirmed = confirmed;
  content = content;
  bytes = sure ∙ sym (scrambled-sure first);
}

-- one call more
pub follows_next : (replay now : Replay) (first : List ℕ) (calls : List DiskCall) (call : DiskCall)
    (i : ℕ)
    → Follows replay (history_of first (take i calls)) → i < length calls → call
    ≡ get_or calls i call
    → ((h : History) → Follows replay h → Follows now (after_call call h))
    → Follows now (history_of first (take (i + 1) calls))
follows_next replay now first calls call i f within is each =
    subst (λ (cs : List DiskCall). Follows now (history_of first cs))
    (sym (take_more calls i call within ∙ ap (λ (x : DiskCall). take i calls ++ x ∷ []) (sym is)))
    (subst (Follows now) (sym (history-push first (take i calls) call))
    (each (history_of first (take i calls)) f))

pub follows_all : (replay : Replay) (first : List ℕ) (calls : List DiskCall) (i : ℕ)
    → Follows replay (history_of first (take i calls)) → length calls ≤ i
    → Follows replay (history_of first calls)
follows_all replay first calls i f all =
    subst (λ (cs : List DiskCall). Follows replay (history_of first cs)) (take_all i calls all) f
