-- The files that a disk in memory gives as what a crash leaves.
use Rattle.std.specs.Prelude.{◌≡◌, ℕ, ◌≤◌, true, List, length, map, take, Option, None, Some}
use Rattle.reg_io.specs.DiskCalls.{History, Stage, all_suit}
use Rattle.reg_io.specs.declared.crash.CrashImage.{CrashImage}
use Rattle.reg_io.specs.declared.crash.CrashImage.TheVariants.{AsRead, Confirmed, Scrambled}
use Rattle.reg_io.specs.declared.crash.Replay.{Replay}

-- the byte that is sure, and 0x37 where none is
abbrev pub scrambled : Option ℕ → ℕ
scrambled None = 0x37
scrambled (Some byte) = byte

-- what a read gives; what the last sync that succeeded confirmed; and what a read gives with 0x37
-- in each byte that was written since
abbrev pub crash_bytes : CrashImage → Stage → List ℕ
crash_bytes AsRead stage = stage.content
crash_bytes Confirmed stage = stage.confirmed
crash_bytes Scrambled stage = take (length stage.content) (map scrambled stage.bytes)

-- Private: what a read gives and what was confirmed are among what a crash may leave
pub record IsValid (stage : Stage) : Type 0 where
  pub low : stage.least ≤ length stage.content
  pub fitting : all_suit stage.bytes stage.content ≡ true
  pub confirmed_low : stage.least ≤ length stage.confirmed
  pub confirmed_fitting : all_suit stage.bytes stage.confirmed ≡ true

-- Private: the lists that stand for the stage of now while calls are replayed
pub record Follows (replay : Replay) (h : History) : Type 0 where
  pub valid : IsValid h.now
  pub confirmed : replay.confirmed.items ≡ h.now.confirmed
  pub content : replay.content.items ≡ h.now.content
  pub bytes : replay.scrambled.items ≡ map scrambled h.now.bytes
