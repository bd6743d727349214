-- What has a number: a request that changes something, and no question.
use Rattle.std.proofs.Common.{◌≡◌, ℕ, true, Option, None, is_some, refl}
use Rattle.cfg_model.specs.declared.config.Config.{Config}
use Rattle.desk_words.specs.declared.request.Request.{Request}
use Rattle.desk_words.specs.declared.request.Request.TheVariants.{Write, Post, Unpost, Mark, Manual}
use Rattle.desk_words.specs.declared.request.Request.TheVariants.{Activity, Close, Sweep, Balance}
use Rattle.desk_words.specs.declared.request.Request.TheVariants.{Doc, Turnovers, Both, Documents}
use Rattle.desk_words.specs.declared.request.Request.TheVariants.{AccountBalance, AccountTurnovers}
use Rattle.desk_words.specs.declared.request.Request.TheVariants.{AccountBoth, DrCr}
use Rattle.desk_words.specs.declared.request.Post.TheVariants.{Content, Standing}
use Rattle.desk_model.specs.Plans.{Deed, changes, closes, asks}
use Rattle.desk_model.specs.Meanings.{meaning_of}

-- what changes has a number, and a question has none
abbrev pub HasNumber : Option ℕ → Deed → Type 0
HasNumber number (changes change) = is_some number ≡ true
HasNumber number (closes date) = is_some number ≡ true
HasNumber number (asks question) = number ≡ None

pub meaning-HasNumber : (config : Config) (r : Request) →
    HasNumber (meaning_of config r).number (meaning_of config r).deed
meaning-HasNumber config (Write w) = refl
meaning-HasNumber config (Post (Content w)) = refl
meaning-HasNumber config (Post (Standing s)) = refl
meaning-HasNumber config (Unpost u) = refl
meaning-HasNumber config (Mark m) = refl
meaning-HasNumber config (Manual m) = refl
meaning-HasNumber config (Activity m) = refl
meaning-HasNumber config (Close c) = refl
meaning-HasNumber config (Sweep s) = refl
meaning-HasNumber config (Balance b) = refl
meaning-HasNumber config (Turnovers t) = refl
meaning-HasNumber config (Both b) = refl
meaning-HasNumber config (AccountBalance b) = refl
meaning-HasNumber config (AccountTurnovers t) = refl
meaning-HasNumber config (AccountBoth t) = refl
meaning-HasNumber config (DrCr q) = refl
meaning-HasNumber config (Documents q) = refl
meaning-HasNumber config (Doc q) = refl
