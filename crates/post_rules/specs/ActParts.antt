-- Private: parts of acts, where it is known what is left.
use Rattle.std.specs.Prelude.{ℕ, ℤ, int_le, List, Result, Ok}
use Rattle.reg_base.specs.Results.{◌>>=◌, unless}
use Rattle.reg_base.specs.declared.fault.PostFault.{PostFault}
use Rattle.reg_base.specs.declared.fault.PostFault.TheVariants.{Broken}
use Rattle.cfg_model.specs.declared.config.Config.{Config}
use Rattle.rule_lang.specs.declared.statement.Bind.{Bind}
use Rattle.rule_lang.specs.declared.statement.Sum.{Sum}
use Rattle.post_model.specs.Scenes.{Scene, sum_value}
use Rattle.post_model.specs.declared.holding.Holding.{Holding}
use Rattle.post_model.specs.declared.made.Made.{Made}
use Rattle.post_model.specs.Makes.{values_with, taken_numbers, expenses_made}
use Rattle.post_model.specs.WriteOffs.{write_off}
use Rattle.post_model.specs.Yields.{width_of, depth_of, written_off}

-- an expense for each that was taken
abbrev pub expenses_for : Config → Scene → ℕ → List Bind → ℕ → ℕ → List Holding → Made →
    Result Made PostFault
expenses_for config scene register binds quantity amount takes made =
    expenses_made scene register
    (λ (h : Holding). values_with scene binds h.lot (width_of config register))
    (λ (h : Holding). taken_numbers quantity amount h (depth_of config register)) takes made

-- a write-off from holdings
unfoldable pub written_from : Config → Scene → ℕ → List Bind → ℕ → Sum → ℕ → List Holding → Made →
    Result Made PostFault
written_from config scene register binds quantity wanted amount holdings made = do
  n ← sum_value scene wanted
  takes ← write_off scene n holdings
  written_off config scene register binds quantity amount made takes

-- a requirement where so much is left
unfoldable pub required_of : Scene → Sum → List ℕ → ℤ → Made → Result Made PostFault
required_of scene least code left made = do
  n ← sum_value scene least
  _ ← unless (int_le n left) (Broken scene.rule scene.line code)
  Ok made
