-- An act that reads.
use Rattle.std.proofs.Common.{◌≡◌, ℕ, ℤ, Bool, Some, List, Result, sym, subst, ap, ◌∙◌}
use Rattle.reg_base.specs.declared.fault.PostFault.{PostFault}
use Rattle.reg_base.specs.declared.records.Item.{Item}
use Rattle.reg_base.specs.Records.{Booked}
use Rattle.cfg_model.specs.declared.config.Config.{Config}
use Rattle.rule_lang.specs.declared.statement.Act.{Act}
use Rattle.rule_lang.specs.declared.statement.Act.TheVariants.{WriteOff, Require}
use Rattle.rule_lang.specs.declared.statement.Bind.{Bind}
use Rattle.rule_lang.specs.declared.statement.Sum.{Sum}
use Rattle.post_model.specs.declared.holding.Holding.{Holding}
use Rattle.post_model.specs.Scenes.{Scene}
use Rattle.post_model.specs.declared.made.Made.{Made}
use Rattle.post_model.specs.Lefts.{read_item, read_of, left_of, found_by}
use Rattle.post_model.specs.Yields.{depth_of, holdings_of, left_sum, act_on, noted, act_run}
use Rattle.post_rules.specs.ActParts.{written_from, required_of}
use Rattle.reg_base.specs.declared.tried.Fault.{Fault}
use Rattle.reg_base.specs.Tries.{Tries}

-- an act that reads an item makes what it makes of what is left of it, the read being noted
pub read-run : (config : Config) (books : ℕ → List Booked) (scene : Scene) (act : Act)
    (made new : Made) (item : Item) (result : Result Made (Fault PostFault))
    → read_of config scene act ≡ Some item → new ≡ noted (Some item) made
    → Tries result (act_on config scene act (left_of books scene.doc made.sets item) new)
    → Tries result (act_run config books scene act made)
unfolding act_run
read-run config books scene act made new item result reads is of =
    subst (λ read. Tries result (act_on config scene act
    (found_by books scene.doc made.sets read) (noted read made))) (sym reads)
    (subst (λ m. Tries result (act_on config scene act
    (left_of books scene.doc made.sets item) m)) is of)

-- a requirement, by what is left
pub require-run : (config : Config) (books : ℕ → List Booked) (scene : Scene) (register : ℕ)
    (binds : List Bind) (resource : ℕ) (least : Sum) (code : List ℕ) (left : ℤ)
    (made new : Made) (item : Item) (result : Result Made (Fault PostFault))
    → item ≡ read_item config scene register binds → new ≡ noted (Some item) made
    → left ≡ left_sum (depth_of config item.space) resource
    (left_of books scene.doc made.sets item)
    → Tries result (required_of scene least code left new)
    → Tries result (act_run config books scene (Require register binds resource least code) made)
unfolding act_on required_of read_item
require-run config books scene register binds resource least code left made new item result reads
    is sum of =
    read-run config books scene (Require register binds resource least code) made new item result
    (ap Some (sym reads)) is
    (subst (λ (n : ℤ). Tries result (required_of scene least code n new))
    (sum ∙ ap (λ (space : ℕ). left_sum (depth_of config space) resource
    (left_of books scene.doc made.sets item)) (ap (λ (i : Item). i.space) reads)) of)

-- a write-off, by the holdings of what is left
pub write_off-run : (config : Config) (books : ℕ → List Booked) (scene : Scene) (fifo : Bool)
    (register : ℕ) (binds : List Bind) (quantity : ℕ) (wanted : Sum) (amount : ℕ)
    (holdings : List Holding) (made new : Made) (item : Item)
    (result : Result Made (Fault PostFault))
    → item ≡ read_item config scene register binds → new ≡ noted (Some item) made
    → holdings ≡ holdings_of config fifo item.space quantity amount
    (left_of books scene.doc made.sets item)
    → Tries result (written_from config scene register binds quantity wanted amount holdings new)
    → Tries result (act_run config books scene
    (WriteOff fifo register binds quantity wanted amount) made)
unfolding act_on written_from read_item
write_off-run config books scene fifo register binds quantity wanted amount holdings made new item
    result reads is left of =
    read-run config books scene (WriteOff fifo register binds quantity wanted amount) made new item
    result (ap Some (sym reads)) is
    (subst (λ (hs : List Holding). Tries result
    (written_from config scene register binds quantity wanted amount hs new))
    (left ∙ ap (λ (space : ℕ). holdings_of config fifo space quantity amount
    (left_of books scene.doc made.sets item)) (ap (λ (i : Item). i.space) reads)) of)
