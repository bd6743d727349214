-- For the crates above: the lemmas of this crate that their proofs may cite.
use Rattle.std.proofs.Common.{◌≡◌, ℕ, ◌≤◌, List, [], ◌∷◌, ◌++◌, suc, length, refl, ap}
use Rattle.std.specs.List.{All, AllZip}
use Rattle.std.proofs.lemmas.List.Elements.{All-nil, All-cons}
use Rattle.reg_base.specs.Balances.{sum_rows}
use Rattle.reg_base.specs.Records.{Booked}
use Rattle.reg_base.specs.declared.records.Doc.{Doc}
use Rattle.reg_base.specs.declared.records.Item.{Item}
use Rattle.reg_base.specs.declared.records.Sets.{Sets}
use Rattle.cfg_model.specs.declared.config.Config.{Config}
use Rattle.post_model.specs.Lefts.{seen_of}
use Rattle.post_model.specs.Yields.{depth_of}
use Rattle.post_model.specs.Laws.{AgreeOn, AreRecordsOf, AreEntries, AreSetsOf}

AllZip-length : {X Y : Type 0} (R : X → Y → Type 0) (xs : List X) (ys : List Y) → AllZip R xs ys
    → length ys ≡ length xs
AllZip-length R [] [] all = refl
AllZip-length R [] (y ∷ ys) all = absurd all
AllZip-length R (x ∷ xs) [] all = absurd all
AllZip-length R (x ∷ xs) (y ∷ ys) all = ap suc (AllZip-length R xs ys all.1)

AllZip-All : {X Y : Type 0} (R : X → Y → Type 0) (P : Y → Type 0) → ((x : X) (y : Y) → R x y → P y)
    → (xs : List X) (ys : List Y) → AllZip R xs ys → All P ys
AllZip-All R P so [] [] all = All-nil P
AllZip-All R P so [] (y ∷ ys) all = absurd all
AllZip-All R P so (x ∷ xs) [] all = absurd all
AllZip-All R P so (x ∷ xs) (y ∷ ys) all =
    All-cons P y ys (so x y all.0) (AllZip-All R P so xs ys all.1)

module _ (config : Config) (sets : Sets) (are : AreSetsOf config sets) where
  -- as many sets as the configuration has registers and ledgers
  pub registers-counted : length sets.registers ≡ length config.registers
  registers-counted = AllZip-length AreRecordsOf config.registers sets.registers are.registers

  pub ledgers-counted : length sets.ledgers ≡ length config.ledgers
  ledgers-counted =
      AllZip-length (λ chart entries. AreEntries entries) config.ledgers sets.ledgers are.ledgers

  -- none of them is longer than a set may be
  pub records-few : All (λ set. length set ≤ 5_000) sets.registers
  records-few =
      AllZip-All AreRecordsOf (λ set. length set ≤ 5_000) (λ register recs is. is.few)
      config.registers sets.registers are.registers

  pub entries-few : All (λ set. length set ≤ 5_000) sets.ledgers
  entries-few =
      AllZip-All (λ chart entries. AreEntries entries) (λ set. length set ≤ 5_000)
      (λ chart entries is. is.few) config.ledgers sets.ledgers are.ledgers

-- books of which a document sees the same records of an item agree on it
pub AgreeOn-same : (config : Config) (doc : Doc) (books others : ℕ → List Booked) (item : Item)
    → seen_of books doc item ≡ seen_of others doc item → AgreeOn config doc books others item
AgreeOn-same config doc books others item same by own =
    ap (λ seen. sum_rows (depth_of config item.space) by (seen ++ own)) same
