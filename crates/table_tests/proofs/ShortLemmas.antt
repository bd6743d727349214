-- Documents whose sets were found to be short have short sets.
use Rattle.std.proofs.Common.{◌≡◌, ◌≤◌, true, nat_le, List, length}
use Rattle.std.specs.List.{list_all}
use Rattle.std.proofs.lemmas.Bool.{leb-true}
use Rattle.std.proofs.lemmas.List.Elements.{All-weaker}
use Rattle.std.proofs.lemmas.List.Sums.{AllPass-from_list_all}
use Rattle.reg_base.specs.declared.records.Rec.{Rec}
use Rattle.reg_base.specs.declared.records.Document.{Document}
use Rattle.virt_tables.specs.Bounds.{HasShortRecords}

pub short-sets : (d : Document)
    → list_all (λ (set : List Rec). nat_le (length set) 5_000) d.sets.registers ≡ true
    → HasShortRecords d
short-sets d h =
    All-weaker (λ (set : List Rec). nat_le (length set) 5_000 ≡ true)
    (λ (set : List Rec). length set ≤ 5_000) (λ set e. leb-true (length set) 5_000 e)
    d.sets.registers
    (AllPass-from_list_all (λ (set : List Rec). nat_le (length set) 5_000) d.sets.registers h)
