use Rattle.std.proofs.Common.{◌≡◌, ◌+◌, ◌^◌, ◌++◌, None, IfOk, true, false, List}
use Rattle.std.proofs.Common.{[], length, map, ap, ◌∙◌, sym}
use Rattle.std.proofs.Common.{subst, arith}
use Rattle.std.proofs.lemmas.List.{map-append, length-map}
use Rattle.reg_base.specs.Records.{Booked}
use Rattle.reg_base.specs.Balances.{sum_rows}
use Rattle.row_sums.specs.Sums.{booked, AddsUp, AreInReach}
use Rattle.row_sums.proofs.ForAbove.{AddsUp-nil, Adds-both, reach-more}
use Rattle.desk_core.specs.Controls.{change_of}
use Rattle.desk_core.proofs.controls.changed_rows.Goals as goal

pub add_records-requires-2-clause-reach : goal.add_records-requires-2-clause-reach
add_records-requires-2-clause-reach c =
    reach-more (0 + length (map (booked 0) c.as_slice.result.now)) (2 ^ 45)
    (omega (
      arith,
      length-map c.as_slice.result.now (booked 0),
      ap length c.as_slice.ensures,
      ap length c.in_ok-taken_back.ensures,
      length-map c.args.before.now (change_of true c.args.resource),
      c.requires.before,
    ))
    c.add_records.new.sums
    ((c.in_ok-add_records.ensures 0).reach 0 (subst (AreInReach 0) (sym c.new-sums.ensures) tt))

pub returns : goal.returns
returns c =
    let back : List Booked = map (booked 0) c.as_slice.result.now in
    let again : List Booked = map (booked 0) c.as_slice-2.result.now in
    let n = c.args.resource in
    let is : back ++ again ≡ map (booked 0)
    (map (change_of true n) c.args.before.now ++ map (change_of false n) c.args.after.now) =
    (λ i. map (booked 0) ((c.as_slice.ensures ∙ c.in_ok-taken_back.ensures) i)
    ++ map (booked 0) ((c.as_slice-2.ensures ∙ c.in_ok-counted.ensures) i))
    ∙ sym (map-append (booked 0) (map (change_of true n) c.args.before.now)
    (map (change_of false n) c.args.after.now)) in
    let P : List Booked → Type 0 = λ bs. IfOk c.into_shown.result (λ rows. rows
    ≡ sum_rows 1 None bs) in
    subst P is
    (c.into_shown.ensures.rows None 1 (back ++ again)
    ((Adds-both None 1 back again c.new-sums.result c.add_records.new.sums
    c.add_records-2.new.sums (c.in_ok-add_records.ensures 0) (c.in_ok-add_records-2.ensures 0)).sums
    [] (subst (AddsUp None 1 []) (sym c.new-sums.ensures) (AddsUp-nil None 1))))
