use Rattle.std.proofs.Common.{◌+◌, ◌-◌, ◌++◌, drop, take, ap, ◌∙◌, arith, length-take, length-drop}
use Rattle.reg_io.proofs.Ranges.{slice_range-front, slice_range-grown}
use Rattle.reg_io.proofs.window.refill.Goals as goal

pub returns-in-Err-clause-bytes : goal.returns-in-Err-clause-bytes
returns-in-Err-clause-bytes g c =
    let e = c.in-Err.ensures in
    (slice_range-front _ _ c.pack.result _ e.front ∙ c.pack.ensures.same, e.bytes)

pub returns-in-Ok-clause-bytes : goal.returns-in-Ok-clause-bytes
returns-in-Ok-clause-bytes g c =
    let e = c.in-Ok.ensures in let p = c.pack.ensures in
    let len = c.args.end.now - c.args.start.now in
    let behind = drop (c.pack.result + len) c.read_at.new.buffer in
    record {
      got = take c.in-Ok.count behind;
      grows = slice_range-grown c.pack.new.buffer c.read_at.new.buffer c.pack.result
          (c.pack.result + len) c.in-Ok.count
          (omega arith) (omega arith) e.front ∙ ap (λ l. l ++ take c.in-Ok.count behind) p.same;
      len = simp length-take (omega (arith, e.bound));
      within = e.within;
      taken = e.bytes.0;
      at_end = λ none. e.bytes.1 none (simp length-drop (omega (arith, p.free c.requires.free)));
    }
