use Rattle.std.proofs.Common.{sym, ◌∙◌, inl, inr, arith}
use Rattle.reg_io.proofs.ReaderLaws.{LeavesRest-trans}
use Rattle.reg_io.proofs.GivesLines.{NextRaw-skipped, Skips-round, StopsInPart-round}
use Rattle.reg_io.proofs.line_reader.LineReader.skip_line.Goals as goal

pub returns-in-Err-clause-next : goal.returns-in-Err-clause-next
returns-in-Err-clause-next g c =
    let i = c.parts.invariant in let p = c.pass_all.ensures in let r = c.in-Err.ensures in
    StopsInPart-round g.S.Device.left g.S.Device.read_faults c.args.self.now c.parts.self
    c.pass_all.new.self c.read_more.new.self i.skips i.part p.window p.room p.source r.more r.err.0
    c.requires.shows.1 i.rest.later r.cause

pub parts-preserved : goal.parts-preserved
parts-preserved g c =
    let i = c.parts.invariant in let p = c.pass_all.ensures in let r = c.in-Ok.ensures in
    let open_part = c.in-Open.ensures in record {
      skips = Skips-round g.S.Device.left c.args.self.now c.parts.self c.pass_all.new.self
          c.read_more.new.self
          i.skips i.part p.window p.room p.source r.more;
      start = i.start;
      within = omega (arith, i.within, p.room, r.more.room);
      part = open_part.0;
      some = elim r.goes [
        | inl ended ↦ absurd (let not_ended = open_part.1 in cc)
        | inr grown ↦
            omega (arith, grown)
      ];
      long = omega (arith, i.long, i.within, p.room, r.more.room);
      not_ended = open_part.1;
      rest = LeavesRest-trans _ _ _ _ _ _ _ i.rest (rw p.source at r.rest);
    }

pub returns-in_default : goal.returns-in_default
returns-in_default g c =
    let i = c.parts.invariant in let p = c.pass_all.ensures in let r = c.in-Ok.ensures in
    let e = c.end_skip.ensures in
    let skips = Skips-round g.S.Device.left c.args.self.now c.parts.self c.pass_all.new.self
    c.read_more.new.self
    i.skips i.part p.window p.room p.source r.more in record {
      next = NextRaw-skipped g.S.Device.left g.S.Device.read_faults _ c.read_more.new.self _ _ _
          skips
          (omega (arith, i.long, i.within, p.room, r.more.room)) e.ends;
      sound = λ ended. rw e.source (r.more.sound (sym e.ended ∙ ended));
      rest = rw e.source (LeavesRest-trans _ _ _ _ _ _ _ i.rest (rw p.source at r.rest));
    }
