use Rattle.desk_run.proofs.AnsweredLaws.{call_laws, call_order}
use Rattle.desk_run.proofs.CallEnds.{status-usage}
use Rattle.desk_run.proofs.Completeness.{call_completes}
use Rattle.std.specs.Prelude.{map, string_bytes}
use Rattle.desk_run.specs.Files.{shelf_of}
use Rattle.desk_run.specs.Runs.{streams_of}
use Rattle.desk_run.proofs.top_call.desk_main.Goals as goal

pub returns-clause-ends : goal.returns-clause-ends
returns-clause-ends g c = record {
  end = c.run_words-end.result;
  status_is = c.end_status.ensures;
  ends = c.run_words-end.ensures.ends;
  untouched = c.run_words-end.ensures.untouched;
  complains = c.complain.ensures;
}

pub returns-clause-words : goal.returns-clause-words
returns-clause-words g c = status-usage (map (λ w. string_bytes w) c.args.words.now)
    (shelf_of g.F.Shelf.files g.F.Shelf.faults c.args.shelf.now)
    (shelf_of g.F.Shelf.files g.F.Shelf.faults c.run_words-end.new.shelf)
    (streams_of g.S.Device.left g.S.Device.read_faults g.O.Device.taken g.O.Device.write_faults
    c.args.input.now c.args.out.now)
    (streams_of g.S.Device.left g.S.Device.read_faults g.O.Device.taken g.O.Device.write_faults
    c.run_words-end.new.input c.run_words-end.new.out)
    (g.D.Disk.state c.args.disk) (g.D.Disk.state c.run_words-end.new.disk)
    (g.D.Disk.faults c.args.disk) (g.D.Disk.faults c.run_words-end.new.disk)
    c.run_words-end.result _ c.end_status.ensures c.run_words-end.ensures.ends

pub returns-clause-whole : goal.returns-clause-whole
returns-clause-whole g c = call_completes _
    (shelf_of g.F.Shelf.files g.F.Shelf.faults c.args.shelf.now)
    (shelf_of g.F.Shelf.files g.F.Shelf.faults c.run_words-end.new.shelf)
    (streams_of g.S.Device.left g.S.Device.read_faults g.O.Device.taken g.O.Device.write_faults
    c.args.input.now c.args.out.now)
    (streams_of g.S.Device.left g.S.Device.read_faults g.O.Device.taken g.O.Device.write_faults
    c.run_words-end.new.input c.run_words-end.new.out)
    (g.D.Disk.state c.args.disk) (g.D.Disk.state c.run_words-end.new.disk)
    (g.D.Disk.faults c.args.disk) (g.D.Disk.faults c.run_words-end.new.disk)
    c.run_words-end.result _ c.end_status.ensures c.run_words-end.ensures.ends

pub returns-clause-laws : goal.returns-clause-laws
returns-clause-laws g c = call_laws _
    (shelf_of g.F.Shelf.files g.F.Shelf.faults c.args.shelf.now)
    (shelf_of g.F.Shelf.files g.F.Shelf.faults c.run_words-end.new.shelf)
    (streams_of g.S.Device.left g.S.Device.read_faults g.O.Device.taken g.O.Device.write_faults
    c.args.input.now c.args.out.now)
    (streams_of g.S.Device.left g.S.Device.read_faults g.O.Device.taken g.O.Device.write_faults
    c.run_words-end.new.input c.run_words-end.new.out)
    (g.D.Disk.state c.args.disk) (g.D.Disk.state c.run_words-end.new.disk)
    (g.D.Disk.faults c.args.disk) (g.D.Disk.faults c.run_words-end.new.disk)
    c.run_words-end.result c.run_words-end.ensures.ends

pub returns-clause-history : goal.returns-clause-history
returns-clause-history g c = call_order c.numbers_rise_over_entries.ensures _
    (shelf_of g.F.Shelf.files g.F.Shelf.faults c.args.shelf.now)
    (shelf_of g.F.Shelf.files g.F.Shelf.faults c.run_words-end.new.shelf)
    (streams_of g.S.Device.left g.S.Device.read_faults g.O.Device.taken g.O.Device.write_faults
    c.args.input.now c.args.out.now)
    (streams_of g.S.Device.left g.S.Device.read_faults g.O.Device.taken g.O.Device.write_faults
    c.run_words-end.new.input c.run_words-end.new.out)
    (g.D.Disk.state c.args.disk) (g.D.Disk.state c.run_words-end.new.disk)
    (g.D.Disk.faults c.args.disk) (g.D.Disk.faults c.run_words-end.new.disk)
    c.run_words-end.result c.run_words-end.ensures.ends
