use Rattle.std.proofs.Common.{Err, Ok, sym, ◌∙◌}
use Rattle.std.proofs.lemmas.List.{length-map}
use Rattle.post_journal.proofs.ForAbove.{grows_opening}
use Rattle.desk_core.proofs.ForAbove.{is_fault}
use Rattle.desk_run.specs.Runs.{streams_of}
use Rattle.desk_run.proofs.CallEnds.{EndsUnder-check, EndsUnder-import, EndsUnder-report}
use Rattle.desk_run.proofs.CallEnds.{EndsUnder-run}
use Rattle.desk_run.proofs.ReportLemmas.{opened_prints}
use Rattle.desk_run.proofs.top_call.do_job.Goals as goal

pub returns-in_err-run_lines-in-Run : goal.returns-in_err-run_lines-in-Run
returns-in_err-run_lines-in-Run g c = record {
  ends = rw (
    is_fault c.from_residual-in_err-run_lines-in-Run.result _
        c.from_residual-in_err-run_lines-in-Run.ensures,
    c.in-Run.is,
  )
      (EndsUnder-run (record { config = c.args.config; rules = c.args.rules }) _
      c.in_ok-desk.desk.desk c.run_lines.new.desk.desk
      (streams_of g.S.Device.left g.S.Device.read_faults g.O.Device.taken g.O.Device.write_faults
      c.args.input.now c.args.out.now)
      (streams_of g.S.Device.left g.S.Device.read_faults g.O.Device.taken g.O.Device.write_faults
      c.run_lines.new.input c.run_lines.new.out)
      (g.D.Disk.state c.args.disk.now) _ (g.D.Disk.state c.run_lines.new.disk)
      (g.D.Disk.faults c.args.disk.now) _ (g.D.Disk.faults c.run_lines.new.disk)
      (Err c.in_err-run_lines-in-Run.field-0.0) c.in_ok-journal.ensures.opens
      (rw c.as_slice.ensures at c.in_ok-desk.ensures.opens.1)
      (grows_opening _ _ c.in_ok-journal.ensures.keeps c.in_ok-journal.ensures.stands.1.sure)
      c.in_ok-journal.ensures.cause.later c.in_err-run_lines-in-Run.ensures.runs);
}

pub returns-in-Run : goal.returns-in-Run
returns-in-Run g c = record {
  ends = rw c.in-Run.is
      (EndsUnder-run (record { config = c.args.config; rules = c.args.rules }) _
      c.in_ok-desk.desk.desk c.run_lines.new.desk.desk
      (streams_of g.S.Device.left g.S.Device.read_faults g.O.Device.taken g.O.Device.write_faults
      c.args.input.now c.args.out.now)
      (streams_of g.S.Device.left g.S.Device.read_faults g.O.Device.taken g.O.Device.write_faults
      c.run_lines.new.input c.run_lines.new.out)
      (g.D.Disk.state c.args.disk.now) _ (g.D.Disk.state c.run_lines.new.disk)
      (g.D.Disk.faults c.args.disk.now) _ (g.D.Disk.faults c.run_lines.new.disk)
      (Ok tt) c.in_ok-journal.ensures.opens
      (rw c.as_slice.ensures at c.in_ok-desk.ensures.opens.1)
      (grows_opening _ _ c.in_ok-journal.ensures.keeps c.in_ok-journal.ensures.stands.1.sure)
      c.in_ok-journal.ensures.cause.later c.in_ok-run_lines-in-Run.ensures.runs);
}

pub returns-in_err-write_counts-in-Check : goal.returns-in_err-write_counts-in-Check
returns-in_err-write_counts-in-Check g c = record {
  ends = rw (
    is_fault c.from_residual-in_err-write_counts-in-Check.result _
        c.from_residual-in_err-write_counts-in-Check.ensures,
    c.in-Check.is,
  )
      (EndsUnder-check (record { config = c.args.config; rules = c.args.rules }) _
      c.in_ok-desk.desk.desk
      (streams_of g.S.Device.left g.S.Device.read_faults g.O.Device.taken g.O.Device.write_faults
      c.args.input.now c.args.out.now)
      (streams_of g.S.Device.left g.S.Device.read_faults g.O.Device.taken g.O.Device.write_faults
      c.args.input.now c.write_counts.new.out)
      (g.D.Disk.state c.args.disk.now) (g.D.Disk.state c.open.new.disk)
      (g.D.Disk.faults c.args.disk.now) (g.D.Disk.faults c.open.new.disk) c.in_ok-journal.ensures.opens
      (rw c.as_slice.ensures at c.in_ok-desk.ensures.opens.1) _
      (Err c.in_err-write_counts-in-Check.field-0.0)
      (c.len.ensures ∙ sym (length-map _ (λ p. p.bytes))) c.in_ok-journal.ensures.keeps
      c.in_err-write_counts-in-Check.ensures);
}

pub returns-in-Check : goal.returns-in-Check
returns-in-Check g c = record {
  ends = rw c.in-Check.is
      (EndsUnder-check (record { config = c.args.config; rules = c.args.rules }) _
      c.in_ok-desk.desk.desk
      (streams_of g.S.Device.left g.S.Device.read_faults g.O.Device.taken g.O.Device.write_faults
      c.args.input.now c.args.out.now)
      (streams_of g.S.Device.left g.S.Device.read_faults g.O.Device.taken g.O.Device.write_faults
      c.args.input.now c.write_counts.new.out)
      (g.D.Disk.state c.args.disk.now) (g.D.Disk.state c.open.new.disk)
      (g.D.Disk.faults c.args.disk.now) (g.D.Disk.faults c.open.new.disk) c.in_ok-journal.ensures.opens
      (rw c.as_slice.ensures at c.in_ok-desk.ensures.opens.1) _ (Ok tt)
      (c.len.ensures ∙ sym (length-map _ (λ p. p.bytes))) c.in_ok-journal.ensures.keeps
      c.in_ok-write_counts-in-Check.ensures);
}

pub returns-in_err-write_report-in-Report : goal.returns-in_err-write_report-in-Report
returns-in_err-write_report-in-Report g c = record {
  ends = rw (
    is_fault c.from_residual-in_err-write_report-in-Report.result _
        c.from_residual-in_err-write_report-in-Report.ensures,
    c.in-Report.is,
  )
      (EndsUnder-report (record { config = c.args.config; rules = c.args.rules }) _
      c.in_ok-desk.desk.desk
      (streams_of g.S.Device.left g.S.Device.read_faults g.O.Device.taken g.O.Device.write_faults
      c.args.input.now c.args.out.now)
      (streams_of g.S.Device.left g.S.Device.read_faults g.O.Device.taken g.O.Device.write_faults
      c.args.input.now c.write_report.new.out)
      (g.D.Disk.state c.args.disk.now) (g.D.Disk.state c.open.new.disk)
      (g.D.Disk.faults c.args.disk.now) (g.D.Disk.faults c.open.new.disk)
      c.in_ok-journal.ensures.opens
      (rw c.as_slice.ensures at c.in_ok-desk.ensures.opens.1)
      (record { name = c.in-Report.name.now; from = c.in-Report.from.now; to = c.in-Report.to.now })
      (Err c.in_err-write_report-in-Report.field-0.0) c.in_ok-journal.ensures.keeps
      c.in_err-write_report-in-Report.ensures);
}

pub returns-in-Report : goal.returns-in-Report
returns-in-Report g c = record {
  ends = rw c.in-Report.is
      (EndsUnder-report (record { config = c.args.config; rules = c.args.rules }) _
      c.in_ok-desk.desk.desk
      (streams_of g.S.Device.left g.S.Device.read_faults g.O.Device.taken g.O.Device.write_faults
      c.args.input.now c.args.out.now)
      (streams_of g.S.Device.left g.S.Device.read_faults g.O.Device.taken g.O.Device.write_faults
      c.args.input.now c.write_report.new.out)
      (g.D.Disk.state c.args.disk.now) (g.D.Disk.state c.open.new.disk)
      (g.D.Disk.faults c.args.disk.now) (g.D.Disk.faults c.open.new.disk)
      c.in_ok-journal.ensures.opens
      (rw c.as_slice.ensures at c.in_ok-desk.ensures.opens.1)
      (record { name = c.in-Report.name.now; from = c.in-Report.from.now; to = c.in-Report.to.now })
      (Ok tt) c.in_ok-journal.ensures.keeps
      c.in_ok-write_report-in-Report.ensures);
}

pub returns-in_err-import_documents-in-Import : goal.returns-in_err-import_documents-in-Import
returns-in_err-import_documents-in-Import g c = record {
  ends = rw (
    is_fault c.from_residual-in_err-import_documents-in-Import.result _
        c.from_residual-in_err-import_documents-in-Import.ensures,
    c.in-Import.is,
  )
      (EndsUnder-import (record { config = c.args.config; rules = c.args.rules }) _
      c.in_ok-desk.desk.desk
      (streams_of g.S.Device.left g.S.Device.read_faults g.O.Device.taken g.O.Device.write_faults
      c.args.input.now c.args.out.now)
      (streams_of g.S.Device.left g.S.Device.read_faults g.O.Device.taken g.O.Device.write_faults
      c.args.input.now c.import_documents.new.out)
      (g.D.Disk.state c.args.disk.now) (g.D.Disk.state c.import_documents.new.disk)
      (g.D.Disk.faults c.args.disk.now) (g.D.Disk.faults c.import_documents.new.disk)
      c.in_ok-journal.ensures.opens
      (rw c.as_slice.ensures at c.in_ok-desk.ensures.opens.1) c.in-Import.bytes.items _ _
      (Err c.in_err-import_documents-in-Import.field-0.0)
      (grows_opening _ _ c.in_ok-journal.ensures.keeps c.in_ok-journal.ensures.stands.1.sure)
      c.in_ok-journal.ensures.cause.later
      (rw c.as_slice-in-Import.ensures.value at c.in_err-import_documents-in-Import.ensures.imports));
}

pub returns : goal.returns
returns g c = record {
  ends = rw c.in-Import.is
      (EndsUnder-import (record { config = c.args.config; rules = c.args.rules }) _
      c.in_ok-desk.desk.desk
      (streams_of g.S.Device.left g.S.Device.read_faults g.O.Device.taken g.O.Device.write_faults
      c.args.input.now c.args.out.now)
      (streams_of g.S.Device.left g.S.Device.read_faults g.O.Device.taken g.O.Device.write_faults
      c.args.input.now c.import_documents.new.out)
      (g.D.Disk.state c.args.disk.now) (g.D.Disk.state c.import_documents.new.disk)
      (g.D.Disk.faults c.args.disk.now) (g.D.Disk.faults c.import_documents.new.disk)
      c.in_ok-journal.ensures.opens
      (rw c.as_slice.ensures at c.in_ok-desk.ensures.opens.1) c.in-Import.bytes.items _ _
      (Ok tt)
      (grows_opening _ _ c.in_ok-journal.ensures.keeps c.in_ok-journal.ensures.stands.1.sure)
      c.in_ok-journal.ensures.cause.later
      (rw c.as_slice-in-Import.ensures.value at c.in_ok-import_documents-in-Import.ensures.imports));
}

pub write_report-requires : goal.write_report-requires
write_report-requires g c = opened_prints c.reports_can_be_printed.ensures
    (record { config = c.args.config; rules = c.args.rules }) _ c.in_ok-desk.desk.desk
    (rw c.as_slice.ensures at c.in_ok-desk.ensures.opens.1)
