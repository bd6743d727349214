-- Private: a call and its job as the code holds them.
use Rattle.desk_run.specs.declared.words.Task.{Task as HeldTask}
use Rattle.desk_run.specs.declared.words.Task.TheVariants.{Run, Check, Report, Import}
use Rattle.desk_run.specs.declared.words.Call.{Call as HeldCall}
use Rattle.desk_run.specs.declared.files.Job.{Job as HeldJob}
use Rattle.desk_run.specs.declared.files.Job.TheVariants.{Run as RunJob, Check as CheckJob}
use Rattle.desk_run.specs.declared.files.Job.TheVariants.{Report as ReportJob, Import as ImportJob}
use Rattle.desk_run.specs.Files.{Job, answer_lines, count_books, make_report, post_documents}
use Rattle.desk_run.specs.Words.{Task, Call, check, import, report, run}

-- what is asked, as the definitions know it
abbrev pub task_view : HeldTask → Task
task_view Run = run
task_view Check = check
task_view (Report name from to) =
    report (record { name = name.now; from = from.now; to = to.now })
task_view (Import file) = import file.now

-- a call
abbrev pub call_view : HeldCall → Call
call_view call = record { config = call.config.now; task = task_view call.task }

-- a job
abbrev pub job_view : HeldJob → Job
job_view RunJob = answer_lines
job_view CheckJob = count_books
job_view (ReportJob name from to) =
    make_report (record { name = name.now; from = from.now; to = to.now })
job_view (ImportJob bytes) = post_documents bytes.items
