-- A text that a job writes, whole or in part, beside a journal that stays.
use Rattle.std.specs.Prelude.{◌≡◌, ◌⊎◌, ⊤, ℕ, Vec, List, [], ◌∷◌, ◌++◌, Option, Result, Ok, Err}
use Rattle.std.specs.declared.alloc.Global.{Global}
use Rattle.std.specs.Io.KnownBytes.{Appends}
use Rattle.reg_io.specs.Counts.{AppendsPrefix, Rose}
use Rattle.reg_io.specs.Disks.{DiskState}
use Rattle.post_journal.specs.Journals.{Keeps}
use Rattle.reg_base.specs.declared.tried.Fault.{Fault}
use Rattle.reg_base.specs.declared.tried.Fault.TheVariants as FaultIs
use Rattle.desk_words.specs.ReplyTexts.{RefusalHasScales, reply_text}
use Rattle.desk_words.specs.declared.reply.Refusal.{Refusal}
use Rattle.desk_words.specs.declared.reply.Reply.TheVariants.{Refused as ReplyRefused}
use Rattle.desk_run.specs.declared.fault.JobFault.{JobFault}
use Rattle.desk_run.specs.declared.fault.JobFault.TheVariants.{Refused, Memory}
use Rattle.desk_run.specs.declared.fault.TextFault.{TextFault}
use Rattle.desk_run.specs.declared.fault.TextFault.TheVariants.{Write as TextWrite}
use Rattle.desk_run.specs.declared.fault.TextFault.TheVariants.{Memory as TextMemory}
use Rattle.desk_run.specs.Runs.{Streams}
use Rattle.desk_run.specs.Statuses.{text_fault}

-- nothing was written to the output
abbrev pub KeepsOut : Streams → Streams → Type 0
KeepsOut before now = now.taken ≡ before.taken

-- nothing was written to the output, and no entry of the journal came or went
pub record DoesNothing (before now : Streams) (disk disk_now : DiskState) : Type 0 where
  pub out : KeepsOut before now
  pub keeps : Keeps disk disk_now

-- ---- a text

-- a text is written whole, or a front of it where a write failed, or nothing where memory was
-- refused
abbrev pub WritesText : List ℕ → Option (List ℕ) → Option (List ℕ) → ℕ → ℕ
    → Result (Unit {0}) TextFault → Type 0
WritesText text before now faults faults_now (Ok done) = Appends before now text
WritesText text before now faults faults_now (Err TextWrite) =
    AppendsPrefix before now text × Rose faults faults_now
WritesText text before now faults faults_now (Err TextMemory) = now ≡ before

-- an end of a text, as one of a job
abbrev pub end_of_text : Result (Unit {0}) TextFault → Result (Unit {0}) JobFault
end_of_text (Ok done) = Ok tt
end_of_text (Err fault) = Err (text_fault fault)

-- a text is written, or not
pub record Tells (text : List ℕ) (before now : Option (List ℕ)) (faults faults_now : ℕ)
    (end : Result (Unit {0}) JobFault) : Type 0 where
  pub text_end : Result (Unit {0}) TextFault
  pub end_is : end ≡ end_of_text text_end
  pub writes : WritesText text before now faults faults_now text_end

-- and no entry of the journal came or went
pub record TellsText (text : List ℕ) (before now : Streams) (disk disk_now : DiskState)
    (end : Result (Unit {0}) JobFault) : Type 0 where
  pub tells : Tells text before.taken now.taken before.write_faults now.write_faults end
  pub keeps : Keeps disk disk_now

-- ---- a report

-- a refusal is the end, with the line of its reply
abbrev pub IsRefusedBy : Refusal → Result (Unit {0}) JobFault → Type 0
IsRefusedBy refusal end = (line : Vec ℕ Global) × (end ≡ Err (Refused line))
    × (line.items ≡ reply_text (ReplyRefused refusal) ++ 10 ∷ [])

-- a report is written, or nothing where it is refused
abbrev pub TellsReport : Result (List ℕ) Refusal → Option (List ℕ) → Option (List ℕ) → ℕ → ℕ
    → Result (Unit {0}) JobFault → Type 0
TellsReport (Ok text) before now faults faults_now end =
    Tells text before now faults faults_now end
TellsReport (Err refusal) before now faults faults_now end =
    (now ≡ before) × (IsRefusedBy refusal end ⊎ (end ≡ Err Memory))

-- a refusal that came in the place of a text can be printed
abbrev pub HasPrintedRefusal : {T : Type 0} → Result T (Fault Refusal) → Type 0
HasPrintedRefusal (Ok text) = ⊤
HasPrintedRefusal (Err (FaultIs.Refused refusal)) = RefusalHasScales refusal
HasPrintedRefusal (Err FaultIs.Memory) = ⊤

-- and no entry of the journal came or went
pub record Reports (report : Result (List ℕ) Refusal) (before now : Streams)
    (disk disk_now : DiskState) (end : Result (Unit {0}) JobFault) : Type 0 where
  pub tells : TellsReport report before.taken now.taken before.write_faults now.write_faults end
  pub keeps : Keeps disk disk_now
