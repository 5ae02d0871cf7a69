-- What the report of a month prints (S3 User Guide, "Understanding your AWS billing and usage reports for Amazon S3").
use Rattle.std.specs.Prelude.{◌≡◌, ◌⊎◌, ℕ, Bool, true, false, List, Result, Ok, Err, IsTrue}
use Rattle.disk_core.specs.declared.disk.Disk as disks
use Rattle.disk_core.specs.Fronts.{Narrower}
use Rattle.disk_core.specs.Moments.{KeepsTo, WritesNothing}
use Rattle.office_types.specs.declared.command.Entry.{Entry}
use Rattle.office_types.specs.declared.command.Query.TheVariants as query
use Rattle.office_types.specs.declared.reply.Reply.{Reply}
use Rattle.office_types.specs.declared.reply.Reply.TheVariants as reply
use Rattle.office_types.specs.declared.reply.ReportLine.{ReportLine}
use Rattle.office_types.specs.declared.refusal.Refusal.{Refusal}
use Rattle.office_types.specs.declared.refusal.Refusal.TheVariants.{NoTariff, NoMemory}
use Rattle.usage_report.specs.Csv.{report_csv}
use Rattle.usage_report.specs.Tables.{report_text}
use Rattle.desk_core.specs.declared.clock.Clock as clocks
use Rattle.plain_office.specs.Office.{Office}
use Rattle.office_machine.specs.Once.{StandsFor}
use Rattle.desk_core.specs.Desk.{DeskView}
use Rattle.desk_core.specs.Histories.{HasAcceptedHistory, IsSound}
use Rattle.desk_core.specs.Opening.{Opens}
use Rattle.desk_core.specs.Looking.{IsRead, IsReplyOf}
use Rattle.http_front.specs.declared.replies.Replies as sinks
use Rattle.office_commands.specs.Lines.{tariff_note}
use Rattle.office_commands.specs.Running.{journal_limit, Surroundings, IsNoted, IsSilent, IsPutOut, RunsOut, Starts}

-- a report is printed as a table to read, or as CSV
abbrev pub report_bytes : Bool → List ReportLine → List ℕ
report_bytes true lines = report_text lines
report_bytes false lines = report_csv lines

-- what the office may reply to that query: a report, no tariff, or out of memory
abbrev pub IsReportReply : Result Reply Refusal → Type 0
IsReportReply answered = ((lines : List ReportLine) × (answered ≡ Ok (reply.Report lines)))
    ⊎ ((answered ≡ Err NoTariff) ⊎ (answered ≡ Err NoMemory))

module _ {W : Type 0} (w : sinks.Ghosts W) where
  -- what is printed for the office's reply to the query for the report
  abbrev pub TellsReport : Bool → Result Reply Refusal → W → W → ℕ → Type 0
  TellsReport as_text (Ok (reply.Report lines)) old new status = IsPutOut w (report_bytes as_text lines) old new status
  TellsReport as_text (Err NoTariff) old new status = (status ≡ 10) × IsSilent w old new × IsNoted w old new tariff_note
  TellsReport as_text _ old new status = ⊥

module _ {D C W : Type 0} (d : disks.Ghosts D) (w : sinks.Ghosts W) where
  -- The office was opened, and prints its report of the month, as of the later of the clock's first number and the last
  -- moment; or memory ran out. On a sound disk it is the office after the history that the journal, as read, has.
  -- Nothing is written, the disk did not fail, and the clock gives no further number.
  pub record TellsMonth (month : ℕ) (as_text : Bool) (first : ℕ) (old new : Surroundings D C W) (status : ℕ) : Type 0
    where
      pub desk : DeskView D C
      pub opens : Opens d old.disk old.clock journal_limit desk
      pub writes : WritesNothing d old.disk new.disk
      pub any_moment : IsTrue d.honest → KeepsTo d old.disk new.disk (Narrower (d.state old.disk))
      pub quiet : d.fault_count new.disk ≡ d.fault_count old.disk
      pub clock : new.clock ≡ old.clock
      pub reply : Result Reply Refusal
      pub answered : (office : Office) → StandsFor desk.office office → IsReplyOf first (query.Report month) office reply
      pub sound : IsTrue d.honest → IsSound (d.state old.disk)
          → (history : List Entry) × HasAcceptedHistory history (d.state old.disk).journal.seen
          × IsRead first (query.Report month) history reply
      pub told : TellsReport w as_text reply old.out new.out status ⊎ RunsOut w old.out new.out status

module _ {D C W : Type 0} (d : disks.Ghosts D) (k : clocks.Ghosts C) (w : sinks.Ghosts W) where
  -- what `report` does; if the journal is not opened or the clock is at its end, nothing is printed; no part but its
  -- surroundings could change
  abbrev pub Reports : ℕ → Bool → Surroundings D C W → Surroundings D C W → ℕ → Type 0
  Reports month as_text = Starts d k w month month (TellsMonth d w month as_text)
