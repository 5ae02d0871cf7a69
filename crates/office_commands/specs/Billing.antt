-- What `bill` posts and prints for a month (S3 User Guide, "Understanding your AWS billing and usage reports for Amazon
-- S3": usage is reported by bucket).
use Rattle.std.specs.Prelude.{◌≡◌, ◌⊎◌, ℕ, ◌<◌, ◌≤◌, ◌^◌, List, length, ◌++◌, Some, None, Result, Ok, Err, IfOk, IsTrue, IsSome, Bool, true, false, codes, decimal}
use Rattle.disk_core.specs.declared.disk.Disk as disks
use Rattle.disk_core.specs.Fronts.{Narrower}
use Rattle.disk_core.specs.Moments.{KeepsTo, WritesNothing}
use Rattle.office_base.specs.Maps.{at_number}
use Rattle.office_types.specs.declared.command.Entry.{Entry}
use Rattle.office_types.specs.declared.command.Query.TheVariants as query
use Rattle.office_types.specs.declared.reply.Reply.{Reply}
use Rattle.office_types.specs.declared.reply.Reply.TheVariants as reply
use Rattle.office_types.specs.declared.reply.ReportLine.{ReportLine}
use Rattle.office_types.specs.declared.refusal.Refusal.{Refusal}
use Rattle.office_types.specs.declared.refusal.Refusal.TheVariants as refusal
use Rattle.plain_office.specs.Office.{Office}
use Rattle.plain_office.specs.Run.{run}
use Rattle.bill_book.specs.declared.bill.Bill.{Bill}
use Rattle.bill_book.specs.declared.keeper.BillKeeper as keepers
use Rattle.bill_book.specs.Books.{Book, Told, IsSameBook, AddsMonth}
use Rattle.bill_posting.specs.declared.posting.Receipt.{Receipt}
use Rattle.bill_posting.specs.declared.posting.PostFault.{PostFault}
use Rattle.bill_posting.specs.declared.posting.PostFault.TheVariants.{OtherBills, KeeperFault, NoMemory}
use Rattle.bill_posting.specs.Bills.{bills_of}
use Rattle.bill_posting.specs.Posting.{DoesPost, IsReceiptOf}
use Rattle.desk_core.specs.declared.clock.Clock as clocks
use Rattle.office_machine.specs.Once.{StandsFor}
use Rattle.desk_core.specs.Desk.{DeskView}
use Rattle.desk_core.specs.Histories.{HasAcceptedHistory, IsSound}
use Rattle.desk_core.specs.Looking.{IsRead, IsReplyOf}
use Rattle.desk_core.specs.Opening.{Opens}
use Rattle.http_front.specs.declared.replies.Replies as sinks
use Rattle.office_commands.specs.Lines.{line, open_month_note, other_bills_note, keeper_note}
use Rattle.office_commands.specs.Running.{journal_limit, Surroundings, IsNoted, IsSilent, IsPutOut, RunsOut, Starts}

-- how the printed line begins: for bills that were posted before, and for bills posted now
abbrev pub posting_words : Bool → List ℕ
posting_words true = codes "already posted "
posting_words false = codes "bills "

-- what is printed for a posted month: the number of its bills, and their total
unfoldable pub receipt_line : Receipt → List ℕ
receipt_line receipt =
    line (posting_words receipt.before ++ decimal receipt.bills ++ codes " total " ++ decimal receipt.total)

-- the month is among the closed months of the office
abbrev pub IsClosed : ℕ → Office → Type 0
IsClosed month office = IsSome (at_number month office.closed)

-- a month that is billed, with the keeper of bills before and after the call
pub record Billing (K : Type 0) : Type 0 where
  pub month : ℕ
  pub old : K
  pub new : K

module _ {K : Type 0} where
  -- this month, with the keeper before and after
  abbrev pub billing : ℕ → K → K → Billing K
  billing month old new = record { month = month; old = old; new = new }

  -- the keeper is unchanged
  abbrev pub LeavesKeeper : Billing K → Type 0
  LeavesKeeper one = one.new ≡ one.old

-- ---- what becomes of the bills

-- the output or the keeper failed, possibly after the month was posted
abbrev pub MayHavePosted : ℕ → Type 0
MayHavePosted status = (status ≡ 4) ⊎ (status ≡ 11)

-- What billing does to the book, by its status. With status 0 the month has these bills. Otherwise nothing changed, or
-- the month was posted before something failed. No other month changes.
pub record BillsBook (month : ℕ) (bills : List Bill) (status : ℕ) (old new : Book) : Type 0 where
  pub done : status ≡ 0 → new month ≡ Some bills
  pub others : (other : ℕ) → (other ≡ month → ⊥) → new other ≡ old other
  pub undone : (status ≡ 0 → ⊥) → IsSameBook old new ⊎ (MayHavePosted status × AddsMonth month bills old new)

-- ---- what is said

module _ {W : Type 0} (w : sinks.Ghosts W) where
  -- this status and this note, and nothing on the output
  abbrev pub EndsBilling : ℕ → List ℕ → W → W → ℕ → Type 0
  EndsBilling exit note old new status = (status ≡ exit) × IsSilent w old new × IsNoted w old new note

  -- what is printed for the answer to a posting
  abbrev pub TellsPosting : Result Receipt PostFault → W → W → ℕ → Type 0
  TellsPosting (Ok receipt) old new status = IsPutOut w (receipt_line receipt) old new status
  TellsPosting (Err (OtherBills kept asked)) old new status = EndsBilling 13 other_bills_note old new status
  TellsPosting (Err KeeperFault) old new status = EndsBilling 11 keeper_note old new status
  TellsPosting (Err NoMemory) old new status = RunsOut w old new status

module _ {W K : Type 0} (w : sinks.Ghosts W) (b : keepers.Ghosts K) where
  -- The bills of these lines are posted. What is printed is the answer, with the number of the bills and their total.
  -- If the keeper's book is known, it changes as the answer and the status say.
  pub record PostsLines (lines : List ReportLine) (one : Billing K) (old new : W) (status : ℕ) : Type 0 where
    pub answer : Result Receipt PostFault
    pub receipt : IfOk answer (IsReceiptOf (bills_of lines))
    pub posts : Told (b.book one.old) (b.book one.new)
        (λ before after. DoesPost one.month (bills_of lines) before after answer)
    pub told : TellsPosting w answer old new status
    pub book : Told (b.book one.old) (b.book one.new) (BillsBook one.month (bills_of lines) status)

  -- what happens with the office's reply to the query for the report
  abbrev pub PostsReply : Result Reply Refusal → Billing K → W → W → ℕ → Type 0
  PostsReply (Ok (reply.Report lines)) one old new status = PostsLines lines one old new status
  PostsReply (Err refusal.NoMemory) one old new status = RunsOut w old new status × LeavesKeeper one
  PostsReply _ one old new status = ⊥

  -- What happens for a month of this office whose report has these lines. If the month is closed, the lines are posted,
  -- unless memory runs out first. If it is open, it is refused. If nothing is posted, the keeper is unchanged.
  abbrev pub BillsOffice : Billing K → Office → List ReportLine → W → W → ℕ → Type 0
  BillsOffice one office lines old new status =
      (IsClosed one.month office
      × (PostsLines lines one old new status ⊎ (RunsOut w old new status × LeavesKeeper one)))
      ⊎ ((IsClosed one.month office → ⊥) × EndsBilling w 12 open_month_note old new status × LeavesKeeper one)

  -- This office bills the month. Its report is as of the later of the clock's first number and the last moment.
  pub record BillsBy (office : Office) (one : Billing K) (first : ℕ) (old new : W) (status : ℕ) : Type 0 where
    pub lines : List ReportLine
    pub is_read : IsClosed one.month office
        → IsReplyOf first (query.Report one.month) office (Ok (reply.Report lines))
    pub billed : BillsOffice one office lines old new status

  -- the office after this history bills it so
  pub record BillsAfter (history : List Entry) (one : Billing K) (first : ℕ) (old new : W) (status : ℕ) : Type 0 where
    pub office : Office
    pub is_run : run history ≡ Some office
    pub bills : BillsBy office one first old new status

module _ {D C W K : Type 0} (d : disks.Ghosts D) (w : sinks.Ghosts W) (b : keepers.Ghosts K) where
  -- The office was opened, and bills the month. On a sound disk it is the office after the history that the journal, as
  -- read, has. Nothing is written to the journal, each image existed before, the disk did not fail, and the clock gives
  -- no further number.
  pub record BillsMonth (one : Billing K) (first : ℕ) (old new : Surroundings D C W) (status : ℕ) : Type 0 where
    pub desk : DeskView D C
    pub opens : Opens d old.disk old.clock journal_limit desk
    pub writes : WritesNothing d old.disk new.disk
    pub any_moment : IsTrue d.honest → KeepsTo d old.disk new.disk (Narrower (d.state old.disk))
    pub quiet : d.fault_count new.disk ≡ d.fault_count old.disk
    pub clock : new.clock ≡ old.clock
    pub billed : (office : Office) → StandsFor desk.office office → BillsBy w b office one first old.out new.out status
    pub sound : IsTrue d.honest → IsSound (d.state old.disk)
        → (history : List Entry) × HasAcceptedHistory history (d.state old.disk).journal.seen
        × BillsAfter w b history one first old.out new.out status

module _ {D C W K : Type 0} (d : disks.Ghosts D) (k : clocks.Ghosts C) (w : sinks.Ghosts W) (b : keepers.Ghosts K) where
  -- what `bill` does; if the journal is not opened or the clock is at its end, the keeper is unchanged
  abbrev pub Bills : Billing K → Surroundings D C W → Surroundings D C W → ℕ → Type 0
  Bills one = Starts d k w one.old one.new (BillsMonth d w b one)

-- ---- a month that can be billed

module _ {K : Type 0} (b : keepers.Ghosts K) where
  -- The month is closed after this history. The keeper's book is known, and has no bills of the month or those of its
  -- report, whenever that is read.
  pub record CanBill (history : List Entry) (one : Billing K) : Type 0 where
    pub office : Office
    pub is_run : run history ≡ Some office
    pub closed : IsClosed one.month office
    pub book : Book
    pub tells : b.book one.old ≡ Some book
    pub tells_still : IsSome (b.book one.new)
    pub free : (book one.month ≡ None) ⊎ ((told : ℕ) (lines : List ReportLine)
        → IsRead told (query.Report one.month) history (Ok (reply.Report lines))
        → book one.month ≡ Some (bills_of lines))

-- ---- what posting asks of a reply, and what comes of it

-- the statuses of billing a closed month with an open office
abbrev pub IsPostExit : ℕ → Type 0
IsPostExit status = (status ≡ 0) ⊎ ((status ≡ 4) ⊎ ((status ≡ 6) ⊎ ((status ≡ 11) ⊎ (status ≡ 13))))

-- the bills were posted, now or earlier
abbrev pub IsPosted : Result Receipt PostFault → Type 0
IsPosted (Ok receipt) = Unit {0}
IsPosted (Err fault) = ⊥

-- a reply that the office may give to the query for a closed month's report: the report, whose lines can be posted, or
-- out of memory
abbrev pub MayBePosted : Result Reply Refusal → Type 0
MayBePosted (Ok (reply.Report lines)) = (length lines < 2 ^ 32) × (length (bills_of lines) ≤ 1_000)
MayBePosted (Err refusal.NoMemory) = Unit {0}
MayBePosted _ = ⊥
