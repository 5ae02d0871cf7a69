-- What explaining a journal file gives.
use Rattle.std.specs.Prelude.{◌≡◌, ℕ, List, Some, IsTrue}
use Rattle.disk_core.specs.declared.disk.Disk as disks
use Rattle.meter_journal.specs.History.{HasHistory}
use Rattle.office_types.specs.declared.command.Entry.{Entry}
use Rattle.plain_office.specs.Office.{Office}
use Rattle.plain_office.specs.Run.{run}
use Rattle.stay_explain.specs.Ledgers.{LedgerRecord, IsLedgerOf}
use Rattle.stay_explain.specs.Table.{table_csv}

-- the file holds a history, each entry of which is accepted at its place, and the text is the table of stays of the
-- office after it
pub record IsTableOf (file text : List ℕ) : Type 0 where
  pub history : List Entry
  pub office : Office
  pub entries : HasHistory history file
  pub is_run : run history ≡ Some office
  pub table : text ≡ table_csv office

module _ {D : Type 0} (d : disks.Ghosts D) where
  -- What was read is the journal file, and the ledger is that of its history. On a disk whose state is unknown, it is
  -- still that of some journal.
  pub record ReadsLedger (disk : D) (ledger : LedgerRecord) : Type 0 where
    pub file : List ℕ
    pub seen : IsTrue d.tells → file ≡ (d.state disk).journal.seen
    pub history : List Entry
    pub entries : HasHistory history file
    pub is : IsLedgerOf history ledger

  -- What was read is the journal file, and the text is the table of stays of its history. On a disk whose state is
  -- unknown, the text is still the table of some journal.
  pub record ReadsTable (disk : D) (text : List ℕ) : Type 0 where
    pub file : List ℕ
    pub seen : IsTrue d.tells → file ≡ (d.state disk).journal.seen
    pub table : IsTableOf file text
