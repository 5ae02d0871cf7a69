use Rattle.std.proofs.Common.{◌≡◌, ◌≤◌, ◌-◌, ◌^◌, ◌+◌, IsTrue, length}
use Rattle.disk_core.specs.Moments.{OnlyReads}
use Rattle.meter_journal.specs.Windows.{IsPart}
use Rattle.desk_core.proofs.Replaying.{HasRead}
use Rattle.desk_core.proofs.reopening.replay.Given as goal

abbrev pub invariant-reading : goal.invariant-reading
invariant-reading g l = record {
  known : IsTrue g.D.Disk.tells → l.initial.end ≡ length (g.D.Disk.state l.journal.disk).journal.seen;
  part : IsTrue g.D.Disk.tells → IsPart l.window.at l.window.bytes (g.D.Disk.state l.journal.disk).journal.seen;
  untouched : OnlyReads g.D.Disk l.initial.journal.disk l.journal.disk;
  read : HasRead g.D.Disk l.initial.office l.initial.journal.gate l.initial.journal.disk l.journal.gate l.office;
  limit : l.journal.limit ≡ l.initial.journal.limit;
  later : g.D.Disk.fault_count l.initial.journal.disk ≤ g.D.Disk.fault_count l.journal.disk;
  quiet : g.D.Disk.fault_count l.journal.disk ≡ g.D.Disk.fault_count l.initial.journal.disk;
}

abbrev pub decreases-reading : goal.decreases-reading
decreases-reading g l = 2 ^ 45 + 1 - l.journal.gate
