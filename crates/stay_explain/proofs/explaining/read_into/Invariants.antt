use Rattle.std.proofs.Common.{◌≡◌, ◌≤◌, ◌-◌, ◌^◌, IsTrue, length}
use Rattle.disk_core.specs.Moments.{OnlyReads}
use Rattle.meter_journal.specs.Windows.{IsPart}
use Rattle.stay_explain.proofs.Readings.{HasRead}
use Rattle.stay_explain.proofs.explaining.read_into.Given as goal

abbrev pub invariant-reading : goal.invariant-reading
invariant-reading g l = record {
  known : IsTrue g.D.Disk.tells → l.end ≡ length (g.D.Disk.state l.disk).journal.seen;
  part : IsTrue g.D.Disk.tells → IsPart l.window.at l.window.bytes (g.D.Disk.state l.disk).journal.seen;
  untouched : OnlyReads g.D.Disk l.initial.disk l.disk;
  read : HasRead g.D.Disk l.initial.disk l.gate l.ledger;
  later : g.D.Disk.fault_count l.initial.disk ≤ g.D.Disk.fault_count l.disk;
  quiet : g.D.Disk.fault_count l.disk ≡ g.D.Disk.fault_count l.initial.disk;
}

abbrev pub decreases-reading : goal.decreases-reading
decreases-reading g l = 2 ^ 45 - l.gate
