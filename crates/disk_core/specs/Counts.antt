-- What a disk that counts its writes and syncs was asked for.
use Rattle.disk_core.specs.declared.tally.Counts.{Counts}
use Rattle.disk_core.specs.Tallies.{Tally}

-- what these counts tell
abbrev pub tally_of : Counts → Tally
tally_of c = record { writes = c.writes; syncs = c.syncs; journal = c.journal; slot0 = c.slot0; slot1 = c.slot1 }
