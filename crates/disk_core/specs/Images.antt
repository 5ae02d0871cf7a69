-- The files of a disk in memory at an earlier moment, and what is left of one of them for a crash.
use Rattle.std.specs.Prelude.{ℕ, take}
use Rattle.disk_core.specs.declared.memory.MemoryDisk.{MemoryDisk}
use Rattle.disk_core.specs.Files.{State}
use Rattle.disk_core.specs.Replay.{after}

-- its three files after the first n calls, or after all where there are fewer
abbrev pub state_at : MemoryDisk → ℕ → State
state_at m n = after (take n m.calls)
