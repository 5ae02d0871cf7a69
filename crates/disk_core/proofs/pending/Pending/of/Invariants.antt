use Rattle.std.proofs.Common.{◌≡◌, take}
use Rattle.disk_core.specs.Files.{file_in}
use Rattle.disk_core.specs.Kept.{calls_of}
use Rattle.disk_core.specs.Replay.{after}
use Rattle.disk_core.specs.Pending.{file_of}
use Rattle.disk_core.proofs.Kept.{rest_of}
use Rattle.disk_core.proofs.pending.Pending.of.Given as goal

abbrev pub invariant-loop-call : goal.invariant-loop-call
invariant-loop-call l =
    (file_of l.pending ≡ file_in l.file (after (calls_of (take l.call-index l.calls) l.bytes)))
    × (l.rest ≡ rest_of (take l.call-index l.calls) l.bytes)
