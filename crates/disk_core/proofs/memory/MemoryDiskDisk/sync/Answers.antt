use Rattle.std.proofs.Common.{sym, ◌∙◌, rules}
use Rattle.disk_core.specs.Kept.{Other, Sync}
use Rattle.disk_core.proofs.Numbered.{counted_call}
use Rattle.disk_core.proofs.Replay.{reads_same}
use Rattle.disk_core.proofs.memory.MemoryDiskDisk.sync.Goals as goal

pub returns-in-Ok-settle-clause-call : goal.returns-in-Ok-settle-clause-call
returns-in-Ok-settle-clause-call c =
    counted_call (Sync c.args.file) c.next_fails.result c.in-Ok-settle.ensures.ok c.settle.ensures.failing (sym c.if-next_fails.false)
    c.next_fails.ensures (search rules) (search rules)

pub returns-in-Ok-clause-call : goal.returns-in-Ok-clause-call
returns-in-Ok-clause-call c =
    counted_call Other c.next_fails.result (c.fail-in-Ok.ensures.calls ∙ c.in-Ok.ensures.ok) (c.fail-in-Ok.ensures.failing ∙ c.note.ensures.failing)
    (sym c.if-next_fails.true) c.next_fails.ensures (search rules) (search rules)

pub returns-in-Ok-settle-clause-reads : goal.returns-in-Ok-settle-clause-reads
returns-in-Ok-settle-clause-reads c other = reads_same _ _ c.args.file other c.in-Ok-settle.ensures.ok
