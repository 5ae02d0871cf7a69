use Rattle.std.proofs.Common.{sym, ◌∙◌, rules}
use Rattle.disk_core.specs.Kept.{Other}
use Rattle.disk_core.proofs.Numbered.{counted_call}
use Rattle.disk_core.proofs.memory.MemoryDisk.pass.Goals as goal

pub returns-in-Ok-clause-call : goal.returns-in-Ok-clause-call
returns-in-Ok-clause-call c =
    counted_call Other c.next_fails-fails.result (c.fail-in-Ok.ensures.calls ∙ c.in-Ok.ensures.ok) (c.fail-in-Ok.ensures.failing ∙ c.note.ensures.failing)
    (sym c.if-fails.true) c.next_fails-fails.ensures (search rules) (search rules)

pub returns-in-Ok-2-clause-call : goal.returns-in-Ok-2-clause-call
returns-in-Ok-2-clause-call c =
    counted_call Other c.next_fails-fails.result c.in-Ok.ensures.ok c.note.ensures.failing
    (sym c.if-fails.false) c.next_fails-fails.ensures (search rules) (search rules)
