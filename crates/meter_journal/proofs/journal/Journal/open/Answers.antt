use Rattle.std.proofs.Common.{length, sym, ◌∙◌, ap}
use Rattle.disk_core.specs.declared.disk.FileNo.TheVariants.{Journal}
use Rattle.meter_journal.proofs.journal.Journal.open.Goals as goal

pub returns-clause-ok : goal.returns-clause-ok
returns-clause-ok g c told = rw (← c.self.view_is) (
  c.in_ok-end.ensures.exact told,
  c.in_ok-end.ensures.size told ∙ ap length (sym (c.in_ok-end.ensures.reads told (λ failed. cc) Journal)),
)
