use Rattle.std.proofs.Common.{◌≡◌, ◌<◌, subst, refl}
use Rattle.disk_core.specs.declared.disk.FileNo.TheVariants.{Journal}
use Rattle.entry_codec.specs.Spelling.{entry_limit}
use Rattle.meter_journal.specs.Reading.{size_at}
use Rattle.meter_journal.proofs.Prefix.{body_long}
use Rattle.meter_journal.proofs.reading.body_by.Goals as goal

-- the frame claims more bytes than an entry has
pub returns-then-size-gt-ENTRY_LIMIT-clause-exact : goal.returns-then-size-gt-ENTRY_LIMIT-clause-exact
returns-then-size-gt-ENTRY_LIMIT-clause-exact g c = λ told.
    let file = (g.D.Disk.state c.args.disk.now).journal.seen in
    let size : c.size-size.result ≡ size_at c.args.gate file = c.size-size.ensures file (c.cover.ensures.part told) in
    (refl, body_long c.args.gate file (g.met.D.Disk.holds_bytes told c.args.disk.now Journal) (subst (λ n. entry_limit < n) size c.if-size-gt-ENTRY_LIMIT.true))
