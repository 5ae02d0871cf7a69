use Rattle.std.proofs.Common.{◌∙◌}
use Rattle.std.specs.BTreeMap.{insert_entry}
use Rattle.std.specs.Ordering.{nat_cmp}
use Rattle.office_laws.proofs.Maps.{by_number}
use Rattle.bucket_account.proofs.Copied.{copied_more}
use Rattle.bucket_account.proofs.copying.copy_uploads.Goals as goal

pub loop-number-preserved : goal.loop-number-preserved
loop-number-preserved c =
    copied_more by_number c.args.uploads.now.entries c.loop-number.copies.entries c.insert.new.self.entries c.loop-number.number-iterator (c.in-Some.number.now, c.in-Some.upload.now) c.next.new.self
    c.requires.rises c.loop-number.invariant c.in-Some.ensures.steps
    (c.in_ok-insert.ensures.entries ∙ (λ i. insert_entry nat_cmp c.loop-number.copies.entries c.in-Some.number.now (c.in_ok-copy.ensures i)))
