use Rattle.std.proofs.Common.{sym, ap, ◌∙◌}
use Rattle.due_core.specs.Buckets.{BucketRecord}
use Rattle.bucket_account.specs.Changing.{limits_of}
use Rattle.bucket_account.specs.Counting.{account_of}
use Rattle.bucket_account.proofs.Touches.{stands_after, stands_same}
use Rattle.bucket_account.proofs.change.change.Goals as goal

pub renew-requires : goal.renew-requires
renew-requires c =
    let a = c.requires.account in
    let done = c.change_records-result in
    record {
      rest =
          stands_after c.args.t c.args.command.now (limits_of c.args.command.now c.args.bucket.now) a.0 a.2.bucket.keys c.args.counts (account_of done.new.bucket done.new.meters)
          c.bucket.inside.next_upload (ap (λ (b : BucketRecord). b.next_upload) (c.bucket.view_is ∙ a.1.bucket)) done.result c.args.index.now
          (done.ensures.done a.0 a.1 a.2) (sym c.is_ok.ensures.value ∙ c.if-is_ok.true)
          (stands_same c.args.index.now c.args.bucket.now a.0.bucket (sym a.1.bucket) c.requires.index);
    }
