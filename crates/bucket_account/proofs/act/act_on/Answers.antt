use Rattle.std.proofs.Common.{[], sym}
use Rattle.bucket_account.specs.Counting.{account_of}
use Rattle.bucket_account.proofs.Touches.{stands_acted, stands_same}
use Rattle.bucket_account.proofs.act.act_on.Goals as goal

pub renew_target-requires : goal.renew_target-requires
renew_target-requires c =
    let a = c.requires.account in
    record {
      rest =
          stands_acted c.args.action a.0 a.2.bucket.keys [] c.args.counts (account_of c.do_action.new.bucket c.do_action.new.meters) c.in_ok-counts.counts c.args.index.now
          (c.in_ok-counts.ensures.done a.0 a.1 a.2) (stands_same c.args.index.now c.args.bucket.now a.0.bucket (sym a.1.bucket) c.requires.index);
    }
