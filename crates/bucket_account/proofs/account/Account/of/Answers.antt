use Rattle.std.proofs.Common.{sym}
use Rattle.bucket_account.proofs.Restored.{restored}
use Rattle.bucket_account.proofs.account.Account.of.Goals as goal

pub returns-clause-stands : goal.returns-clause-stands
returns-clause-stands c = λ account is. record {
  bucket = sym is.bucket;
  meters = restored c.args.bucket c.args.sums.now c.requires.orderly.0 c.requires.orderly.1 c.in_ok-meters.meters c.open_all.new.meters c.in_ok-meters.ensures.stands c.in_ok-open_all.ensures.stays
      account is;
}
