use Rattle.std.proofs.Common.{length}
use Rattle.bucket_account.proofs.incoming.+pair_bytes.Given as goal

abbrev pub decreases-pair_bytes : goal.decreases-pair_bytes
decreases-pair_bytes l = length l.pairs.now
