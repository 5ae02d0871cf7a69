use Rattle.std.proofs.Common.{arith}
use Rattle.bucket_account.proofs.TagSizes.{first_most, rest_length}
use Rattle.bucket_account.proofs.incoming.+pair_bytes.Goals as goal

pub overflow_add-result-in-len1-up : goal.overflow_add-result-in-len1-up
overflow_add-result-in-len1-up t c =
    let most = first_most c.args.pairs.now c.first-item.result c.requires.tags c.in-len1-up.len_at_least c.first-item.is in
    let rest = rest_length c.args.pairs.now c.in-len1-up.len_at_least in
    omega (arith, most, rest, c.len.ensures, c.len-in-len1-up.ensures, c.pair_bytes.ensures.at_most, c.requires.few)

pub returns-in-len1-up-clause-at_most : goal.returns-in-len1-up-clause-at_most
returns-in-len1-up-clause-at_most t c =
    let most = first_most c.args.pairs.now c.first-item.result c.requires.tags c.in-len1-up.len_at_least c.first-item.is in
    let rest = rest_length c.args.pairs.now c.in-len1-up.len_at_least in
    omega (arith, most, rest, c.len.ensures, c.len-in-len1-up.ensures, c.pair_bytes.ensures.at_most)
