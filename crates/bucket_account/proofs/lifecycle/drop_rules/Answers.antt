use Rattle.std.proofs.Common.{arith}
use Rattle.office_types.specs.declared.refusal.What.TheVariants.{Rules}
use Rattle.bucket_account.proofs.lifecycle.drop_rules.Goals as goal

pub moved-requires-clause-some : goal.moved-requires-clause-some
moved-requires-clause-some c = let over = c.requires.counts Rules in omega (arith, over.0, c.requires.text)
