use Rattle.std.proofs.Common.{arith}
use Rattle.office_types.specs.declared.refusal.What.TheVariants.{Buckets, Versions, Uploads, Parts, Names, Rules, Tariffs}
use Rattle.office_machine.proofs.restoring.sum_of.Goals as goal

pub overflow_add-result : goal.overflow_add-result
overflow_add-result c = let few = c.requires.few Buckets in omega (arith, few)

pub overflow_add-result-2 : goal.overflow_add-result-2
overflow_add-result-2 c = let few = c.requires.few Versions in omega (arith, few)

pub overflow_add-result-3 : goal.overflow_add-result-3
overflow_add-result-3 c = let few = c.requires.few Uploads in omega (arith, few)

pub overflow_add-result-4 : goal.overflow_add-result-4
overflow_add-result-4 c = let few = c.requires.few Parts in omega (arith, few)

pub overflow_add-result-5 : goal.overflow_add-result-5
overflow_add-result-5 c = let few = c.requires.few Names in omega (arith, few)

pub overflow_add-result-6 : goal.overflow_add-result-6
overflow_add-result-6 c = let few = c.requires.few Rules in omega (arith, few)

pub overflow_add-result-7 : goal.overflow_add-result-7
overflow_add-result-7 c = let few = c.requires.few Tariffs in omega (arith, few)
