use Rattle.office_types.proofs.Sameness.{same_is, same_self}
use Rattle.office_types.proofs.commands.commands_that_are_the_same.Goals as goal

pub returns-clause-are : goal.returns-clause-are
returns-clause-are c = same_is

pub returns-clause-itself : goal.returns-clause-itself
returns-clause-itself c = same_self
