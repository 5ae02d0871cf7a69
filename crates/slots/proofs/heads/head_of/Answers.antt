use Rattle.std.proofs.Common.{arith}
use Rattle.slots.proofs.Texts.{long}
use Rattle.slots.proofs.heads.head_of.Goals as goal

pub returns-then-end-lt17-clause-exact : goal.returns-then-end-lt17-clause-exact
returns-then-end-lt17-clause-exact g c told position body holds =
    omega (arith, c.if-end-lt17.true, c.in_ok-end.ensures.length told, long holds)
