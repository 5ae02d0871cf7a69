use Rattle.std.proofs.Common.{sym, ap, ◌∙◌}
use Rattle.restorable.specs.Tests.{is_quiet}
use Rattle.restorable.proofs.QuietTests.{quiet_at_first}
use Rattle.restorable.proofs.quiet.is_quiet.Goals as goal

pub returns-then-until-eq0 : goal.returns-then-until-eq0
returns-then-until-eq0 c = sym (ap (λ n. is_quiet n c.args.bucket.now) c.if-until-eq0.true ∙ quiet_at_first c.args.bucket.now)
