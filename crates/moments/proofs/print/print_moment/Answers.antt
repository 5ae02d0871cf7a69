use Rattle.std.proofs.Common.{refl}
use Rattle.moments.proofs.Texts.{moment_text_is}
use Rattle.moments.proofs.print.print_moment.Goals as goal

pub returns : goal.returns
returns c =
    rw (c.print_date.ensures, c.print_clock.ensures, moment_text_is c.args.ms _ _ _ c.requires c.day_of-day.ensures) refl
