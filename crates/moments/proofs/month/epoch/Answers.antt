use Rattle.std.proofs.Common.{◌∙◌, pos, ap, arith}
use Rattle.std.proofs.lemmas.Int.{ints}
use Rattle.moments.proofs.Calendar.{first_is, first_day_begin}
use Rattle.moments.proofs.month.epoch.Goals as goal

pub returns : goal.returns
returns c =
    let is = c.constant.ensures in
    first_is c.constant.result 0 is.0 (omega (arith, ints, is)) (omega (arith, ints, is)) ∙ ap pos first_day_begin
