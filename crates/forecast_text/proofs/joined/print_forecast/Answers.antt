use Rattle.std.proofs.Common.{refl}
use Rattle.forecast_text.proofs.joined.print_forecast.Goals as goal

pub lines_text-requires-clause-done : goal.lines_text-requires-clause-done
lines_text-requires-clause-done c = c.in_ok-actions.ensures.done refl
