use Rattle.office_commands.proofs.Foretold.{foretold_is_forecast}
use Rattle.office_commands.proofs.forecasting.work.Goals as goal

pub returns-in-Ok-clause-statuses : goal.returns-in-Ok-clause-statuses
returns-in-Ok-clause-statuses g c = foretold_is_forecast _ c.foretell_then_close.ensures.statuses
