use Rattle.forecast.proofs.Comes.{one_forecast}
use Rattle.forecast.proofs.laws.every_forecast_is_one.Goals as goal

pub returns : goal.returns
returns c = one_forecast
