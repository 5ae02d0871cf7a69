use Rattle.forecast.proofs.Comes.{comes_true}
use Rattle.forecast.proofs.laws.acts_in_between_change_no_forecast.Goals as goal

pub returns : goal.returns
returns c = comes_true
