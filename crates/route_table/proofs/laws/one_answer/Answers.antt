use Rattle.route_table.proofs.Unique.{one_list, one_pattern}
use Rattle.route_table.proofs.laws.one_answer.Goals as goal

pub returns : goal.returns
returns c = record { one_list = one_list; one_pattern = one_pattern }
