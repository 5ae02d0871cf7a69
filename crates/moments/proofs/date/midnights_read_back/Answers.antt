use Rattle.moments.proofs.ReadBack.{read_back}
use Rattle.moments.proofs.date.midnights_read_back.Goals as goal

pub returns : goal.returns
returns c = read_back
