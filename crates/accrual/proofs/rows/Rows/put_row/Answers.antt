use Rattle.std.proofs.Common.{refl}
use Rattle.std.proofs.lemmas.List.{length-set}
use Rattle.accrual.proofs.Places.{row_put_is}
use Rattle.accrual.proofs.rows.Rows.put_row.Goals as goal

pub returns : goal.returns
returns c = row_put_is c.args.self.now _ c.args.month c.args.row c.requires refl refl (length-set c.args.self.now.rows.items _ _)
