use Rattle.std.proofs.Common.{refl, rules, ap}
use Rattle.std.proofs.lemmas.List.{length-set}
use Rattle.std.proofs.Math.ListN.{set}
use Rattle.accrual.proofs.Places.{put_is}
use Rattle.accrual.proofs.rows.Rows.put.Goals as goal

pub returns : goal.returns
returns c = put_is c.args.self.now _ c.args.month _ c.args.kept c.index_mut.result.now c.requires (search rules)
    c.index_mut.ensures.value c.place.ensures.classes refl (ap (set c.args.self.now.rows.items _) c.place.ensures.row)
    (length-set c.args.self.now.rows.items _ _)
