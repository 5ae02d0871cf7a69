use Rattle.std.proofs.Common.{◌≡◌, ◌-◌, ◌++◌, rules, arith}
use Rattle.std.specs.Prelude.{replicate}
use Rattle.std.proofs.lemmas.List.{length-replicate}
use Rattle.accrual.specs.Rows.{nothing}
use Rattle.accrual.proofs.Places.{kept_preceded, emptied}
use Rattle.accrual.proofs.rows.Rows.begin_earlier.Goals as goal

pub returns-clause-same : goal.returns-clause-same
returns-clause-same c month rank =
    let e : c.extend_from_slice.new.self.items ≡ replicate (c.args.self.now.first - c.args.from) (replicate 6 nothing) ++ c.args.self.now.rows.items = search rules in
    let size = length-replicate (c.args.self.now.first - c.args.from) (replicate 6 nothing) in
    kept_preceded c.args.self.now _ (replicate (c.args.self.now.first - c.args.from) (replicate 6 nothing)) month rank (emptied (c.args.self.now.first - c.args.from)) (omega (arith, size)) e
