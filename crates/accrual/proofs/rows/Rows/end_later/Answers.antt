use Rattle.std.proofs.Common.{◌≡◌, ◌+◌, ◌-◌, ◌++◌, rules, arith, ap, refl, ◌∙◌, take}
use Rattle.std.specs.Vec.{vec_len}
use Rattle.std.proofs.lemmas.List.{take_all}
use Rattle.std.specs.Prelude.{replicate}
use Rattle.accrual.specs.Rows.{nothing}
use Rattle.accrual.proofs.Places.{kept_extended, emptied}
use Rattle.accrual.proofs.rows.Rows.end_later.Goals as goal

pub returns-in_err-resize-clause-same : goal.returns-in_err-resize-clause-same
returns-in_err-resize-clause-same c month rank =
    let e : c.resize.new.self.items ≡ c.args.self.now.rows.items ++ replicate 0 (replicate 6 nothing) = search rules in
    kept_extended c.args.self.now _ (replicate 0 (replicate 6 nothing)) month rank (emptied 0) refl e

pub returns-in_ok-resize-clause-same : goal.returns-in_ok-resize-clause-same
returns-in_ok-resize-clause-same c month rank =
    let whole : take (c.args.to + 1 - c.args.self.now.first) c.args.self.now.rows.items ≡ c.args.self.now.rows.items =
    take_all (c.args.to + 1 - c.args.self.now.first) c.args.self.now.rows.items (omega arith) in
    let e : c.resize.new.self.items ≡ c.args.self.now.rows.items ++ replicate (c.args.to + 1 - c.args.self.now.first - vec_len c.args.self.now.rows) (replicate 6 nothing) =
    c.in_ok-resize.ensures.items ∙ ap (λ l. l ++ replicate (c.args.to + 1 - c.args.self.now.first - vec_len c.args.self.now.rows) (replicate 6 nothing)) whole in
    kept_extended c.args.self.now _
    (replicate (c.args.to + 1 - c.args.self.now.first - vec_len c.args.self.now.rows) (replicate 6 nothing)) month
    rank (emptied (c.args.to + 1 - c.args.self.now.first - vec_len c.args.self.now.rows)) refl e
