use Rattle.std.proofs.Common.{◌∙◌, ◌++◌, ◌<◌, ℕ, List, replicate, ap, arith}
use Rattle.std.proofs.lemmas.Result.{on_ok_weaker}
use Rattle.usage_report.proofs.TableLines.{first_spaces}
use Rattle.usage_report.proofs.table.fill.Goals as goal

pub returns : goal.returns
returns c =
    let short : c.saturating_sub.result < 29 = omega (arith, c.saturating_sub.ensures, c.requires) in
    on_ok_weaker c.put.result (λ is. is
    ∙ ap (λ (t : List ℕ). c.args.out.now.items ++ t) (first_spaces c.saturating_sub.result short)
    ∙ ap (λ (n : ℕ). c.args.out.now.items ++ replicate n 32) c.saturating_sub.ensures) c.put.ensures
