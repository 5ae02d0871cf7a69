use Rattle.std.proofs.Common.{subst, Result, IfOk}
use Rattle.std.proofs.lemmas.Result.{IfOk-weaker}
use Rattle.command_line.specs.Words.{IsWholeCommand}
use Rattle.command_line.proofs.words.with_made.Goals as goal

pub returns-in-Ok : goal.returns-in-Ok
returns-in-Ok c app below whole made =
    let there : IsWholeCommand below c.in-Ok.sub = subst (λ r. IfOk r (IsWholeCommand below)) c.in-Ok.is made in
    IfOk-weaker c.with_subcommand.result _ _ (λ _ h. h app below whole there) c.with_subcommand.ensures
