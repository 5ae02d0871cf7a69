use Rattle.std.proofs.Common.{codes}
use Rattle.std.proofs.lemmas.Result.{IfOk-weaker}
use Rattle.clap.specs.Simple.{new_shape}
use Rattle.command_line.specs.Words.{alone, option}
use Rattle.command_line.proofs.words.explain.Goals as goal

pub returns : goal.returns
returns c =
    let bare = alone (new_shape (codes "explain")) in
    IfOk-weaker c.with_option.result _ _ (λ _ h. h bare (option (codes "workers")) c.bare.ensures c.option.ensures.rule) c.with_option.ensures
