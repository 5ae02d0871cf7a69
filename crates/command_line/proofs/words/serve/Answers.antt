use Rattle.std.proofs.Common.{codes}
use Rattle.std.proofs.lemmas.Result.{IfOk-weaker}
use Rattle.clap.specs.Simple.{new_shape, with_rule}
use Rattle.command_line.specs.Words.{alone, option, needed_option}
use Rattle.command_line.proofs.words.serve.Goals as goal

pub returns : goal.returns
returns c =
    let bare = alone (new_shape (codes "serve")) in
    let listening = with_rule bare (needed_option (codes "listen")) in
    let working = with_rule listening (option (codes "workers")) in
    let one = c.in_ok-command.ensures bare (needed_option (codes "listen")) c.bare.ensures c.needed_option.ensures.rule in
    let two = c.in_ok-command-2.ensures listening (option (codes "workers")) one c.option.ensures.rule in
    IfOk-weaker c.with_option-3.result _ _ (λ _ h. h working (option (codes "connections")) two c.option-2.ensures.rule) c.with_option-3.ensures
