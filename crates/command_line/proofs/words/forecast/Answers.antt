use Rattle.std.proofs.Common.{codes}
use Rattle.std.proofs.lemmas.Result.{IfOk-weaker}
use Rattle.clap.specs.Simple.{new_shape, with_rule}
use Rattle.command_line.specs.Words.{alone, needed_word}
use Rattle.command_line.proofs.words.forecast.Goals as goal

pub returns : goal.returns
returns c =
    let bare = alone (new_shape (codes "forecast")) in
    let named = with_rule bare (needed_word (codes "bucket")) in
    let one = c.in_ok-command.ensures bare (needed_word (codes "bucket")) c.bare.ensures c.needed_word.ensures.rule in
    IfOk-weaker c.with_option-2.result _ _ (λ _ h. h named (needed_word (codes "date")) one c.needed_word-2.ensures.rule) c.with_option-2.ensures
