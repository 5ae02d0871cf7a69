use Rattle.std.proofs.Common.{codes}
use Rattle.std.proofs.lemmas.Result.{IfOk-weaker}
use Rattle.clap.specs.Simple.{new_shape}
use Rattle.command_line.specs.Words.{alone, needed_word}
use Rattle.command_line.proofs.words.bill.Goals as goal

pub returns : goal.returns
returns c =
    let bare = alone (new_shape (codes "bill")) in
    IfOk-weaker c.with_option.result _ _ (λ _ h. h bare (needed_word (codes "month")) c.bare.ensures c.needed_word.ensures.rule) c.with_option.ensures
