use Rattle.std.proofs.Common.{refl}
use Rattle.http_front.proofs.answering.say_stack.Goals as goal

pub returns-in-Ok-say_pieces-clause-only_says : goal.returns-in-Ok-say_pieces-clause-only_says
returns-in-Ok-say_pieces-clause-only_says g c =
    let said = c.say_pieces.ensures in
    record {
      texts = said.texts;
      noted = said.noted;
      later = said.cause.later;
      fault = λ failed. absurd cc;
      quiet = λ _. c.in-Ok-say_pieces.ensures.quiet;
    }

pub returns-clause-only_says : goal.returns-clause-only_says
returns-clause-only_says g c =
    let said = c.say_pieces.ensures in
    record {
      texts = said.texts;
      noted = said.noted;
      later = said.cause.later;
      fault = λ _. c.in-Err.ensures.cause.failed;
      quiet = λ unfailed. absurd (unfailed refl);
    }
