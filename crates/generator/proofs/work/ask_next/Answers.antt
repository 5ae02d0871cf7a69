use Rattle.std.proofs.Common.{refl}
use Rattle.generator.proofs.Made.{next_asked}
use Rattle.generator.proofs.work.ask_next.Goals as goal

pub returns : goal.returns
returns c number told history small s =
    next_asked number told history c.args.question.now c.args.desk.now c.ask.new.desk c.ask.result small s
    (c.ask.ensures.answers refl history s.holds s.fresh) c.ask.ensures.fresh (c.ask.ensures.once s.fresh) c.ask.ensures.number
