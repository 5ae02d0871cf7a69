use Rattle.std.proofs.Common.{◌∙◌, ◌++◌, List, ℕ, take}
use Rattle.http_text.specs.Pieces.{pieces_left}
use Rattle.http_text.specs.Replies.{answer_text}
use Rattle.http_front.proofs.PieceLemmas.{said_more, said_front, said_all, said_whole}
use Rattle.http_front.proofs.answering.say_pieces.Goals as goal

pub pieces-preserved : goal.pieces-preserved
pieces-preserved g c =
    let w = g.W.Replies in
    let before = c.pieces.invariant in
    let piece : List ℕ = take c.in-Some.size c.next.new.room in
    let ok = c.in_ok-say_part.ensures in
    let more =
    said_more (w.said c.args.out.now) (w.said c.pieces.out) (w.said c.say_part.new.self) before.said.0 piece (pieces_left c.next.new.self) (pieces_left c.pieces.pieces)
    (answer_text c.args.acked.now.reply) before.said.1 c.in-Some.ensures.text before.said.2 ok.said in
    record {
      said = (before.said.0 ++ piece, more.0, more.1);
      unknown = λ none. ok.unknown (before.unknown none);
      moments = ok.moments ∙ before.moments;
      texts = ok.texts ∙ before.texts;
      noted = ok.noted ∙ before.noted;
      faults = ok.quiet ∙ before.faults;
    }

pub returns-in_err-say_part-clause-said : goal.returns-in_err-say_part-clause-said
returns-in_err-say_part-clause-said g c =
    let w = g.W.Replies in
    let before = c.pieces.invariant in
    let piece : List ℕ = take c.in-Some.size c.next.new.room in
    said_front (w.said c.args.out.now) (w.said c.pieces.out) (w.said c.say_part.new.self) before.said.0 piece (pieces_left c.next.new.self) (pieces_left c.pieces.pieces)
    (answer_text c.args.acked.now.reply) c.from_residual.result before.said.1 c.in-Some.ensures.text before.said.2 c.in_err-say_part.ensures.said c.from_residual.ensures.0

pub returns-clause-said : goal.returns-clause-said
returns-clause-said g c =
    let w = g.W.Replies in
    let before = c.pieces.invariant in
    said_whole (w.said c.args.out.now) (w.said c.pieces.out) (w.said c.told.new.self) (answer_text c.args.acked.now.reply) c.told.result c.told.ensures.said
    (said_all (w.said c.args.out.now) (w.said c.pieces.out) before.said.0 (pieces_left c.pieces.pieces) (answer_text c.args.acked.now.reply) before.said.1 c.in_default.ensures.text
    before.said.2)
