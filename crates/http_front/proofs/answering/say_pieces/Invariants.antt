use Rattle.std.proofs.Common.{◌≡◌, ◌++◌, List, ℕ, None}
use Rattle.std.specs.Io.KnownBytes.{Appends}
use Rattle.http_text.specs.Pieces.{pieces_count, pieces_left}
use Rattle.http_text.specs.Replies.{answer_text}
use Rattle.http_front.proofs.answering.say_pieces.Given as goal

-- what was said and what is left are the reply; nothing else was said, and no fault was counted
abbrev pub invariant-pieces : goal.invariant-pieces
invariant-pieces g l =
    let w = g.W.Replies in
    record {
      said : (some : List ℕ) × Appends (w.said l.fn.out) (w.said l.out) some × (some ++ pieces_left l.pieces ≡ answer_text l.acked.reply);
      unknown : w.said l.fn.out ≡ None → w.said l.out ≡ None;
      moments : w.moments l.out ≡ w.moments l.fn.out;
      texts : w.texts l.out ≡ w.texts l.fn.out;
      noted : w.noted l.out ≡ w.noted l.fn.out;
      faults : w.faults l.out ≡ w.faults l.fn.out;
    }

abbrev pub decreases-pieces : goal.decreases-pieces
decreases-pieces g l = pieces_count l.pieces
