use Rattle.std.proofs.Common.{arith}
use Rattle.http_text.specs.Pieces.{rest_text}
use Rattle.http_text.proofs.PieceTexts.{begins_end, begins_piece, begins_within, none_left}
use Rattle.http_text.proofs.pieces.StackPieces.fill.Goals as goal

pub returns-then-is_empty-clause-text : goal.returns-then-is_empty-clause-text
returns-then-is_empty-clause-text c = λ whole wide begins.
    let left = c.put_some-at.result.1.now in
    let none = none_left c.is_empty.result left c.is_empty.ensures c.if-is_empty.true in
    (begins_end c.put_some-at.new.room c.put.new.room c.put_some-at.result.0 c.put.result left whole none (omega (arith, wide, c.put_some-at.auto.room, c.put.auto.room)) c.put.ensures
    (c.put_some-at.ensures.text whole begins)).0

pub returns-then-is_empty-clause-within : goal.returns-then-is_empty-clause-within
returns-then-is_empty-clause-within c = λ whole wide begins.
    let left = c.put_some-at.result.1.now in
    let none = none_left c.is_empty.result left c.is_empty.ensures c.if-is_empty.true in
    (begins_end c.put_some-at.new.room c.put.new.room c.put_some-at.result.0 c.put.result left whole none (omega (arith, wide, c.put_some-at.auto.room, c.put.auto.room)) c.put.ensures
    (c.put_some-at.ensures.text whole begins)).1

pub returns-else-is_empty-clause-text : goal.returns-else-is_empty-clause-text
returns-else-is_empty-clause-text c = λ whole wide begins.
    begins_piece c.put_some-at.new.room c.put_some-at.result.0 (rest_text c.put_some-at.result.1.now) whole (omega (arith, wide, c.put_some-at.auto.room))
    (c.put_some-at.ensures.text whole begins)

pub returns-else-is_empty-clause-within : goal.returns-else-is_empty-clause-within
returns-else-is_empty-clause-within c = λ whole wide begins.
    begins_within c.put_some-at.new.room c.put_some-at.result.0 (rest_text c.put_some-at.result.1.now) whole (omega (arith, wide, c.put_some-at.auto.room))
    (c.put_some-at.ensures.text whole begins)
