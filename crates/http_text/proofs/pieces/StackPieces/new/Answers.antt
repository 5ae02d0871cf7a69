use Rattle.std.proofs.Common.{arith}
use Rattle.http_text.proofs.PieceTexts.{counted_below, reply_parts}
use Rattle.http_text.proofs.pieces.StackPieces.new.Goals as goal

pub returns-clause-text : goal.returns-clause-text
returns-clause-text c =
    reply_parts c.args.key.now c.args.stack.now c.put_stack-size.result (counted_below _ _ c.put_stack-size.result _ c.put_stack-size.ensures (omega (arith, c.if-size.false)))
