use Rattle.http_text.proofs.LongTexts.{moves_is}
use Rattle.http_text.proofs.RoomLemmas.{puts_then, puts_same}
use Rattle.http_text.proofs.price_body.put_moves.Goals as goal

pub returns : goal.returns
returns c =
    puts_same _ _ (moves_is c.args.tariff.now)
    (puts_then _ _ c.put_move_price-at.ensures
    (puts_then _ _ c.put_move_price-at-2.ensures
    (puts_then _ _ c.put_move_price-at-3.ensures
    (puts_then _ _ c.put_move_price-at-4.ensures
    (puts_then _ _ c.put_move_price-at-5.ensures c.put.ensures)))))
