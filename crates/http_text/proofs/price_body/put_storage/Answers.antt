use Rattle.http_text.proofs.LongTexts.{storage_is}
use Rattle.http_text.proofs.RoomLemmas.{puts_then, puts_same}
use Rattle.http_text.proofs.price_body.put_storage.Goals as goal

pub returns : goal.returns
returns c =
    puts_same _ _ (storage_is c.args.tariff.now)
    (puts_then _ _ c.put_class-at.ensures
    (puts_then _ _ c.put_class-at-2.ensures
    (puts_then _ _ c.put_class-at-3.ensures
    (puts_then _ _ c.put_class-at-4.ensures
    (puts_then _ _ c.put_class-at-5.ensures
    (puts_then _ _ c.put_class-at-6.ensures c.put.ensures))))))
