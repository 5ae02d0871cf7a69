use Rattle.std.proofs.Common.{◌≡◌, ◌++◌, ap, codes}
use Rattle.tariff.specs.Prices.{Prices}
use Rattle.json.specs.Print.{quoted}
use Rattle.serde_json.specs.Written.{comma_if}
use Rattle.http_text.specs.Bodies.{moves_text, storage_text}
use Rattle.http_text.specs.Names.{month_text}
use Rattle.http_text.proofs.LongTexts.{tariff_is}
use Rattle.http_text.proofs.RoomLemmas.{puts_then, puts_same}
use Rattle.http_text.proofs.price_body.put_tariff.Goals as goal

pub returns : goal.returns
returns c =
    let t = c.args.tariff.now in
    let from : c.tariff.inside.from ≡ t.from = ap (λ (p : Prices). p.from) c.tariff.view_is in
    puts_then (comma_if c.args.later) _ c.put_comma-at.ensures
    (puts_same _ _ (tariff_is t)
    (puts_then (codes "{\"from\":" ++ quoted (month_text t.from)) _ (rw from at c.put_month-at.ensures)
    (puts_then (codes ",\"storage\":") _ c.put-at.ensures
    (puts_then (storage_text t) _ c.put_storage-at.ensures
    (puts_then (codes ",\"transition\":") _ c.put-at-2.ensures
    (puts_then (moves_text t) (codes "}") c.put_moves-at.ensures c.put.ensures))))))
