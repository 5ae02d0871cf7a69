use Rattle.std.proofs.Common.{◌++◌, codes, decimal}
use Rattle.serde_json.specs.Written.{comma_if}
use Rattle.http_text.specs.Parts.{upto_part}
use Rattle.http_text.proofs.LongTexts.{tier_is}
use Rattle.http_text.proofs.RoomLemmas.{puts_then, puts_same}
use Rattle.http_text.proofs.price_body.put_tier.Goals as goal

pub returns : goal.returns
returns c =
    let t = c.args.tier.now in
    puts_then (comma_if c.args.later) _ c.put_comma-at.ensures
    (puts_same _ _ (tier_is t)
    (puts_then (codes "{\"price\":" ++ decimal t.price) _ (rw c.from.ensures at c.put_whole-at.ensures.puts)
    (puts_then (upto_part t.upto) (codes "}") c.put_upto-at.ensures c.put.ensures)))
