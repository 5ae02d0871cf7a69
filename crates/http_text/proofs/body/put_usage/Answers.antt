use Rattle.std.proofs.Common.{◌++◌, codes}
use Rattle.json.specs.Print.{quoted}
use Rattle.http_text.specs.Bodies.{classes_text}
use Rattle.http_text.specs.Names.{month_text}
use Rattle.http_text.proofs.RoomLemmas.{puts_then, puts_same}
use Rattle.http_text.proofs.Texts.{usage_is}
use Rattle.http_text.proofs.body.put_usage.Goals as goal

pub returns-clause-puts : goal.returns-clause-puts
returns-clause-puts c =
    let b = c.args.bucket.now in
    let m = c.args.month in
    let cs = c.args.classes.now in
    puts_same _ _ (usage_is b m cs)
    (puts_then (codes "{\"bucket\":" ++ quoted b) _ (rw c.text.ensures.same at c.put_text-at.ensures)
    (puts_then (codes ",\"classes\":") _ c.put-at.ensures
    (puts_then (classes_text cs) _ c.put_classes-at.ensures.puts
    (puts_then (codes ",\"month\":" ++ quoted (month_text m)) (codes "}") c.put_month-at.ensures c.put.ensures))))
