use Rattle.std.proofs.Common.{◌++◌, codes, decimal}
use Rattle.json.specs.Print.{quoted}
use Rattle.http_text.specs.Names.{versioning_name}
use Rattle.http_text.proofs.RoomLemmas.{puts_then, puts_same}
use Rattle.http_text.proofs.Texts.{shown_is}
use Rattle.http_text.proofs.body.put_shown.Goals as goal

pub returns-clause-puts : goal.returns-clause-puts
returns-clause-puts c =
    let b = c.args.bucket.now in
    let w = c.args.versioning in
    puts_same _ _ (shown_is b c.args.rules c.args.uploads w c.args.versions)
    (puts_then (codes "{\"bucket\":" ++ quoted b) _ (rw c.text.ensures.same at c.put_text-at.ensures)
    (puts_then (codes ",\"rules\":" ++ decimal c.args.rules) _ (rw c.from.ensures at c.put_whole-at.ensures.puts)
    (puts_then (codes ",\"uploads\":" ++ decimal c.args.uploads) _ (rw c.from-2.ensures at c.put_whole-at-2.ensures.puts)
    (puts_then (codes ",\"versioning\":" ++ quoted (versioning_name w)) _ (rw c.versioning_name.ensures at c.put_text-at-2.ensures)
    (puts_then (codes ",\"versions\":" ++ decimal c.args.versions) (codes "}") (rw c.from-3.ensures at c.put_whole-at-3.ensures.puts) c.put.ensures)))))
