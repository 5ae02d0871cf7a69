use Rattle.std.proofs.Common.{◌++◌, codes, string_bytes}
use Rattle.json.specs.Print.{quoted}
use Rattle.serde_json.specs.Written.{comma_if}
use Rattle.http_text.proofs.RoomLemmas.{puts_then}
use Rattle.http_text.proofs.tag_body.put_tag.Goals as goal

pub returns : goal.returns
returns c =
    let tag = c.args.tag.now in
    puts_then (comma_if c.args.later) _ c.put_comma-at.ensures
    (puts_then (quoted (string_bytes tag.0)) (codes ":" ++ quoted (string_bytes tag.1)) (rw c.as_bytes.ensures.value at c.put_quoted-at.ensures) (rw c.deref.ensures at c.put_text.ensures))
