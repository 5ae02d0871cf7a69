use Rattle.std.proofs.Common.{◌+◌, [], ◌∷◌, true, drop, map}
use Rattle.std.proofs.lemmas.List.{drop_all}
use Rattle.serde_json.specs.View.{items_of}
use Rattle.serde_json.specs.Written.{items_text}
use Rattle.http_text.specs.Bodies.{noncurrent_version}
use Rattle.http_text.proofs.Going.{going_on, going_end}
use Rattle.http_text.proofs.LongTexts.{version_left}
use Rattle.http_text.proofs.stack_body.put_noncurrent.Goals as goal

pub loop-version-preserved : goal.loop-version-preserved
loop-version-preserved c =
    let versions = c.args.versions.now in
    let i = c.loop-version.version-index in
    going_on _ _ _ (items_text true (items_of (map noncurrent_version (drop (i + 1) versions)))) c.loop-version.invariant (version_left versions i c.version-item.result c.loop-version-test.true)
    (rw c.version-item.is at c.put_next-at.ensures.puts)

pub returns : goal.returns
returns c =
    going_end (93 ∷ []) _ (rw (drop_all c.loop-version.version-index c.args.versions.now c.loop-version-test.false) at c.loop-version.invariant) c.put.ensures
