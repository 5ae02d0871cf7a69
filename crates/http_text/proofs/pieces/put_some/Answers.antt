use Rattle.std.proofs.Common.{◌-◌, ◌++◌, length, take, drop, codes, arith, inr, Some}
use Rattle.http_text.specs.Bodies.{version_text}
use Rattle.http_text.specs.Pieces.{rest_text}
use Rattle.http_text.proofs.PieceTexts.{begins_step, rest_by_place, rest_shorter}
use Rattle.http_text.proofs.pieces.put_some.Goals as goal

pub versions-preserved : goal.versions-preserved
versions-preserved c =
    let left = c.versions.left.now in
    let rest = take (length left - 1) (drop 1 left) in
    let version = c.version-item.result in
    let shorter = rest_shorter left c.in-len1-up.len_at_least in
    record {
      text = λ whole begins.
          begins_step c.versions.room c.put_next-at.new.room c.versions.at c.put_next-at.result (rest_text left) (codes "," ++ version_text (Some version.ceased) version) (rest_text rest) whole
          c.versions-test.true (rest_by_place left _ version c.in-len1-up.len_at_least c.version-item.is) c.put_next-at.ensures.small c.put_next-at.ensures.puts (c.versions.invariant.text whole begins);
      fewer = inr (omega (arith, shorter, c.versions.invariant.within));
      within = omega (arith, shorter, c.versions.invariant.within);
    }
