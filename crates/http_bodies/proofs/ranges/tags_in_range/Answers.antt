use Rattle.std.proofs.Common.{◌<◌, length, option_map, ap, ◌∙◌, arith}
use Rattle.http_bodies.specs.Pairs.{pairs_of}
use Rattle.http_bodies.specs.Ranges.{tags_in_range}
use Rattle.http_bodies.proofs.PairLemmas.{too_many_tags}
use Rattle.http_bodies.proofs.ranges.tags_in_range.Goals as goal

pub returns-then-len-gt-MOST_TAGS : goal.returns-then-len-gt-MOST_TAGS
returns-then-len-gt-MOST_TAGS c =
    let es = c.in-Some.texts.entries in
    let more : 10 < length es = omega (arith, c.if-len-gt-MOST_TAGS.true, c.len.ensures.len) in
    ap (λ texts. tags_in_range (option_map (λ found. pairs_of found.entries) texts)) c.in-Some.is ∙ too_many_tags es more
