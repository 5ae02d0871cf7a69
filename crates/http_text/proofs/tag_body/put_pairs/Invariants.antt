use Rattle.std.proofs.Common.{drop}
use Rattle.serde_json.specs.Written.{members_text}
use Rattle.office_base.specs.Tags.{tags_of}
use Rattle.http_text.proofs.Going.{Going, row}
use Rattle.http_text.proofs.tag_body.put_pairs.Given as goal

abbrev pub invariant-loop-tag : goal.invariant-loop-tag
invariant-loop-tag l =
    Going l.initial.room l.initial.at l.room l.at (members_text l.later (row (tags_of (drop l.tag-index l.pairs)))) (members_text l.initial.later (row (tags_of l.pairs)))
