use Rattle.std.proofs.Common.{◌≡◌, ◌++◌, true, ap, ◌∙◌}
use Rattle.std.specs.List.{list_all}
use Rattle.office_base.specs.Tags.{is_tag, tags_of}
use Rattle.entry_codec.proofs.TagLemmas.{tag_at, all_written}
use Rattle.entry_codec.proofs.field_writers.put_tags.Goals as goal

pub put_tag-requires : goal.put_tag-requires
put_tag-requires c =
    let all : list_all is_tag (tags_of c.pairs-pairs.result.now) ≡ true = ap (list_all is_tag) c.pairs-pairs.ensures.same ∙ c.pairs-pairs.ensures.tags.in_range in
    tag_at c.pairs-pairs.result.now c.loop-pair.pair-index c.pair-item.result all c.loop-pair-test.true c.pair-item.is

pub returns-clause-bytes : goal.returns-clause-bytes
returns-clause-bytes c =
    c.loop-pair.invariant
    ∙ ap (λ bytes. c.args.out.now.items ++ bytes) (all_written c.loop-pair.pair-index c.pairs-pairs.result.now
    c.args.tags.now c.loop-pair-test.false c.pairs-pairs.ensures.same)
