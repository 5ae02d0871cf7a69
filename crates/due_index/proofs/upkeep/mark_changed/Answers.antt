use Rattle.std.proofs.Common.{ap, ◌∙◌}
use Rattle.std.specs.Prelude.{option_copied, slice_get}
use Rattle.std.specs.List.{list_all}
use Rattle.std.proofs.lemmas.Bool.{and_parts}
use Rattle.stacks.specs.Stacks.{ids_differ, has_moments_until}
use Rattle.due_index.specs.Blocks.{but_first}
use Rattle.due_index.proofs.Changed.{changed_right}
use Rattle.due_index.proofs.upkeep.mark_changed.Goals as goal

pub returns : goal.returns
returns c =
    let versions = c.args.of_key.now.versions in
    let differ = (and_parts (ids_differ versions) (list_all (has_moments_until c.args.of_key.now.changed) versions) c.versions.ensures.stack).0 in
    changed_right c.args.mode c.args.rules.now c.args.key.now c.args.touched c.args.blocks.now c.mark_if_any.new.blocks c.mark_if_any-2.new.blocks
    (option_copied c.first-newest.result) (option_copied c.touched_version-touched.result) c.mark_if_any.ensures.right c.mark_if_any.ensures.others
    c.mark_if_any-2.ensures.right c.mark_if_any-2.ensures.others versions differ
    (c.first-newest.ensures.value ∙ ap (λ vs. slice_get vs 0) (c.but_first-noncurrent.ensures ∙ ap but_first c.versions.ensures.same)) c.touched_version-touched.ensures c.requires.rest
