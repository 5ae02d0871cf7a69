use Rattle.std.proofs.Common.{◌≡◌, ◌≤◌, ◌<◌, ◌-◌, length, get_or, true, sym, ap, ◌∙◌, subst, inl, inr, arith}
use Rattle.std.specs.Prelude.{Some, slice_get}
use Rattle.std.proofs.lemmas.Option.{slice_get-get_or}
use Rattle.stacks.specs.Ceasing.{cease_in_order}
use Rattle.due_index.specs.Blocks.{BlockRecord, AreClear}
use Rattle.due_index.proofs.Tables.{below_or}
use Rattle.due_index.proofs.PassedOver.{blocks_pass, has_from}
use Rattle.due_index.proofs.passing.passed.Goals as goal

pub loop-left-preserved : goal.loop-left-preserved
loop-left-preserved c =
    let versions = c.versions-versions.result.now in
    let same = c.versions-versions.ensures.same in
    let size : length versions ≡ length c.args.of_key.now.versions = ap length same in
    let fewer = c.loop-left.invariant.fewer in
    let test = c.loop-left-test.true in
    let items = c.blocks-2.inside.list.items in
    let within : c.loop-left.at < length items = omega (arith, c.blocks-2.inside.list.ok.0) in
    let listed = c.deref-in-loop-left.ensures.value in
    let last_within : c.last_clear-last.result < length items =
    subst (λ bs. c.last_clear-last.result < length bs) listed c.last_clear-last.ensures.within in
    let begin = c.index-block.result.now in
    let end = c.index-end.result.now in
    let left = c.loop-left.left in
    let oldest = get_or versions (c.loop-left.left - 1) c.index-versions-left-in-loop-left.result in
    let at_first : slice_get items c.loop-left.at ≡ Some begin =
    slice_get-get_or items c.loop-left.at begin within ∙ ap Some (sym c.index-block.ensures) in
    let at_last : slice_get items c.last_clear-last.result ≡ Some end =
    slice_get-get_or items c.last_clear-last.result end last_within ∙ ap Some (sym c.index-end.ensures) in
    let clear : AreClear items c.loop-left.at c.last_clear-last.result c.args.place c.args.kind =
    subst (λ bs. AreClear bs c.loop-left.at c.last_clear-last.result c.args.place c.args.kind) listed c.last_clear-last.ensures.clear in
    let from = has_from begin.from oldest.ceased begin.until c.has.result c.has.ensures c.if-not-has.false in
    let passes = blocks_pass c.args.of_key.now.changed versions (subst (λ vs. cease_in_order c.args.of_key.now.changed vs ≡ true) (sym same) c.requires.order)
    c.args.blocks.now c.loop-left.at c.last_clear-last.result c.args.place c.args.kind
    (subst (λ bs. AreClear bs c.loop-left.at c.last_clear-last.result c.args.place c.args.kind) c.blocks-2.view_is clear)
    begin end (subst (λ bs. slice_get bs c.loop-left.at ≡ Some begin) c.blocks-2.view_is at_first)
    (subst (λ bs. slice_get bs c.last_clear-last.result ≡ Some end) c.blocks-2.view_is at_last)
    left c.left_after-left.result oldest
    (slice_get-get_or versions (c.loop-left.left - 1) c.index-versions-left-in-loop-left.result (omega arith)) from
    c.left_after-left.ensures.some
    (λ v less at. subst (λ (b : BlockRecord). v.ceased ≤ b.until) c.end.view_is (c.left_after-left.ensures.until v less at)) in record {
      some = c.left_after-left.ensures.some;
      fewer = omega arith;
      passed = λ j v le less at. elim (below_or j left) [
        | inl over ↦ c.loop-left.invariant.passed j v over less at
        | inr under ↦ passes j v le (omega arith) (subst (λ vs. slice_get vs j ≡ Some v) (sym same) at)
      ];
    }
