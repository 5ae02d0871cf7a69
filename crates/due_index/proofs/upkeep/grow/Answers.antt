use Rattle.std.proofs.Common.{◌<◌, ◌≤◌, All, sym, ap, ◌∙◌, subst, arith, length}
use Rattle.std.specs.Prelude.{IfSome, slice_get}
use Rattle.std.proofs.lemmas.Bool.Decides.{nat_tests}
use Rattle.due_index.specs.Blocks.{BlockRecord, IsRightFor, but_first}
use Rattle.due_index.proofs.Spans.{until_later, grown_right}
use Rattle.due_index.proofs.upkeep.grow.Goals as goal

pub returns : goal.returns
returns c =
    let versions = c.but_first-noncurrent.result.now in
    let all = c.args.of_key.now.versions in
    let same = c.but_first-noncurrent.ensures ∙ ap but_first c.versions.ensures.same in
    let empty = c.if-is_empty.false in
    let tested = c.is_empty.ensures in
    let some : 0 < length versions = grind (arith, nat_tests, empty, tested) in
    let second = subst (λ until. IfSome (slice_get versions 1) (λ v. v.ceased ≤ until)) (ap (λ (b : BlockRecord). b.until) c.block.view_is)
    (c.is_until.ensures c.if-not-is_until.false) in
    let right = subst (All (IsRightFor c.args.mode c.args.rules.now c.args.key.now c.args.block.now)) (sym same) c.requires.right in
    let grown = until_later c.index-noncurrent-0.result.ceased in
    subst (λ b. All (IsRightFor c.args.mode c.args.rules.now c.args.key.now (grown b)) (but_first all)) (sym c.block-2.view_is)
    (subst (All (IsRightFor c.args.mode c.args.rules.now c.args.key.now (grown c.mark.new.block))) same
    (grown_right c.args.mode c.args.rules.now c.args.key.now versions c.args.of_key.now.changed all same c.requires.order c.args.block.now
    (grown c.mark.new.block) c.mark.ensures.from c.mark.ensures.kept c.index-noncurrent-0.result c.index-noncurrent-0.is some c.mark.ensures.marked second right))
