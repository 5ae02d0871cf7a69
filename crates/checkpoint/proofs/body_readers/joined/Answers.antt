use Rattle.std.proofs.Common.{◌≡◌, ◌∙◌, [], ◌∷◌, ◌++◌, sym, ap, arith}
use Rattle.std.proofs.lemmas.Grind.{common_steps}
use Rattle.entry_codec.proofs.Items.{pushed}
use Rattle.checkpoint.specs.Bodies.{joined}
use Rattle.checkpoint.proofs.Joining.{join_more, join_ends}
use Rattle.checkpoint.proofs.body_readers.joined.Goals as goal

pub loop-head-preserved : goal.loop-head-preserved
loop-head-preserved c =
    let one : c.push.new.self.items ≡ c.loop-head.parts.items ++ c.part_of.result ∷ [] =
    pushed c.push.result c.push.new.self.items c.loop-head.parts.items (c.loop-head.parts.items ++ c.part_of.result ∷ []) (sym c.is_err.ensures.value ∙ c.if-is_err.false) c.push.ensures.items in
    join_more c.loop-head.parts.items c.loop-head.head-iterator.rest.items c.loop-head.stacks.rest.items c.loop-head.uploads.rest.items c.loop-head.sums.rest.items
    (joined c.args.heads.items c.args.lists.stacks.items c.args.lists.uploads.items c.args.lists.sums.items) c.loop-head.invariant
    c.in-Some.head c.next.new.self.rest.items c.in-Some-next.its_stacks c.next-in-loop-head.new.self.rest.items c.in-Some-next-2.its_uploads c.next-in-loop-head-2.new.self.rest.items
    c.in-Some-next-3.its_sums c.next-in-loop-head-3.new.self.rest.items c.push.new.self.items
    c.in-Some.ensures.steps.0 c.in-Some-next.ensures.cases.0 c.in-Some-next-2.ensures.cases.0 c.in-Some-next-3.ensures.cases.0
    (one ∙ ap (λ part. c.loop-head.parts.items ++ part ∷ []) c.part_of.ensures)

pub returns : goal.returns
returns c =
    let a : c.loop-head.head-iterator.rest.items ≡ [] = grind (arith, common_steps) in
    let b : c.loop-head.stacks.rest.items ≡ [] = grind (arith, common_steps) in
    let d : c.loop-head.uploads.rest.items ≡ [] = grind (arith, common_steps) in
    let e : c.loop-head.sums.rest.items ≡ [] = grind (arith, common_steps) in
    join_ends c.loop-head.parts.items c.loop-head.head-iterator.rest.items c.loop-head.stacks.rest.items c.loop-head.uploads.rest.items c.loop-head.sums.rest.items
    (joined c.args.heads.items c.args.lists.stacks.items c.args.lists.uploads.items c.args.lists.sums.items) c.loop-head.invariant a b d e
