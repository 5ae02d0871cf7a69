use Rattle.std.proofs.Common.{◌≡◌, ◌-◌, refl, sym, ap, ◌∙◌, false, arith}
use Rattle.due_index.specs.Table.{begins, prefix_in}
use Rattle.due_index.proofs.Tables.{one_down}
use Rattle.due_index.proofs.table.climb.Goals as goal

pub loop-next-preserved : goal.loop-next-preserved
loop-next-preserved c =
    let test = c.loop-next-test.true in
    let within = c.requires.within in
    let down = c.loop-next.invariant.down in
    let lower = c.requires.linked.down (c.loop-next.next - 1) (omega arith) in
    let here : begins (prefix_in c.args.rules.now c.args.order.now (c.loop-next.next - 1)) c.args.text.now ≡ false =
    ap (λ p. begins p c.args.text.now) (sym c.prefix_at.ensures) ∙ sym c.starts_with.ensures.value ∙ c.if-starts_with.false in record {
      down = omega arith;
      none = one_down c.args.rules.now c.args.order.now c.args.parents.now c.requires.by_prefix c.requires.linked c.requires.size c.args.text.now c.loop-next.next c.args.from c.args.from
          (omega arith) down within refl c.requires.below here c.loop-next.invariant.none;
    }
