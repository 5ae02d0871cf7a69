use Rattle.std.proofs.Common.{◌≡◌, ◌+◌, ◌-◌, ◌^◌, ◌≤◌, ◌<◌, min, length, take, drop, sym, ap, ◌∙◌, arith}
use Rattle.std.proofs.lemmas.List.{length-take, drop_all}
use Rattle.json_fields.specs.Nodes.{inside, onto, values_of}
use Rattle.json_fields.proofs.NodeLemmas.{values_of-take, values_of-len, drop-capped, drop-onto}
use Rattle.json_fields.proofs.node.below.Goals as goal
use Rattle.json_fields.proofs.node.below.Goals.{then-loop-left-test+else-end-gt0, else-loop-left-test}

pub loop-left-preserved : goal.loop-left-preserved
loop-left-preserved c =
    let l = c.loop-left in
    let nodes = c.args.nodes.now in
    let e = l.end - 1 in
    let node = c.index-nodes-end.result in
    let within : e < length nodes = omega (arith, l.invariant.0) in
    let is : e + 1 ≡ l.end = omega arith in
    let one : values_of (take l.end nodes) ≡ onto (values_of (take e nodes)) node =
    ap (λ k. values_of (take k nodes)) (sym is) ∙ values_of-take nodes e node within
    ∙ ap (onto (values_of (take e nodes))) (sym c.index-nodes-end.is) in
    let n = l.left - 1 + inside node in
    let sum : c.saturating_add-left.result ≡ min n (2 ^ 64 - 1) =
    c.saturating_add-left.ensures ∙ ap (λ k. min (l.left - 1 + k) (2 ^ 64 - 1)) c.inside.ensures in
    let few : length (take e nodes) ≤ 2 ^ 64 - 1 = omega (arith, length-take e nodes) in (
      omega (arith, l.invariant.0),
      ap (λ k. drop k (values_of (take e nodes))) sum ∙ drop-capped n (2 ^ 64 - 1) (take e nodes) few
          ∙ sym (drop-onto l.left (values_of (take e nodes)) node (omega arith))
          ∙ ap (drop l.left) (sym one) ∙ l.invariant.1,
    )

pub returns-clause-value : goal.returns-clause-value
returns-clause-value c =
    let l = c.loop-left in
    let nodes = c.args.nodes.now in
    elim c.loop-left-test.branch [
      | then-loop-left-test+else-end-gt0 w ↦
          let none : length (values_of (take l.end nodes)) ≤ 0 =
          omega (arith, length-take l.end nodes, values_of-len (take l.end nodes)) in
          let rest = values_of (take l.end nodes) in
          drop_all 0 rest none ∙ sym (drop_all l.left rest (omega (arith, none))) ∙ l.invariant.1
      | else-loop-left-test w ↦
          let done : l.left ≡ 0 = omega arith in
          ap (λ k. drop k (values_of (take l.end nodes))) (sym done) ∙ l.invariant.1
    ]
