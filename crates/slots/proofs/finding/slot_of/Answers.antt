use Rattle.std.proofs.Common.{ℕ, List, Option, arith, subst}
use Rattle.std.specs.Prelude.{MatchOption}
use Rattle.disk_core.specs.Files.{seen_in}
use Rattle.slots.specs.Heads.{HasHead, body_at}
use Rattle.slots.specs.declared.heads.Head.{Head}
use Rattle.slots.proofs.Choosing.{at_head, no_head, body_of_head}
use Rattle.slots.proofs.finding.slot_of.Goals as goal

pub returns-in_default-clause-exact : goal.returns-in_default-clause-exact
returns-in_default-clause-exact g c told value position keeps =
    let file = seen_in c.args.file (g.D.Disk.state c.args.disk.now) in
    no_head file value position (subst (λ (h : Option Head). HasHead h file) c.in_default.is (c.requires.head told)) keeps

pub returns-then-head-lt-FIRST_GATE-clause-exact : goal.returns-then-head-lt-FIRST_GATE-clause-exact
returns-then-head-lt-FIRST_GATE-clause-exact g c told value position keeps =
    let file = seen_in c.args.file (g.D.Disk.state c.args.disk.now) in
    let is = subst (λ (h : Option Head). HasHead h file) c.in-Some.is (c.requires.head told) in
    omega (arith, c.if-head-lt-FIRST_GATE.true, keeps.placed, at_head c.in-Some.head file value position is keeps)

pub returns-in-None-clause-exact : goal.returns-in-None-clause-exact
returns-in-None-clause-exact g c told value position keeps =
    let file = seen_in c.args.file (g.D.Disk.state c.args.disk.now) in
    let is = subst (λ (h : Option Head). HasHead h file) c.in-Some.is (c.requires.head told) in
    let none = subst (λ (o : Option g.row.B.Denot). MatchOption o
    ((value : g.row.B.Denot) → g.B.Body.spells (body_at c.in-Some.head.size file) value → ⊥)
    (λ value. g.B.Body.spells (body_at c.in-Some.head.size file) value)) c.in-None.is (c.in-Ok.ensures.exact told) in
    none value (subst (λ (l : List ℕ). g.B.Body.spells l value) (body_of_head c.in-Some.head file value position is keeps) keeps.spelled)
