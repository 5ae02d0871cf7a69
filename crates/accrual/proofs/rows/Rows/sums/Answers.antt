use Rattle.std.proofs.Common.{◌≡◌, ◌++◌, ◌∷◌, [], ◌+◌, subst, sym, ap, ◌∙◌, arith}
use Rattle.accrual.proofs.Summing.{AreSumsTo, listed_none, listed_more, listed_same, listed_all}
use Rattle.accrual.proofs.Prefixes.{none_are}
use Rattle.accrual.proofs.rows.Rows.sums.Goals as goal
use Rattle.accrual.proofs.rows.Rows.sums.Goals.{in-Some+in_ok-push, in_default}

pub loop-number-init : goal.loop-number-init
loop-number-init c = record {
  sums = subst (λ l. AreSumsTo c.args.self.now c.args.self.now.first l) (sym c.new-all.ensures.items) (listed_none c.args.self.now);
  before = none_are c.args.self.now c.args.self.now.first (omega arith);
}

pub loop-number-preserved : goal.loop-number-preserved
loop-number-preserved c = record {
  sums =
      elim c.match-sums.branch [
        | in-Some+in_ok-push w ↦
            let e : c.loop-number.all.items ++ w.in-Some.sums ∷ [] ≡ c.match-sums.all.items = sym (ap (λ a. a.items) w.all-is ∙ w.in_ok-push.ensures.items) in
            subst (λ l. AreSumsTo c.args.self.now (c.loop-number.number + 1) l) e
            (listed_more c.args.self.now c.loop-number.number c.loop-number.all.items w.in-Some.sums c.loop-number.invariant.sums w.in-Some.ensures.sums w.in-Some.ensures.some)
        | in_default w ↦
            subst (λ l. AreSumsTo c.args.self.now (c.loop-number.number + 1) l) (sym (ap (λ a. a.items) w.all-is))
            (listed_same c.args.self.now c.loop-number.number c.loop-number.all.items c.loop-number.invariant.sums w.in_default.ensures.none)
      ];
  before = c.all_past-before.ensures;
}

pub returns-clause-sums : goal.returns-clause-sums
returns-clause-sums c = listed_all c.args.self.now c.requires.sound.0 c.loop-number.number c.loop-number.all.items c.requires.sound.1 (omega arith) c.loop-number.invariant.sums
