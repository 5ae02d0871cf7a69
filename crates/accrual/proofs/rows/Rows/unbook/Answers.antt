use Rattle.std.proofs.Common.{subst, sym}
use Rattle.class_rules.specs.Classes.{rank_of}
use Rattle.accrual.specs.Rows.{kept_in, IsAdded, IsWithin}
use Rattle.accrual.proofs.Changes.{unbooked_is, within_second}
use Rattle.accrual.proofs.rows.Rows.unbook.Goals as goal

pub remove-requires-then-lines-ne0-clause-within : goal.remove-requires-then-lines-ne0-clause-within
remove-requires-then-lines-ne0-clause-within c =
    subst (λ k. IsWithin k (kept_in c.remove.new.self c.args.month 0)) (sym c.weighed-then-lines-ne0.ensures)
    (within_second c.args.self.now c.remove.new.self c.args.lines.now c.args.month c.args.each.now c.requires.within
    (subst (λ k. IsAdded c.remove.new.self c.args.self.now c.args.month (rank_of c.args.lines.now.class) k)
    c.weighed.ensures c.remove.ensures))

pub returns-then-lines-ne0 : goal.returns-then-lines-ne0
returns-then-lines-ne0 c = unbooked_is c.remove-then-lines-ne0.new.self c.remove.new.self c.args.self.now c.args.lines.now c.args.month c.args.each.now
    (subst (λ k. IsAdded c.remove-then-lines-ne0.new.self c.remove.new.self c.args.month 0 k) c.weighed-then-lines-ne0.ensures c.remove-then-lines-ne0.ensures)
    (subst (λ k. IsAdded c.remove.new.self c.args.self.now c.args.month (rank_of c.args.lines.now.class) k)
    c.weighed.ensures c.remove.ensures)
