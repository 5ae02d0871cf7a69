use Rattle.std.proofs.Common.{subst, sym}
use Rattle.class_rules.specs.Classes.{rank_of}
use Rattle.class_rules.specs.declared.class.Class.{Class}
use Rattle.accrual.specs.Rows.{kept_in, IsAdded, HasRoom}
use Rattle.accrual.proofs.Changes.{booked_is, second_room}
use Rattle.accrual.proofs.rows.Rows.book.Goals as goal

pub add-requires-then-lines-ne0-clause-room : goal.add-requires-then-lines-ne0-clause-room
add-requires-then-lines-ne0-clause-room c =
    subst (λ k. HasRoom (kept_in c.add.new.self c.args.month 0) k) (sym c.weighed-then-lines-ne0.ensures)
    (second_room c.args.self.now c.add.new.self c.args.lines.now c.args.month c.args.each.now (subst
    (λ k. IsAdded c.args.self.now c.add.new.self c.args.month (rank_of c.args.lines.now.class) k)
    c.weighed.ensures c.add.ensures) (c.requires.modest Class.Standard) c.requires.billed c.requires.short)

pub returns-then-lines-ne0 : goal.returns-then-lines-ne0
returns-then-lines-ne0 c = booked_is c.args.self.now c.add.new.self c.add-then-lines-ne0.new.self c.args.lines.now c.args.month c.args.each.now
    (subst (λ k. IsAdded c.args.self.now c.add.new.self c.args.month (rank_of c.args.lines.now.class) k) c.weighed.ensures
    c.add.ensures)
    (subst (λ k. IsAdded c.add.new.self c.add-then-lines-ne0.new.self c.args.month 0 k) c.weighed-then-lines-ne0.ensures c.add-then-lines-ne0.ensures)
