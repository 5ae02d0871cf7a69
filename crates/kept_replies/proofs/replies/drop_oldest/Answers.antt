use Rattle.std.proofs.Common.{sym, subst, ◌+◌, List, ℕ}
use Rattle.kept_replies.specs.Indexed.{IsIndexed}
use Rattle.kept_replies.proofs.Indexes.{indexed_behind}
use Rattle.kept_replies.proofs.replies.drop_oldest.Goals as goal

pub returns-in-Some-clause-numbers : goal.returns-in-Some-clause-numbers
returns-in-Some-clause-numbers c = λ first some is.
    let numbers = c.args.numbers.now.entries in
    subst (λ (n : List (List ℕ × ℕ)). IsIndexed (first + 1) n c.pop_front.new.self.items) (sym c.remove.ensures.entries)
    (indexed_behind first numbers c.in-Some.oldest c.pop_front.new.self.items (subst (IsIndexed first numbers) c.in-Some.ensures.items is))
