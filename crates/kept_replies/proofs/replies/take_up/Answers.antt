use Rattle.std.proofs.Common.{◌≡◌, ◌∙◌, ℕ, List, ◌∷◌, ◌++◌, [], length, ap, sym, subst, arith}
use Rattle.office_base.specs.Maps.{with_name}
use Rattle.office_types.specs.declared.kept.Kept.{Kept}
use Rattle.kept_replies.specs.Indexed.{IsIndexed}
use Rattle.kept_replies.proofs.Anew.{taken_up}
use Rattle.kept_replies.proofs.replies.take_up.Goals as goal

pub returns-in-Ok-clause-indexed : goal.returns-in-Ok-clause-indexed
returns-in-Ok-clause-indexed c =
    let numbers = c.args.numbers.now.entries in
    let queue = c.args.queue.now.items in
    let same = c.in-Ok.ensures.items in
    let counted : c.len-number.result ≡ length queue = omega arith in
    let put = c.in-Ok.ensures.put ∙ ap (λ (n : ℕ). with_name c.args.kept.token n numbers) counted in
    let items = c.push_back_reserved.ensures.items ∙ ap (λ (l : List Kept). l ++ c.args.kept ∷ []) same in
    subst (λ (l : List Kept). IsIndexed 0 c.make_ready.new.numbers.entries l) (sym items)
    (subst (λ (n : List (List ℕ × ℕ)). IsIndexed 0 n (queue ++ c.args.kept ∷ [])) (sym put) (taken_up numbers c.args.kept queue c.requires.new c.requires.indexed))
