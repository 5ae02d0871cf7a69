use Rattle.std.proofs.Common.{sym, subst, ◌<◌, ◌∷◌, [], List, length, arith}
use Rattle.office_types.specs.declared.kept.Kept.{Kept}
use Rattle.std.proofs.lemmas.List.{length-append}
use Rattle.kept_replies.specs.Indexed.{IsIndexed}
use Rattle.kept_replies.proofs.Indexes.{indexed_more}
use Rattle.kept_replies.proofs.replies.push.Goals as goal

pub returns-then-len-gt-MOST_KEPT-clause-indexed : goal.returns-then-len-gt-MOST_KEPT-clause-indexed
returns-then-len-gt-MOST_KEPT-clause-indexed c =
    let numbers = c.args.numbers.now.entries in
    let queue = c.args.queue.now.items in
    let pushed = c.push_back_reserved.ensures.items in
    let long = length-append queue (c.args.kept ∷ []) in
    c.drop_oldest.ensures.numbers c.args.dropped
    (subst (λ (items : List Kept). 0 < length items) (sym pushed) (omega (arith, long)))
    (subst (IsIndexed c.args.dropped numbers) (sym pushed) (indexed_more c.args.dropped numbers c.args.kept queue c.requires.under c.requires.indexed))

pub returns-clause-indexed : goal.returns-clause-indexed
returns-clause-indexed c =
    let numbers = c.args.numbers.now.entries in
    let queue = c.args.queue.now.items in
    subst (IsIndexed c.args.dropped numbers) (sym c.push_back_reserved.ensures.items) (indexed_more c.args.dropped numbers c.args.kept queue c.requires.under c.requires.indexed)
