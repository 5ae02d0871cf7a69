use Rattle.due_index.proofs.Total.{total_on, if_least}
use Rattle.due_index.proofs.actions.ActionIndex.chosen.Goals as goal

pub returns-clause-exact : goal.returns-clause-exact
returns-clause-exact c = c.choice_at.ensures c.args.bucket.now c.see_order.ensures c.requires.stands

pub returns-clause-least : goal.returns-clause-least
returns-clause-least c = if_least c.args.bucket.now c.args.t c.choice_at.result (c.choice_at.ensures c.args.bucket.now c.see_order.ensures c.requires.stands)

pub returns-clause-total : goal.returns-clause-total
returns-clause-total c = total_on c.args.bucket.now c.see_order.ensures c.args.t
