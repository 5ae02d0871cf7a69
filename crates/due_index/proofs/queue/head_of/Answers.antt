use Rattle.std.specs.Prelude.{option_copied}
use Rattle.due_index.proofs.Tournaments.{root_head}
use Rattle.due_index.proofs.queue.head_of.Goals as goal

pub returns-in-Some : goal.returns-in-Some
returns-in-Some c =
    root_head c.args.slots.now c.args.nodes.now c.in-Some.root.now (option_copied c.slot_at.result) c.requires c.in-Some.ensures.lookup.1 c.slot_at.ensures
