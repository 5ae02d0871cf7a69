use Rattle.std.proofs.Common.{map}
use Rattle.std.specs.Prelude.{option_to_list}
use Rattle.due_index.specs.Search.{on_key, removal_step, move_step}
use Rattle.due_index.proofs.Noncurrents.{more_steps}
use Rattle.due_index.proofs.noncurrent.noncurrent.Goals as goal

pub returns : goal.returns
returns c = more_steps c.args.setting.now (c.args.key.now, c.args.of_key.now) (c.args.number, c.args.rule.now) (on_key c.args.key.now c.args.best.now)
    (on_key c.args.key.now c.removal.new.best) (on_key c.args.key.now c.moves.new.best)
    (map removal_step (option_to_list c.args.rule.now.noncurrent_expiration)) (map move_step c.args.rule.now.noncurrent_moves) c.removal.ensures c.moves.ensures
