use Rattle.due_index.proofs.Building.{built}
use Rattle.due_index.proofs.actions.ActionIndex.fill.Goals as goal

pub returns : goal.returns
returns c = built c.take_keys.new.self c.take_uploads.new.self c.args.bucket.now c.in_ok-take_keys.ensures.keys c.in_ok-take_uploads.ensures.uploads
    c.in_ok-take_uploads.ensures.keys c.in_ok-take_uploads.ensures.table
