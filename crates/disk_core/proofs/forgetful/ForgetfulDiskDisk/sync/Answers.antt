use Rattle.disk_core.proofs.Lifted.{lifted}
use Rattle.disk_core.proofs.forgetful.ForgetfulDiskDisk.sync.Goals as goal

pub returns-then-self-clause-time : goal.returns-then-self-clause-time
returns-then-self-clause-time c = lifted _ _ _ c.fail.ensures.disk c.lose.ensures.time

pub returns-in-Err-clause-time : goal.returns-in-Err-clause-time
returns-in-Err-clause-time c = lifted _ _ _ c.fail-in-Err.ensures.disk c.length.ensures.call.time
