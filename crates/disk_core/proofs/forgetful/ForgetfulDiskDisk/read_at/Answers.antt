use Rattle.disk_core.proofs.Lifted.{lifted}
use Rattle.disk_core.proofs.forgetful.ForgetfulDiskDisk.read_at.Goals as goal

pub returns-in-Err-clause-time : goal.returns-in-Err-clause-time
returns-in-Err-clause-time c = lifted _ _ _ c.fail.ensures.disk c.read_at.ensures.call.time
