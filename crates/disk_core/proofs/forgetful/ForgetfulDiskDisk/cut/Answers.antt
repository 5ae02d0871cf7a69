use Rattle.disk_core.proofs.Lifted.{lifted}
use Rattle.disk_core.proofs.forgetful.ForgetfulDiskDisk.cut.Goals as goal

pub returns-in-Err-clause-time : goal.returns-in-Err-clause-time
returns-in-Err-clause-time c = lifted _ _ _ c.fail.ensures.disk c.cut.ensures.call.time
