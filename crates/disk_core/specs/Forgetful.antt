-- What a disk holds that forgets its syncs.
use Rattle.std.specs.Prelude.{ℕ}
use Rattle.disk_core.specs.declared.forgetful.ForgetfulDisk.{ForgetfulDisk}
use Rattle.disk_core.specs.Files.{State}
use Rattle.disk_core.specs.Memory.{memory_state}

-- its three files
abbrev pub forgetful_state : ForgetfulDisk → State
forgetful_state d = memory_state d.disk

-- how often it has failed
abbrev pub forgetful_faults : ForgetfulDisk → ℕ
forgetful_faults d = d.faults
