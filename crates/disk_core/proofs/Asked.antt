-- A call that was made of a file, and then counted.
use Rattle.std.proofs.Common.{◌≡◌, subst, sym}
use Rattle.disk_core.specs.declared.disk.FileNo.{FileNo}
use Rattle.disk_core.specs.declared.disk_file.DiskFile as disk_files
use Rattle.disk_core.specs.FileCalls.{FileCall, FileAnswer}
use Rattle.disk_core.specs.Untold.{Opened, Asks}

pub asked_then : {F : Type 0} {f : disk_files.Ghosts F} {file : FileNo} {call : FileCall} {old mid new : Opened F} {was is : FileAnswer}
    → Asks f file call was old mid → is ≡ was → new ≡ mid → Asks f file call is old new
asked_then {F} {f} {file} {call} {old} {mid} {new} {was} {is} asks same files =
    subst (λ answer. Asks f file call answer old new) (sym same) (subst (λ o. Asks f file call was old o) (sym files) asks)
