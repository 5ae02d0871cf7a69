-- A call of a disk that forgets is a call of the disk in memory that it is made of.
use Rattle.std.proofs.Common.{◌≡◌, subst, sym, length}
use Rattle.disk_core.specs.declared.forgetful.ForgetfulDisk.{ForgetfulDisk}
use Rattle.disk_core.specs.declared.memory.MemoryDisk.{MemoryDisk}
use Rattle.disk_core.specs.Calls.{Elapses}
use Rattle.disk_core.specs.Forgetful.{forgetful_state}
use Rattle.disk_core.specs.Memory.{memory_state, call_count}
use Rattle.disk_core.specs.Replay.{HadSince}

pub lifted : (old new : ForgetfulDisk) (disk : MemoryDisk) → new.disk ≡ disk
    → Elapses memory_state call_count (λ m t s. HadSince m.calls t s) old.disk disk
    → Elapses forgetful_state (λ d. length d.disk.calls) (λ d t s. HadSince d.disk.calls t s) old new
lifted old new disk same time =
    let here = subst (Elapses memory_state call_count (λ m t s. HadSince m.calls t s) old.disk) (sym same) time in
    record { later = here.later; nothing_else = here.nothing_else; keeps = here.keeps }
