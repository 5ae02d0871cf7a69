-- The laws of a disk as one record, for lemmas.
use seplogic.Ra.Ura.{Ura}
use mir.Syntax.{Dict}
use prog.Model.{Model}
use types.Logic.{Logic}
use contract.Running.{Running}
use denote.RattleType.{RattleType}
use Rattle.std.specs.Prelude.{◌≡◌, ℕ, ◌<◌, ◌≤◌, IsTrue, get_or}
use Rattle.disk_core.specs.declared.disk.Disk as disks
use Rattle.disk_core.specs.declared.disk.FileNo.{FileNo}
use Rattle.disk_core.specs.contracts.disk.Disk.TheBound.{Met}
use Rattle.disk_core.specs.Files.{State, IsImage, file_in, seen_in}

-- what the trait `Disk` says of every disk beside what its calls do
pub record DiskLaws {D : Type 0} (d : disks.Ghosts D) : Type 0 where
  pub counts_now : (disk : D) (t : ℕ) → t ≤ d.moment disk → d.had_since disk t (d.state disk)
  pub only_now : (disk : D) (s : State) → d.had_since disk (d.moment disk) s → s ≡ d.state disk
  pub since_earlier : (disk : D) (t u : ℕ) (s : State) → t ≤ u → d.had_since disk u s → d.had_since disk t s
  pub honest_tells : IsTrue d.honest → IsTrue d.tells
  pub reads_image : IsTrue d.honest → (disk : D) (file : FileNo) → IsImage (file_in file (d.state disk)) (seen_in file (d.state disk))
  pub holds_bytes : IsTrue d.tells → (disk : D) (file : FileNo) (i : ℕ) → get_or (seen_in file (d.state disk)) i 0 < 256

-- what code over any disk knows of it holds them
pub laws_of : {M : Type 1} {𝓤 : Ura M} {𝓛 : Logic 𝓤} {𝓜 : Model 𝓤 𝓛.H} {𝓡 : Running 𝓤 𝓛.H 𝓜} {D : RattleType} {d : disks.Ghosts D.Denot} {methods : Dict}
    → Met 𝓛 𝓜 𝓡 𝓡.env D d methods → DiskLaws d
laws_of met = record {
  counts_now = met.counts_now;
  only_now = met.only_now;
  since_earlier = met.since_earlier;
  honest_tells = met.honest_tells;
  reads_image = met.reads_image;
  holds_bytes = met.holds_bytes;
}
