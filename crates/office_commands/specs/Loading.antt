-- What a generated load prints.
use Rattle.std.specs.Prelude.{◌≡◌, ◌⊎◌, ℕ, List, ◌++◌, codes, decimal}
use Rattle.generator.specs.Generated.{tally}
use Rattle.generator.specs.declared.tally.Tally.{Tally}
use Rattle.http_front.specs.declared.replies.Replies as sinks
use Rattle.office_commands.specs.Lines.{line}
use Rattle.office_commands.specs.Running.{Surroundings, IsPutOut, RunsOut}

-- the counts, in one line (own)
unfoldable pub tally_line : Tally → List ℕ
tally_line counts = line (
    codes "commands " ++ decimal counts.made ++ codes " accepted " ++ decimal counts.accepted
    ++ codes " refused " ++ decimal counts.refused ++ codes " nothing " ++ decimal counts.nothing
    ++ codes " versions " ++ decimal counts.versions ++ codes " uploads " ++ decimal counts.uploads
    ++ codes " journal " ++ decimal counts.journal)

-- the line of a load of count commands generated from number is printed, or memory ran out
abbrev pub TellsLoad : {W : Type 0} → sinks.Ghosts W → ℕ → ℕ → W → W → ℕ → Type 0
TellsLoad w number count old new status =
    IsPutOut w (tally_line (tally number count)) old new status ⊎ RunsOut w old new status

module _ {D C W : Type 0} (w : sinks.Ghosts W) where
  -- what `gen` does: it touches neither the disk nor the clock
  abbrev pub Loads : ℕ → ℕ → Surroundings D C W → Surroundings D C W → ℕ → Type 0
  Loads number count old new status =
      TellsLoad w number count old.out new.out status × (new.disk ≡ old.disk) × (new.clock ≡ old.clock)
