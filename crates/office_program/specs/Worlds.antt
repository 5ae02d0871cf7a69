-- What the program works on, and what each part of it reports.
use Rattle.std.specs.Prelude.{ℕ}
use Rattle.disk_core.specs.declared.disk.Disk as disks
use Rattle.desk_core.specs.declared.clock.Clock as clocks
use Rattle.bill_book.specs.declared.keeper.BillKeeper as keepers
use Rattle.http_wire.specs.declared.source.Source as sources
use Rattle.http_front.specs.declared.replies.Replies as sinks
use Rattle.serving.specs.declared.port.Port as ports
use Rattle.office_commands.specs.Running.{Surroundings, around}
use Rattle.office_program.specs.Carrying.{Setting, setting}
use Rattle.office_program.specs.Commands.{FaultCounts, faults}

-- what the program works on and may change: a disk, a clock, an output, an input, a port and a keeper of bills
pub record World (S D C W P K : Type 0) : Type 0 where
  pub disk : D
  pub clock : C
  pub out : W
  pub input : S
  pub port : P
  pub keeper : K

module _ {S D C W P K : Type 0} where
  -- this disk, clock, output, input, port and keeper
  abbrev pub world : D → C → W → S → P → K → World S D C W P K
  world disk clock out input port keeper =
      record { disk = disk; clock = clock; out = out; input = input; port = port; keeper = keeper }

  -- its disk, clock and output
  abbrev pub place_of : World S D C W P K → Surroundings D C W
  place_of at = around at.disk at.clock at.out

  -- all of it but the port
  abbrev pub setting_of : World S D C W P K → Setting S D C W K
  setting_of at = setting at.disk at.clock at.out at.input at.keeper

-- what each part reports; of the gate, the calls that it let through, by worker and number
pub record Parts (S D C W P Source Replies K : Type 0) : Type 1 where
  pub input : sources.Ghosts S
  pub disk : disks.Ghosts D
  pub clock : clocks.Ghosts C
  pub out : sinks.Ghosts W
  pub port : ports.Ghosts P Source Replies
  pub gate : ℕ → ℕ → Type 0
  pub keeper : keepers.Ghosts K

module _ {S D C W P Source Replies K : Type 0} where
  -- this input, disk, clock, output, port, gate and keeper
  abbrev pub parts : sources.Ghosts S → disks.Ghosts D → clocks.Ghosts C → sinks.Ghosts W
      → ports.Ghosts P Source Replies → (ℕ → ℕ → Type 0) → keepers.Ghosts K → Parts S D C W P Source Replies K
  parts input disk clock out port gate keeper = record {
    input = input;
    disk = disk;
    clock = clock;
    out = out;
    port = port;
    gate = gate;
    keeper = keeper;
  }

module _ {S D C W P Source Replies K : Type 0} (g : Parts S D C W P Source Replies K) where
  -- how often each has failed so far; the clock cannot
  abbrev pub counts_at : World S D C W P K → FaultCounts
  counts_at at = faults (g.disk.fault_count at.disk) (g.input.faults at.input) (g.out.faults at.out)
      (g.port.faults at.port) (g.keeper.faults at.keeper)
