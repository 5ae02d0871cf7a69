-- What a command line that was carried out, without a port, is of the words that ask for it.
use Rattle.std.proofs.Common.{◌≡◌, ◌∙◌, refl, sym, subst, arith, ℕ, List, Option, Some}
use Rattle.std.specs.Prelude.{String}
use Rattle.std.specs.declared.alloc.Global.{Global}
use Rattle.std.proofs.lemmas.Option.{same_Some}
use Rattle.office_base.specs.Faults.{Rose}
use Rattle.command_line.specs.Lines.{Line, asked, line_of}
use Rattle.command_line.specs.declared.line.CommandLine.{CommandLine}
use Rattle.command_line.specs.declared.line.CommandLine.TheVariants as command_line
use Rattle.command_line.proofs.Ranges.{explain_in_range}
use Rattle.http_front.specs.declared.replies.Replies as sinks
use Rattle.office_program.specs.Carrying.{NeedsNoPort}
use Rattle.office_program.specs.Commands.{FaultCounts, IsCaused, TouchesOwn}

-- a count that stands at 0 did not rise
pub never_rose : Rose 0 0 → ⊥
never_rose rose = absurd (omega (arith, rose))

module _ (words : Option Line) (line : Line) (read : words ≡ Some line) where
  -- the words ask for nothing else
  pub is_line : (other : Line) → words ≡ Some other → line ≡ other
  is_line other is = same_Some line other (sym read ∙ is)

  -- a port that was not used stays
  pub owned : {W : Type 0} (w : sinks.Ghosts W) (input port keeper : Type 0) (old new : W) (status : ℕ) → port
      → TouchesOwn w (Some line) input (Unit {0}) keeper old new status → TouchesOwn w words input port keeper old new status
  owned w input port keeper old new status stays own =
      subst (λ (l : Option Line). TouchesOwn w l input port keeper old new status) (sym read) (record {
        unsaid = own.unsaid;
        no_text = own.no_text;
        unnoted = own.unnoted;
        unread = own.unread;
        unused = λ _. stays;
        unbilled = own.unbilled;
        unopened = λ is. let all = own.unopened is in (all.0, stays, all.2);
      })

  -- and did not fail
  pub caused : (old new : FaultCounts) (port : ℕ) (foreign spent : Type 0) (status : ℕ)
      → IsCaused (Some line) (record old { port = 0 }) (record new { port = 0 }) foreign spent status
      → IsCaused words (record old { port = port }) (record new { port = port }) foreign spent status
  caused old new port foreign spent status own =
      subst (λ (l : Option Line). IsCaused l (record old { port = port }) (record new { port = port }) foreign spent status) (sym read) (record {
        known = own.known;
        usage = own.usage;
        disk_fault = own.disk_fault;
        read_fault = own.read_fault;
        read_done = own.read_done;
        write_fault = own.write_fault;
        foreign_file = own.foreign_file;
        port_fault = λ seven. absurd (never_rose (own.port_fault seven));
        port_done = λ _. omega arith;
        clock_end = own.clock_end;
        input_spent = own.input_spent;
        no_tariff = own.no_tariff;
        keeper_fault = own.keeper_fault;
        keeper_done = own.keeper_done;
        bill_only = own.bill_only;
        input_only = own.input_only;
        forecast_only = own.forecast_only;
      })

-- a command line that was read, and is no `serve`, needs no port
pub needs_no_port : (command : CommandLine) (words : List (List ℕ)) → asked words ≡ Some (line_of command)
    → ((listen : String Global) (workers connections : ℕ) → command ≡ command_line.Serve listen workers connections → ⊥) → NeedsNoPort (line_of command)
needs_no_port command_line.Init words read other = tt
needs_no_port command_line.Run words read other = tt
needs_no_port (command_line.Serve listen workers connections) words read other = other listen workers connections refl
needs_no_port (command_line.Report report) words read other = tt
needs_no_port (command_line.Explain workers) words read other =
    let range = explain_in_range workers words read in (omega (arith, range.0), range.1)
needs_no_port (command_line.Gen number count) words read other = tt
needs_no_port (command_line.Bill bill) words read other = tt
needs_no_port (command_line.Forecast forecast) words read other = tt
