-- What is done for words that could not be read.
use Rattle.std.proofs.Common.{◌≡◌, inl, inr, refl, sym, subst, ℕ, Option, Some, None}
use Rattle.std.specs.Prelude.{false}
use Rattle.command_line.specs.Lines.{Line}
use Rattle.command_line.specs.declared.line.LineFault.{LineFault}
use Rattle.command_line.specs.declared.line.LineFault.TheVariants.{NotALine, NoMemory}
use Rattle.http_front.specs.declared.answering.SessionEnd.TheVariants as ends
use Rattle.office_commands.specs.Lines.{usage_note, end_note}
use Rattle.office_commands.specs.Running.{IsNoted, IsSilent}
use Rattle.office_program.specs.Program.{TouchesOutput, IsUnread, Obeys}
use Rattle.office_program.specs.Worlds.{World, Parts}

module _ {S D C W P Source Replies K : Type 0} (g : Parts S D C W P Source Replies K) (old new : World S D C W P K) (status : ℕ) where
  unread_obeys : (line : Option Line) → IsUnread g old new status → Obeys g line old new status
  unread_obeys (Some line) unread = inr unread
  unread_obeys None unread = inr unread

  pub refusal_obeys : (fault : LineFault) (line : Option Line) → (fault ≡ NotALine → line ≡ None)
      → (fault ≡ NotALine → (status ≡ 1) × IsNoted g.out old.out new.out usage_note)
      → (fault ≡ NoMemory → (status ≡ 6) × IsNoted g.out old.out new.out (end_note ends.NoMemory false))
      → IsSilent g.out old.out new.out → TouchesOutput old new → Obeys g line old new status
  refusal_obeys NotALine line none usage memory silent untouched =
      subst (λ (l : Option Line). Obeys g l old new status) (sym (none refl)) (inl (record {
        status_is = (usage refl).0;
        untouched = untouched;
        silent = silent;
        note = (usage refl).1;
      }))
  refusal_obeys NoMemory line none usage memory silent untouched = unread_obeys line (record {
    runs_out = record { status_is = (memory refl).0; silent = silent; note = (memory refl).1 };
    untouched = untouched;
  })
