-- What a command line touches, by what it asks for.
use Rattle.std.proofs.Common.{◌≡◌, ◌⊎◌, ◌∙◌, ⊎_elim, inl, inr, sym, ℕ, List, Option, Some}
use Rattle.command_line.specs.Lines.{Line, init, run, serve, bill, forecast}
use Rattle.http_front.specs.declared.replies.Replies as sinks
use Rattle.office_program.specs.Commands.{IsServe, IsBill, IsForecastLine, TouchesOwn}
use Rattle.office_commands.specs.Running.{SaysNoReply, NotesNothing}

-- ---- what a line is not

module _ (line : Option Line) (asked : Line) (is : line ≡ Some asked) where
  other_line : (other : Line) → (Some asked ≡ Some other → ⊥) → line ≡ Some other → ⊥
  other_line other differ also = differ (sym is ∙ also)

  pub not_run : (Some asked ≡ Some run → ⊥) → line ≡ Some run → ⊥
  not_run = other_line run

  pub not_init : (Some asked ≡ Some init → ⊥) → line ≡ Some init → ⊥
  not_init = other_line init

  pub not_bill : ((month : ℕ) → Some asked ≡ Some (bill month) → ⊥) → IsBill line → ⊥
  not_bill differ also = differ also.0 (sym is ∙ also.1)

  pub not_forecast : ((bucket : List ℕ) (day : ℕ) → Some asked ≡ Some (forecast bucket day) → ⊥) → IsForecastLine line → ⊥
  not_forecast differ also = differ also.0 also.1 (sym is ∙ also.2)

  pub not_serve : ((listen : List ℕ) (count connections : ℕ) → Some asked ≡ Some (serve listen count connections) → ⊥) → IsServe line → ⊥
  not_serve differ also = differ also.0 also.1 also.2 (sym is ∙ also.3)

-- ---- what is touched

module _ {W : Type 0} (w : sinks.Ghosts W) (line : Option Line) (input_stays port_stays keeper_stays : Type 0) (old new : W) (status : ℕ) where
  -- it prints texts, and leaves input, port and keeper
  pub prints : (line ≡ Some run → ⊥) → (IsServe line → ⊥) → SaysNoReply w old new
      → (status ≡ 0 → NotesNothing w old new) → input_stays → port_stays → keeper_stays
      → TouchesOwn w line input_stays port_stays keeper_stays old new status
  prints no_run no_serve unsaid unnoted input port keeper = record {
    unsaid = λ _. unsaid;
    no_text = λ is. absurd (⊎_elim no_run no_serve is);
    unnoted = unnoted;
    unread = λ _. input;
    unused = λ _. port;
    unbilled = λ _. keeper;
    unopened = λ _. (input, port, keeper);
  }

  -- it bills, prints texts, and leaves input and port
  pub bills : (line ≡ Some run → ⊥) → (IsServe line → ⊥) → IsBill line → SaysNoReply w old new
      → (status ≡ 0 → NotesNothing w old new) → input_stays → port_stays → ((status ≡ 5) ⊎ (status ≡ 8) → keeper_stays)
      → TouchesOwn w line input_stays port_stays keeper_stays old new status
  bills no_run no_serve is unsaid unnoted input port keeper = record {
    unsaid = λ _. unsaid;
    no_text = λ is. absurd (⊎_elim no_run no_serve is);
    unnoted = unnoted;
    unread = λ _. input;
    unused = λ _. port;
    unbilled = λ not. absurd (not is);
    unopened = λ unopened. (input, port, keeper unopened);
  }

  -- it reads the input as messages, says replies alone, and leaves port and keeper
  pub runs : line ≡ Some run → (IsServe line → ⊥) → w.texts new ≡ w.texts old → (status ≡ 0 → NotesNothing w old new)
      → ((status ≡ 5) ⊎ (status ≡ 8) → input_stays) → port_stays → keeper_stays
      → TouchesOwn w line input_stays port_stays keeper_stays old new status
  runs is no_serve no_text unnoted input port keeper = record {
    unsaid = λ not. absurd (not is);
    no_text = λ _. no_text;
    unnoted = unnoted;
    unread = λ not. absurd (not (inl is));
    unused = λ _. port;
    unbilled = λ _. keeper;
    unopened = λ unopened. (input unopened, port, keeper);
  }

  -- it reads the input as a configuration, prints texts, and leaves port and keeper
  pub foretells : (line ≡ Some run → ⊥) → (IsServe line → ⊥) → IsForecastLine line → SaysNoReply w old new
      → (status ≡ 0 → NotesNothing w old new) → ((status ≡ 5) ⊎ (status ≡ 8) → input_stays) → port_stays → keeper_stays
      → TouchesOwn w line input_stays port_stays keeper_stays old new status
  foretells no_run no_serve is unsaid unnoted input port keeper = record {
    unsaid = λ _. unsaid;
    no_text = λ text. absurd (⊎_elim no_run no_serve text);
    unnoted = unnoted;
    unread = λ not. absurd (not (inr is));
    unused = λ _. port;
    unbilled = λ _. keeper;
    unopened = λ unopened. (input unopened, port, keeper);
  }
