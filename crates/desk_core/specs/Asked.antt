-- The command that an ask asks for, and the token that it carries.
use Rattle.std.specs.Prelude.{◌≡◌, ℕ, List, Option, Some, None, IfSome, if◌then◌else◌}
use Rattle.kept_replies.specs.Queue.{kept_in}
use Rattle.office_types.specs.Entries.{entry_with}
use Rattle.office_types.specs.Tokens.{takes_token}
use Rattle.office_types.specs.declared.command.Ask.{Ask}
use Rattle.office_types.specs.declared.command.Ask.TheVariants as ask
use Rattle.office_types.specs.declared.command.Command.{Command}
use Rattle.office_types.specs.declared.command.Entry.{Entry}
use Rattle.plain_office.specs.Office.{Office, KeptReply}
use Rattle.plain_office.specs.Once.{kept_for}
use Rattle.office_machine.specs.Once.{OfficeView}

-- a command, with a token or without
pub record Asked : Type 0 where
  pub token : Option (List ℕ)
  pub command : Command

-- what an ask asks for, and nothing where it is a query; a token of a command that may carry none counts as none (own)
abbrev pub asked : Ask → Option Asked
asked (ask.Command command) = Some (record { token = None; command = command })
asked (ask.Once token command) =
    Some (record { token = if takes_token command then Some token else None; command = command })
asked (ask.Query query) = None

-- the ask asks for this command with this token, or without one
abbrev pub AsksFor : Ask → Option (List ℕ) → Command → Type 0
AsksFor question token command = asked question ≡ Some (record { token = token; command = command })

-- its entry at a moment
abbrev pub entry_of : ℕ → Asked → Entry
entry_of t call = entry_with t call.token call.command

-- no reply is kept under its token: the command is done here, or refused, and not answered from the kept replies
abbrev pub IsFresh : Asked → Office → Type 0
IsFresh call office = kept_for call.token office ≡ None

-- the same of the replies that an office in memory keeps
abbrev pub IsNotKept : Asked → OfficeView → Type 0
IsNotKept call view = IfSome call.token (λ token. kept_in token view.kept.queue ≡ None)

-- the ask repeats a command: this reply is kept of it, under the token that the ask carries
pub record Repeats (question : Ask) (office : Office) (one : KeptReply) : Type 0 where
  pub call : Asked
  pub is_asked : asked question ≡ Some call
  pub same : call.command ≡ one.command
  pub kept : kept_for call.token office ≡ Some one
