-- The office in memory after some entries of a journal.
use Rattle.std.specs.Prelude.{◌≡◌, ◌≤◌, ◌^◌, ℕ, true, List, ◌∷◌, [], ◌++◌, length, Some}
use Rattle.std.specs.List.{AllByRecursion}
use Rattle.plain_office.specs.Office.{Office, KeptReply, empty_office}
use Rattle.plain_office.specs.Run.{run_from}
use Rattle.office_types.specs.declared.command.Entry.{Entry}
use Rattle.office_types.specs.Tokens.{takes_token}
use Rattle.office_machine.specs.Once.{OfficeView, StandsFor}
use Rattle.meter_journal.specs.History.{header}

-- the most commands in a journal of 2^45 bytes, whose frames have 16 bytes at least (own)
abbrev pub most_accepted : ℕ
most_accepted = 2 ^ 41

-- the entries of a journal from one of its gates on, with the bytes before that gate and the office there
pub record Tail : Type 0 where
  pub office : Office
  pub head : List ℕ
  pub entries : List Entry

-- all entries of a journal: from the empty office on, behind its mark
abbrev pub from_first : List Entry → Tail
from_first history = record { office = empty_office; head = header; entries = history }

-- from the same gate on, these entries
abbrev pub with_entries : Tail → List Entry → Tail
with_entries tail entries = record { office = tail.office; head = tail.head; entries = entries }

-- one entry more
abbrev pub with_entry : Tail → Entry → Tail
with_entry tail entry = with_entries tail (tail.entries ++ entry ∷ [])

-- each of these replies is to a command that may carry a token, as every reply is that an office keeps
abbrev pub TakeTokens : List KeptReply → Type 0
TakeTokens kept = AllByRecursion (λ one. takes_token one.command ≡ true) kept

-- it stands for the plain office after these entries, from this office on, with its kept replies, and counts no more
-- commands: an office that is restored counts from 0
pub record StandsSince (start : Office) (entries : List Entry) (view : OfficeView) : Type 0 where
  pub plain : Office
  pub is_run : run_from (Some start) entries ≡ Some plain
  pub stands : StandsFor view plain
  pub counted : view.records.accepted ≤ length entries

-- and for the plain office after a history: from the empty office on
abbrev pub StandsAfter : List Entry → OfficeView → Type 0
StandsAfter history view = StandsSince empty_office history view
