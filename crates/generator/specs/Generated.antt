-- A load: the commands that are generated from a number, and what the plain office does with them.
use Rattle.std.specs.Prelude.{ℕ, zero, suc, ◌+◌, List, [], ◌∷◌, ◌++◌, length, Result, Ok, Err}
use Rattle.office_types.specs.declared.command.Entry.{Entry}
use Rattle.office_types.specs.declared.reply.Reply.{Reply}
use Rattle.office_types.specs.declared.reply.Reply.TheVariants.{NothingDue}
use Rattle.office_types.specs.declared.refusal.Refusal.{Refusal}
use Rattle.office_types.specs.declared.refusal.What.TheVariants.{Versions, Uploads}
use Rattle.office_types.specs.Entries.{entry_at}
use Rattle.plain_office.specs.Office.{Office, empty_office}
use Rattle.plain_office.specs.Counts.{count_of}
use Rattle.plain_office.specs.Step.{step}
use Rattle.meter_journal.specs.History.{header, end_gate}
use Rattle.generator.specs.Drafts.{draft_command}
use Rattle.generator.specs.Places.{draft_at, next_place, place_after}
use Rattle.generator.specs.declared.place.Place.{Place}
use Rattle.generator.specs.declared.tally.Tally.{Tally}

-- the command after a place, at its moment
abbrev pub entry_behind : Place → Entry
entry_behind place = entry_at (next_place place).moment (draft_command (draft_at place))

-- the first commands that are generated from a number, this many
unfoldable pub generated : ℕ → ℕ → List Entry
generated number zero = []
generated number (suc n) = generated number n ++ entry_behind (place_after number n) ∷ []

-- ---- what comes of them

-- the office after some commands, those that it accepted, how many it refused, and how many acts found nothing due
pub record Progress : Type 0 where
  pub office : Office
  pub accepted : List Entry
  pub refused : ℕ
  pub nothing : ℕ

-- before the first command: the empty office, and nothing accepted or refused
abbrev pub at_first : Progress
at_first = record { office = empty_office; accepted = []; refused = 0; nothing = 0 }

-- the progress after one more command with this answer
abbrev pub noted : Progress → Entry → Office → Result Reply Refusal → Progress
noted progress entry office (Err refusal) = record progress { office = office; refused = progress.refused + 1 }
noted progress entry office (Ok NothingDue) = record progress { office = office; nothing = progress.nothing + 1 }
noted progress entry office (Ok reply) =
    record progress { office = office; accepted = progress.accepted ++ entry ∷ [] }

-- the progress after one more command, which the plain office answers at its moment
unfoldable pub after_entry : Progress → Entry → Progress
after_entry progress entry =
    let done = step entry.moment entry.command progress.office in noted progress entry done.0 done.1

-- the progress after these commands, one after another
unfoldable pub after_entries : Progress → List Entry → Progress
after_entries progress [] = progress
after_entries progress (entry ∷ entries) = after_entries (after_entry progress entry) entries

-- ---- the counts

-- the counts of this many commands; the journal file ends with the gate after the entries of the accepted ones
abbrev pub counts : ℕ → Progress → Tally
counts made end = record {
  made = made;
  accepted = length end.accepted;
  refused = end.refused;
  nothing = end.nothing;
  versions = count_of Versions end.office;
  uploads = count_of Uploads end.office;
  journal = end_gate header end.accepted + 1;
}

-- the progress after this many commands of a number
abbrev pub progress : ℕ → ℕ → Progress
progress number count = after_entries at_first (generated number count)

-- the counts of a load: of this many commands of a number
abbrev pub tally : ℕ → ℕ → Tally
tally number count = counts count (progress number count)
