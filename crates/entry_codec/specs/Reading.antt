-- Reading bytes from left to right, by the fields of the kind. A fault is the offset of the first invalid field, in
-- bytes from the first byte of the entry. Bytes after the last field count as an invalid field (own).
use Rattle.std.specs.Prelude.{◌≡◌, ℕ, zero, suc, ◌-◌, Bool, true, false, List, [], ◌∷◌, length, Option, Some, None, option_map, Result, Ok, Err, ok_or, ◌==◌}
use Rattle.std.specs.Prelude.{if◌then◌else◌}
use Rattle.office_base.specs.Results.{◌>>=◌, GivesBy}
use Rattle.office_types.specs.declared.command.Command.{Command}
use Rattle.office_types.specs.declared.command.Entry.{Entry}
use Rattle.entry_codec.specs.declared.fault.EntryFault.{EntryFault}
use Rattle.entry_codec.specs.declared.fault.EntryFault.TheVariants as faults
use Rattle.entry_codec.specs.Formats.{Format}
use Rattle.entry_codec.specs.Fields.{Field, format, moment_format, token_format}
use Rattle.entry_codec.specs.declared.kinds.Kind.{Kind}
use Rattle.entry_codec.specs.Kinds.{head_format, fields_of, Values, command_of, is_own}

-- the offset that a fault reports; none if memory ran out
abbrev pub fault_place : EntryFault → Option ℕ
fault_place (faults.BadEntry at) = Some at
fault_place faults.NoMemory = None

-- an answer, seen by view, is what reading gives, unless memory ran out
abbrev pub EntryGives : {X Y : Type 0} → (X → Y) → Result X EntryFault → Result Y ℕ → Type 0
EntryGives view answer read = GivesBy fault_place view answer read

-- what a function finds, seen by view, is the value at the front, unless memory ran out
abbrev pub Finds : {X Y E : Type 0} → (X → Y) → Result (Option X) E → Option Y → Type 0
Finds view (Ok found) front = front ≡ option_map view found
Finds view (Err e) front = Unit {0}

-- the offset of the bytes that are left, in an entry of this many bytes
abbrev pub place : ℕ → List ℕ → ℕ
place total bytes = total - length bytes

-- the value at the front of the bytes that are left, and the bytes after it; a fault at their offset if there is none
unfoldable pub value_at : {X : Type 0} → Format X → ℕ → List ℕ → Result (X × List ℕ) ℕ
value_at format total bytes = ok_or (format.front bytes) (place total bytes)

-- n values of one format, from left to right, and the bytes after them
unfoldable pub items_at : {X : Type 0} → Format X → ℕ → ℕ → List ℕ → Result (List X × List ℕ) ℕ
items_at format zero total bytes = Ok ([], bytes)
items_at format (suc n) total bytes = do
  first ← value_at format total bytes
  others ← items_at format n total first.1
  Ok (first.0 ∷ others.0, others.1)

-- a value for each field, from left to right, and the bytes after them
abbrev pub values_at : (fields : List Field) → ℕ → List ℕ → Result (Values fields × List ℕ) ℕ
values_at [] total bytes = Ok (tt, bytes)
values_at (field ∷ fields) total bytes = do
  first ← value_at (format field) total bytes
  others ← values_at fields total first.1
  Ok ((first.0, others.0), others.1)

-- the command of a kind with the fields at the front, and the bytes after them; if the fields belong to another kind,
-- the fault is at the kind, the byte before them (own)
unfoldable pub kind_at : Kind → ℕ → List ℕ → Result (Command × List ℕ) ℕ
kind_at kind total bytes = do
  read ← values_at (fields_of kind) total bytes
  if is_own kind read.0 then Ok (command_of kind read.0, read.1) else Err (place total bytes - 1)

-- the token, if the head says that there is one, and the bytes after it
unfoldable pub token_at : Bool → ℕ → List ℕ → Result (Option (List ℕ) × List ℕ) ℕ
token_at false total bytes = Ok (None, bytes)
token_at true total bytes = do
  read ← value_at token_format total bytes
  Ok (Some read.0, read.1)

-- a command: its head, its token, its fields, and no bytes after them
unfoldable pub command_at : ℕ → List ℕ → Result (Option (List ℕ) × Command) ℕ
command_at total bytes = do
  head ← value_at head_format total bytes
  token ← token_at head.0.1 total head.1
  command ← kind_at head.0.0 total token.1
  if length command.1 == 0 then Ok (token.0, command.0) else Err (place total command.1)

-- the entry that all the bytes spell
unfoldable pub entry_of : List ℕ → Result Entry ℕ
entry_of bytes = do
  moment ← value_at moment_format (length bytes) bytes
  command ← command_at (length bytes) moment.1
  Ok (record { moment = moment.0; token = command.0; command = command.1 })
