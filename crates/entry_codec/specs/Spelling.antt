-- The one spelling of each entry (own).
use Rattle.std.specs.Prelude.{◌≡◌, ℕ, ◌<◌, Bool, true, false, ◌&&◌, List, [], ◌∷◌, ◌++◌, Option, Some, None, IfSome}
use Rattle.moments.specs.Time.{end_of_time}
use Rattle.office_types.specs.declared.command.Command.{Command}
use Rattle.office_types.specs.declared.command.Entry.{Entry}
use Rattle.office_types.specs.Tokens.{IsToken, MayCarry}
use Rattle.entry_codec.specs.declared.kinds.Kind.{Kind}
use Rattle.entry_codec.specs.Fields.{Field, format, moment_format, token_format}
use Rattle.entry_codec.specs.Kinds.{head_format, fields_of, Values, parts_of, command_of}

-- the values of fields, one after the other
abbrev pub written_values : (fields : List Field) → Values fields → List ℕ
written_values [] none = []
written_values (field ∷ fields) (value, values) = (format field).written value ++ written_values fields values

-- the fields of a command
unfoldable pub fields_spelling : Command → List ℕ
fields_spelling c = let parts = parts_of c in written_values (fields_of parts.kind) parts.values

-- what comes before the fields: the kind, and the token, if there is one
unfoldable pub head_spelling : Option (List ℕ) → Kind → List ℕ
head_spelling None kind = head_format.written (kind, false)
head_spelling (Some token) kind = head_format.written (kind, true) ++ token_format.written token

-- a command, with a token or without
unfoldable pub command_spelling : Option (List ℕ) → Command → List ℕ
command_spelling token c = head_spelling token (parts_of c).kind ++ fields_spelling c

-- an entry: its moment, and its command
unfoldable pub spelling : Entry → List ℕ
spelling e = moment_format.written e.moment ++ command_spelling e.token e.command

-- the most bytes of an entry's spelling (own: 256 MiB, the first power of two above the 170,001,728 bytes of an entry
-- with 1,000 rules of 170,000 bytes each)
abbrev pub entry_limit : ℕ
entry_limit = 268_435_456

-- each value is in the range of its field
abbrev pub are_values : (fields : List Field) → Values fields → Bool
are_values [] none = true
are_values (field ∷ fields) (value, values) = (format field).has value && are_values fields values

-- the command's values are in range, and its kind and values give the same command again
pub record CommandFits (c : Command) : Type 0 where
  pub values : are_values (fields_of (parts_of c).kind) (parts_of c).values ≡ true
  pub whole : command_of (parts_of c).kind (parts_of c).values ≡ c

-- an entry as it is kept: all parts are in range, and there is a token only if the command may carry one
pub record EntryFits (e : Entry) : Type 0 where
  pub moment : e.moment < end_of_time
  pub token : IfSome e.token IsToken
  pub carries : MayCarry e.token e.command
  pub command : CommandFits e.command

-- the bytes spell an entry
abbrev pub IsEntry : List ℕ → Type 0
IsEntry bytes = (e : Entry) × EntryFits e × (bytes ≡ spelling e)
