-- The buckets and sizes of commands.
use Rattle.std.specs.Prelude.{◌≡◌, ℕ, ◌≤◌, ◌⊎◌, List, Option, Some, None}
use Rattle.std.specs.List.{AllByRecursion}
use Rattle.office_types.specs.declared.command.Command.{Command}
use Rattle.office_types.specs.declared.command.Command.TheVariants as command
use Rattle.office_types.specs.declared.command.Entry.{Entry}
use Rattle.plain_office.specs.Orderly.{SizeFits}

-- no entry puts an object above the largest size
abbrev pub SizesFit : List Entry → Type 0
SizesFit entries = AllByRecursion (λ entry. SizeFits entry.command) entries

-- the bucket that a command names
abbrev pub bucket_of : Command → Option (List ℕ)
bucket_of (command.CreateBucket name) = Some name
bucket_of (command.SetVersioning name enabled) = Some name
bucket_of (command.SetRules name rules) = Some name
bucket_of (command.DropRules name) = Some name
bucket_of (command.Put name key size class tags) = Some name
bucket_of (command.Delete name key) = Some name
bucket_of (command.DeleteVersion name key id) = Some name
bucket_of (command.SetTags name key id tags) = Some name
bucket_of (command.StartUpload name key class tags) = Some name
bucket_of (command.PutPart name upload part size) = Some name
bucket_of (command.Complete name upload) = Some name
bucket_of (command.Abort name upload) = Some name
bucket_of (command.Act name) = Some name
bucket_of (command.SetTariff tariff) = None
bucket_of (command.Close month) = None

-- the command names another bucket, or none
abbrev pub IsElsewhere : List ℕ → Command → Type 0
IsElsewhere name c = bucket_of c ≡ Some name → ⊥

-- the entry names another bucket or none, or is an act on the bucket no later than the moment u
abbrev pub OnlyActs : List ℕ → ℕ → Entry → Type 0
OnlyActs name u entry = IsElsewhere name entry.command ⊎ ((entry.command ≡ command.Act name) × (entry.moment ≤ u))
