-- The kinds of entries. Each has a number and fields (own), and stands for one command.
use Rattle.std.specs.Prelude.{ℕ, ◌+◌, ◌-◌, ◌==◌, nat_lt, Bool, true, false, not, ◌&&◌, List, [], ◌∷◌, ◌++◌, length, map, slice_index, get_or, Option, Some, None, if◌then◌else◌}
use Rattle.std.specs.Int.{w8}
use Rattle.std.specs.List.{find, repeat, list_all}
use Rattle.moments.specs.Months.{year_of, month_of_year, month_number}
use Rattle.tariff.specs.Prices.{Prices, one_tier}
use Rattle.tariff.specs.declared.tiers.Tier.{Tier}
use Rattle.office_types.specs.declared.command.Command.{Command}
use Rattle.office_types.specs.declared.command.Command.TheVariants as command
use Rattle.entry_codec.specs.declared.kinds.Kind.{Kind}
use Rattle.entry_codec.specs.declared.kinds.Kind.TheVariants.{CreateBucket, SetVersioning, SetRules, DropRules, Put, Delete, DeleteVersion}
use Rattle.entry_codec.specs.declared.kinds.Kind.TheVariants.{SetTags, StartUpload, PutPart, Complete, Abort, Act, SetTariff, Close, SetTiers}
use Rattle.entry_codec.specs.Formats.{Format, number, Code, coded}
use Rattle.entry_codec.specs.Fields.{Field, Name, Key, Size, Rank, Tags, Rules, Status, Id, Number4, Number8, Price, Tiers, Year, Month, ValueOf}

-- all kinds
abbrev pub all_kinds : List Kind
all_kinds =
    CreateBucket ∷ SetVersioning ∷ SetRules ∷ DropRules ∷ Put ∷ Delete ∷ DeleteVersion ∷ SetTags
    ∷ StartUpload ∷ PutPart ∷ Complete ∷ Abort ∷ Act ∷ SetTariff ∷ Close ∷ SetTiers ∷ []

-- the number of each kind, and its fields
abbrev pub row : Kind → ℕ × List Field
row CreateBucket = (0x01, Name ∷ [])
row SetVersioning = (0x02, Name ∷ Status ∷ [])
row SetRules = (0x03, Name ∷ Rules ∷ [])
row DropRules = (0x04, Name ∷ [])
row Put = (0x05, Name ∷ Key ∷ Size ∷ Rank ∷ Tags ∷ [])
row Delete = (0x06, Name ∷ Key ∷ [])
row DeleteVersion = (0x07, Name ∷ Key ∷ Id ∷ [])
row SetTags = (0x08, Name ∷ Key ∷ Id ∷ Tags ∷ [])
row StartUpload = (0x09, Name ∷ Key ∷ Rank ∷ Tags ∷ [])
row PutPart = (0x0A, Name ∷ Number8 ∷ Number4 ∷ Number8 ∷ [])
row Complete = (0x0B, Name ∷ Number8 ∷ [])
row Abort = (0x0C, Name ∷ Number8 ∷ [])
row Act = (0x0D, Name ∷ [])
row SetTariff = (0x0E, repeat 11 (Price ∷ []))
row Close = (0x0F, Year ∷ Month ∷ [])
row SetTiers = (0x10, Year ∷ Month ∷ repeat 6 (Tiers ∷ []) ++ repeat 5 (Price ∷ []))

-- the number of a kind
abbrev pub kind_number : Kind → ℕ
kind_number kind = (row kind).0

-- the fields of a kind, in the order in which an entry has them
abbrev pub fields_of : Kind → List Field
fields_of kind = (row kind).1

-- a kind by its number
abbrev pub kinds : Code ℕ Kind
kinds = record {
  code = kind_number;
  has = λ kind. true;
  value = λ n. find (λ kind. kind_number kind == n) all_kinds;
}

-- the kinds whose commands may carry a token (own)
abbrev pub carries_token : Kind → Bool
carries_token SetRules = false
carries_token Act = false
carries_token SetTariff = false
carries_token SetTiers = false
carries_token other = true

-- what an entry's command begins with: its kind, and whether a token follows
abbrev pub Head : Type 0
Head = Kind × Bool

-- the number of a kind, or 80 (hexadecimal) more with a token (own)
abbrev pub head_number : Head → ℕ
head_number (kind, false) = kind_number kind
head_number (kind, true) = kind_number kind + 0x80

-- a token follows only a kind that may carry one
abbrev pub is_head : Head → Bool
is_head (kind, false) = true
is_head (kind, true) = carries_token kind

-- the head of a kind that was read, if there is such a head
abbrev pub head_of : Bool → Option Kind → Option Head
head_of token None = None
head_of token (Some kind) = if is_head (kind, token) then Some (kind, token) else None

-- heads by their numbers
abbrev pub heads : Code ℕ Head
heads = record {
  code = head_number;
  has = is_head;
  value = λ n. if nat_lt n 0x80 then head_of false (kinds.value n) else head_of true (kinds.value (n - 0x80));
}

-- the head of a command
unfoldable pub head_format : Format Head
head_format = coded (number w8) heads

-- ---- commands

-- a value for each field
abbrev pub Values : List Field → Type 0
Values [] = Unit {0}
Values (field ∷ fields) = ValueOf field × Values fields

-- a kind, and a value for each of its fields
pub record CommandParts : Type 0 where
  pub kind : Kind
  pub values : Values (fields_of kind)

-- ---- tariffs, which have two kinds

-- there is one tier, for any quantity
abbrev pub has_one : List Tier → Bool
has_one tiers = length tiers == 1

-- a tariff that holds at all times, with one price for each class; only such a tariff has the shorter kind (own)
abbrev pub is_plain : Prices → Bool
is_plain tariff = (tariff.from == 0) && list_all has_one tariff.storage

-- the price of the first tier; 0 if there is none
abbrev pub first_price : List Tier → ℕ
first_price [] = 0
first_price (tier ∷ tiers) = tier.price

-- the prices of storage and of moves
abbrev pub plain_values : Prices → Values (fields_of SetTariff)
plain_values tariff =
    let s = slice_index (map first_price tariff.storage) in
    let t = slice_index tariff.transition in
    (s 0, (s 1, (s 2, (s 3, (s 4, (s 5, (t 0, (t 1, (t 2, (t 3, (t 4, tt)))))))))))

-- the first month, the tiers of storage, and the prices of moves
abbrev pub tiered_values : Prices → Values (fields_of SetTiers)
tiered_values tariff =
    let s = λ (i : ℕ). get_or tariff.storage i [] in
    let t = slice_index tariff.transition in (
      year_of tariff.from,
      (
        month_of_year tariff.from,
        (s 0, (s 1, (s 2, (s 3, (s 4, (s 5, (t 0, (t 1, (t 2, (t 3, (t 4, tt))))))))))),
      ),
    )

-- the parts of a tariff, under its kind
abbrev pub tariff_parts : Prices → CommandParts
tariff_parts tariff =
    if is_plain tariff then record { kind = SetTariff; values = plain_values tariff }
    else record { kind = SetTiers; values = tiered_values tariff }

-- the parts of a command, each value under its field
abbrev pub parts_of : Command → CommandParts
parts_of (command.CreateBucket bucket) = record { kind = CreateBucket; values = (bucket, tt) }
parts_of (command.SetVersioning bucket enabled) = record { kind = SetVersioning; values = (bucket, (enabled, tt)) }
parts_of (command.SetRules bucket rules) = record { kind = SetRules; values = (bucket, (rules, tt)) }
parts_of (command.DropRules bucket) = record { kind = DropRules; values = (bucket, tt) }
parts_of (command.Put bucket key size class tags) =
    record { kind = Put; values = (bucket, (key, (size, (class, (tags, tt))))) }
parts_of (command.Delete bucket key) = record { kind = Delete; values = (bucket, (key, tt)) }
parts_of (command.DeleteVersion bucket key id) = record { kind = DeleteVersion; values = (bucket, (key, (id, tt))) }
parts_of (command.SetTags bucket key id tags) = record { kind = SetTags; values = (bucket, (key, (id, (tags, tt)))) }
parts_of (command.StartUpload bucket key class tags) =
    record { kind = StartUpload; values = (bucket, (key, (class, (tags, tt)))) }
parts_of (command.PutPart bucket upload part size) =
    record { kind = PutPart; values = (bucket, (upload, (part, (size, tt)))) }
parts_of (command.Complete bucket upload) = record { kind = Complete; values = (bucket, (upload, tt)) }
parts_of (command.Abort bucket upload) = record { kind = Abort; values = (bucket, (upload, tt)) }
parts_of (command.Act bucket) = record { kind = Act; values = (bucket, tt) }
parts_of (command.SetTariff tariff) = tariff_parts tariff
parts_of (command.Close month) = record { kind = Close; values = (year_of month, (month_of_year month, tt)) }

-- the command of a kind with these values
abbrev pub command_of : (kind : Kind) → Values (fields_of kind) → Command
command_of CreateBucket (bucket, none) = command.CreateBucket bucket
command_of SetVersioning (bucket, (enabled, none)) = command.SetVersioning bucket enabled
command_of SetRules (bucket, (rules, none)) = command.SetRules bucket rules
command_of DropRules (bucket, none) = command.DropRules bucket
command_of Put (bucket, (key, (size, (class, (tags, none))))) = command.Put bucket key size class tags
command_of Delete (bucket, (key, none)) = command.Delete bucket key
command_of DeleteVersion (bucket, (key, (id, none))) = command.DeleteVersion bucket key id
command_of SetTags (bucket, (key, (id, (tags, none)))) = command.SetTags bucket key id tags
command_of StartUpload (bucket, (key, (class, (tags, none)))) = command.StartUpload bucket key class tags
command_of PutPart (bucket, (upload, (part, (size, none)))) = command.PutPart bucket upload part size
command_of Complete (bucket, (upload, none)) = command.Complete bucket upload
command_of Abort (bucket, (upload, none)) = command.Abort bucket upload
command_of Act (bucket, none) = command.Act bucket
command_of SetTariff (a, (b, (c, (d, (e, (f, (g, (h, (i, (j, (k, none))))))))))) =
    command.SetTariff (record {
      from = 0;
      storage = map one_tier (a ∷ b ∷ c ∷ d ∷ e ∷ f ∷ []);
      transition = g ∷ h ∷ i ∷ j ∷ k ∷ [];
    })
command_of Close (year, (month, none)) = command.Close (month_number year month)
command_of SetTiers (year, (month, (a, (b, (c, (d, (e, (f, (g, (h, (i, (j, (k, none))))))))))))) =
    command.SetTariff (record {
      from = month_number year month;
      storage = a ∷ b ∷ c ∷ d ∷ e ∷ f ∷ [];
      transition = g ∷ h ∷ i ∷ j ∷ k ∷ [];
    })

-- a command that is not written with the longer kind of a tariff (own)
abbrev pub is_plain_command : Command → Bool
is_plain_command (command.SetTariff tariff) = is_plain tariff
is_plain_command other = true

-- these values belong to this kind: those of the longer kind of a tariff are not what the shorter kind can write
abbrev pub is_own : (kind : Kind) → Values (fields_of kind) → Bool
is_own SetTiers values = not (is_plain_command (command_of SetTiers values))
is_own other values = true
