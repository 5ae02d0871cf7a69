-- How long an entry is.
use Rattle.std.proofs.Common.{◌≡◌, ℕ, ◌+◌, ◌*◌, ◌^◌, ◌<◌, ◌≤◌, true, false, ◌&&◌, List, [], ◌∷◌, ◌++◌, length, refl, ap, arith, length-append}
use Rattle.std.specs.Prelude.{nat_le, Option, Some, None, IfSome}
use Rattle.std.specs.List.{list_all, flat_map}
use Rattle.std.proofs.lemmas.Bool.Decides.{nat_tests}
use Rattle.std.proofs.lemmas.Bool.{and_parts}
use Rattle.office_base.specs.Tags.{Tag, is_tag, keys_rise}
use Rattle.office_base.proofs.Sizes.{name_small, key_small}
use Rattle.office_types.specs.declared.command.Command.{Command}
use Rattle.office_types.specs.declared.command.Entry.{Entry}
use Rattle.office_types.specs.Entries.{entry_with}
use Rattle.office_types.specs.Tokens.{IsToken}
use Rattle.office_types.proofs.Small.{token_small}
use Rattle.rules_json.proofs.ShortTexts.{printed_most, long_text}
use Rattle.std.specs.Int.{w8}
use Rattle.entry_codec.specs.Formats.{number}
use Rattle.entry_codec.specs.Fields.{Field, Name, Key, Size, Rank, Tags, Rules, Status, Id, Number4, Number8, Price, Tiers, Year, Month, ValueOf, format, moment_format, token_format, tag_format, tier_format, utf8_text}
use Rattle.entry_codec.specs.declared.kinds.Kind.{Kind}
use Rattle.entry_codec.specs.Kinds.{Values, Head, head_format, fields_of, parts_of}
use Rattle.entry_codec.specs.declared.kinds.Kind.TheVariants as kind
use Rattle.entry_codec.specs.Spelling.{written_values, are_values, fields_spelling, head_spelling, command_spelling, CommandFits, IsEntry, EntryFits, entry_limit, spelling}
use Rattle.tariff.specs.Prices.{are_tiers}
use Rattle.tariff.specs.declared.tiers.Tier.{Tier}
use Rattle.entry_codec.proofs.FieldLaws.{few, up_to_eight, kept}

-- ---- fields

pub tag_parts_small : (t : Tag) → is_tag t ≡ true → (length t.0 ≤ 512) × (length t.1 ≤ 1_024)
unfolding is_tag
tag_parts_small t is =
    let values = and_parts _ _ is in
    let longest = and_parts _ _ values.0 in
    let least = and_parts _ _ longest.0 in
    let texts = and_parts _ _ least.0 in
    (long_text t.0 128 texts.0 longest.1, long_text t.1 256 texts.1 values.1)

tag_small : (t : Tag) → is_tag t ≡ true → length (tag_format.written t) ≤ 1_540
unfolding tag_format utf8_text
tag_small t is = omega (arith, tag_parts_small t is, length-append (utf8_text.written t.0) (utf8_text.written t.1))

all_small : (tags : List Tag) → list_all is_tag tags ≡ true → length (flat_map tag_format.written tags) ≤ 1_540 * length tags
all_small [] all = omega arith
all_small (t ∷ tags) all =
    let parts = and_parts (is_tag t) (list_all is_tag tags) all in
    omega (arith, length-append (tag_format.written t) (flat_map tag_format.written tags), tag_small t parts.0, all_small tags parts.1)

tier_small : (t : Tier) → length (tier_format.written t) ≡ 8
unfolding tier_format
tier_small t = refl

tiers_small : (tiers : List Tier) → length (flat_map tier_format.written tiers) ≡ 8 * length tiers
tiers_small [] = refl
tiers_small (t ∷ tiers) = omega (arith, length-append (tier_format.written t) (flat_map tier_format.written tiers), tier_small t, tiers_small tiers)

-- the most bytes that each field has
abbrev most : Field → ℕ
most Name = 65
most Key = 1_026
most Size = 8
most Rank = 1
most Tags = 15_401
most Rules = 170_001_654
most Status = 1
most Id = 8
most Number4 = 4
most Number8 = 8
most Price = 4
most Tiers = 65
most Year = 2
most Month = 1

value_small : (field : Field) (value : ValueOf field) → (format field).has value ≡ true → length ((format field).written value) ≤ most field
unfolding format
value_small Name value has = omega (arith, name_small value (and_parts _ _ has).1)
value_small Key value has = omega (arith, key_small value (and_parts _ _ has).1)
value_small Size value has = omega arith
value_small Rank value has = omega arith
value_small Tags value has =
    let parts = and_parts (few.has (length value) && list_all tag_format.has value) (list_all is_tag value && keys_rise value) has in
    let count = and_parts (few.has (length value)) (list_all tag_format.has value) parts.0 in
    let ten : nat_le (length value) 10 ≡ true = (and_parts ((number w8).has (length value)) (nat_le (length value) 10) count.0).1 in
    let at_most : length value ≤ 10 = grind (arith, nat_tests) in
    omega (arith, at_most, all_small value (and_parts (list_all is_tag value) (keys_rise value) parts.1).0)
value_small Rules value has = omega (arith, printed_most value (kept value (and_parts _ _ has).1))
value_small Status value has = omega arith
value_small Id value has = omega arith
value_small Number4 value has = omega arith
value_small Number8 value has = omega arith
value_small Price value has = omega arith
value_small Tiers value has =
    let parts = and_parts (up_to_eight.has (length value) && list_all tier_format.has value) (are_tiers value) has in
    let count = and_parts (up_to_eight.has (length value)) (list_all tier_format.has value) parts.0 in
    let eight : nat_le (length value) 8 ≡ true = (and_parts ((number w8).has (length value)) (nat_le (length value) 8) count.0).1 in
    let at_most : length value ≤ 8 = grind (arith, nat_tests) in
    omega (arith, at_most, tiers_small value)
value_small Year value has = omega arith
value_small Month value has = omega arith

-- ---- entries

abbrev most_of : List Field → ℕ
most_of [] = 0
most_of (field ∷ fields) = most field + most_of fields

values_small : (fields : List Field) (values : Values fields) → are_values fields values ≡ true → length (written_values fields values) ≤ most_of fields
values_small [] values has = omega arith
values_small (field ∷ fields) values has =
    let parts = and_parts ((format field).has values.0) (are_values fields values.1) has in
    omega (arith, length-append ((format field).written values.0) (written_values fields values.1), value_small field values.0 parts.0, values_small fields values.1 parts.1)

head_small : (head : Head) → length (head_format.written head) ≡ 1
unfolding head_format
head_small head = refl

-- a kind has one byte, and a token with its length at most 65
heads_small : (token : Option (List ℕ)) (k : Kind) → IfSome token IsToken → length (head_spelling token k) ≤ 66
unfolding head_spelling token_format
heads_small None k is = omega (arith, head_small (k, false))
heads_small (Some token) k is =
    omega (arith, head_small (k, true), length-append (head_format.written (k, true)) (token_format.written token), length-append ((number w8).written (length token)) token, token_small token is)

heads_long : (token : Option (List ℕ)) (k : Kind) → 1 ≤ length (head_spelling token k)
unfolding head_spelling
heads_long None k = omega (arith, head_small (k, false))
heads_long (Some token) k = omega (arith, head_small (k, true), length-append (head_format.written (k, true)) (token_format.written token))

moment_small : (moment : ℕ) → length (moment_format.written moment) ≡ 8
unfolding moment_format
moment_small moment = refl

fields_small : (c : Command) → CommandFits c → length (fields_spelling c) ≤ most_of (fields_of (parts_of c).kind)
unfolding fields_spelling
fields_small c fits = values_small (fields_of (parts_of c).kind) (parts_of c).values fits.values

by_fields : (e : Entry) → EntryFits e → length (spelling e) ≤ 74 + most_of (fields_of (parts_of e.command).kind)
unfolding spelling command_spelling
by_fields e fits =
    let parts = parts_of e.command in
    omega (
      arith,
      length-append (moment_format.written e.moment) (head_spelling e.token parts.kind ++ fields_spelling e.command),
      length-append (head_spelling e.token parts.kind) (fields_spelling e.command),
      moment_small e.moment,
      heads_small e.token parts.kind fits.token,
      fields_small e.command fits.command,
    )

-- the most bytes of each row
row_most : (k : Kind) → most_of (fields_of k) ≤ 170_001_719
row_most kind.CreateBucket = omega arith
row_most kind.SetVersioning = omega arith
row_most kind.SetRules = omega arith
row_most kind.DropRules = omega arith
row_most kind.Put = omega arith
row_most kind.Delete = omega arith
row_most kind.DeleteVersion = omega arith
row_most kind.SetTags = omega arith
row_most kind.StartUpload = omega arith
row_most kind.PutPart = omega arith
row_most kind.Complete = omega arith
row_most kind.Abort = omega arith
row_most kind.Act = omega arith
row_most kind.SetTariff = omega arith
row_most kind.Close = omega arith
row_most kind.SetTiers = omega arith

spelling_most : (e : Entry) → EntryFits e → length (spelling e) ≤ 170_001_793
spelling_most e fits = omega (arith, by_fields e fits, row_most (parts_of e.command).kind)

pub spelling_short : (e : Entry) → EntryFits e → length (spelling e) ≤ entry_limit
spelling_short e fits = omega (arith, spelling_most e fits)

pub entry_small : (bytes : List ℕ) → IsEntry bytes → length bytes < 2 ^ 32
entry_small bytes is = omega (arith, ap length is.2, spelling_most is.0 is.1)

-- ---- entries that set no rules

-- all fields but rules are short
other_most : (k : Kind) → (k ≡ kind.SetRules → ⊥) → most_of (fields_of k) ≤ 16_501
other_most kind.CreateBucket other = omega arith
other_most kind.SetVersioning other = omega arith
other_most kind.SetRules other = absurd (other refl)
other_most kind.DropRules other = omega arith
other_most kind.Put other = omega arith
other_most kind.Delete other = omega arith
other_most kind.DeleteVersion other = omega arith
other_most kind.SetTags other = omega arith
other_most kind.StartUpload other = omega arith
other_most kind.PutPart other = omega arith
other_most kind.Complete other = omega arith
other_most kind.Abort other = omega arith
other_most kind.Act other = omega arith
other_most kind.SetTariff other = omega arith
other_most kind.Close other = omega arith
other_most kind.SetTiers other = omega arith

pub other_small : (e : Entry) → EntryFits e → ((parts_of e.command).kind ≡ kind.SetRules → ⊥) → length (spelling e) ≤ 16_575
other_small e fits other = omega (arith, by_fields e fits, other_most (parts_of e.command).kind other)

-- a moment and a kind
pub spelling_long : (e : Entry) → 9 ≤ length (spelling e)
unfolding spelling command_spelling
spelling_long e =
    let parts = parts_of e.command in
    omega (
      arith,
      length-append (moment_format.written e.moment) (head_spelling e.token parts.kind ++ fields_spelling e.command),
      length-append (head_spelling e.token parts.kind) (fields_spelling e.command),
      moment_small e.moment,
      heads_long e.token parts.kind,
    )

-- a moment has eight bytes, whichever it is
pub same_length : (t u : ℕ) (token : Option (List ℕ)) (c : Command) → length (spelling (entry_with t token c)) ≡ length (spelling (entry_with u token c))
unfolding spelling moment_format
same_length t u token c = refl
