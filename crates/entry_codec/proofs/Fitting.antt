-- Values in range are values of their fields, and commands of such values fit.
use Rattle.std.proofs.Common.{◌≡◌, ℕ, ◌^◌, ◌<◌, ◌≤◌, Bool, true, false, List, [], ◌∷◌, length, refl, ap, arith}
use Rattle.std.specs.List.{list_all}
use Rattle.std.proofs.lemmas.Bool.{lt-ltb, le-leb, and_parts, and_from}
use Rattle.std.proofs.lemmas.Bool.Decides.{nat_tests}
use Rattle.office_base.specs.Names.{IsBucketName}
use Rattle.office_base.specs.Keys.{IsKey}
use Rattle.office_base.specs.Sizes.{largest_size}
use Rattle.office_base.specs.Tags.{Tag, is_tag, AreTags}
use Rattle.office_base.proofs.Sizes.{name_small, key_small}
use Rattle.class_rules.specs.declared.class.Class.{Class}
use Rattle.class_rules.specs.declared.class.Class.TheVariants.{Standard, StandardIa, OnezoneIa, GlacierIr, Glacier, DeepArchive}
use Rattle.office_base.specs.declared.version_id.VersionId.{VersionId}
use Rattle.moments.specs.Months.{months, year_of, month_of_year, month_number}
use Rattle.rules_core.specs.Configurations.{Configuration}
use Rattle.office_types.specs.declared.command.Command.TheVariants as command
use Rattle.entry_codec.specs.Fields.{Name, Key, Size, Rank, Tags, Rules, Status, Id, Number4, Number8, Year, Month, format, id_code, is_id, utf8_text, tag_format}
use Rattle.entry_codec.specs.Spelling.{CommandFits}
use Rattle.entry_codec.proofs.Sizes.{tag_parts_small}

pub name_has : (t : List ℕ) → IsBucketName t → (format Name).has t ≡ true
unfolding format
name_has t is = and_from _ _ (lt-ltb (length t) (256 ^ 2) (omega (arith, name_small t is))) is

pub key_has : (t : List ℕ) → IsKey t → (format Key).has t ≡ true
unfolding format
key_has t is = and_from _ _ (lt-ltb (length t) (256 ^ 2) (omega (arith, key_small t is))) is

pub size_has : (size : ℕ) → size ≤ largest_size → (format Size).has size ≡ true
unfolding format
size_has size le = and_from _ _ (lt-ltb size (256 ^ 8) (omega (arith, le))) (le-leb size largest_size le)

pub rank_has : (class : Class) → (format Rank).has class ≡ true
unfolding format
rank_has Standard = refl
rank_has StandardIa = refl
rank_has OnezoneIa = refl
rank_has GlacierIr = refl
rank_has Glacier = refl
rank_has DeepArchive = refl

tag_has : (t : Tag) → is_tag t ≡ true → tag_format.has t ≡ true
unfolding tag_format utf8_text is_tag
tag_has t is =
    let small = tag_parts_small t is in
    let values = and_parts _ _ is in
    let longest = and_parts _ _ values.0 in
    let least = and_parts _ _ longest.0 in
    let texts = and_parts _ _ least.0 in
    and_from _ _ (and_from _ _ (lt-ltb (length t.0) (256 ^ 2) (omega (arith, small))) texts.0) (and_from _ _ (lt-ltb (length t.1) (256 ^ 2) (omega (arith, small))) texts.1)

all_have : (tags : List Tag) → list_all is_tag tags ≡ true → list_all tag_format.has tags ≡ true
all_have [] all = refl
all_have (t ∷ tags) all = let parts = and_parts (is_tag t) (list_all is_tag tags) all in and_from _ _ (tag_has t parts.0) (all_have tags parts.1)

pub tags_have : (tags : List Tag) → AreTags tags → (format Tags).has tags ≡ true
unfolding format
tags_have tags are =
    let count = and_from _ _ (lt-ltb (length tags) 256 (omega (arith, are.few))) (le-leb (length tags) 10 are.few) in
    and_from _ _ (and_from _ _ count (all_have tags are.in_range)) (and_from _ _ are.in_range are.in_order)

pub status_has : (enabled : Bool) → (format Status).has enabled ≡ true
unfolding format
status_has true = refl
status_has false = refl

pub id_has : (id : VersionId) → id_code id < 2 ^ 64 → is_id id ≡ true → (format Id).has id ≡ true
unfolding format
id_has id small is = and_from _ _ (lt-ltb (id_code id) (256 ^ 8) (omega (arith, small))) is

pub number4_has : (n : ℕ) → n < 2 ^ 32 → (format Number4).has n ≡ true
unfolding format
number4_has n small = lt-ltb n (256 ^ 4) (omega (arith, small))

pub number8_has : (n : ℕ) → n < 2 ^ 64 → (format Number8).has n ≡ true
unfolding format
number8_has n small = lt-ltb n (256 ^ 8) (omega (arith, small))

-- ---- commands

pub create_bucket_fits : (bucket : List ℕ) → (format Name).has bucket ≡ true
    → CommandFits (command.CreateBucket bucket)
create_bucket_fits bucket h0 = record { values = and_from _ _ h0 refl; whole = refl }

pub set_versioning_fits : (bucket : List ℕ) (enabled : Bool) → (format Name).has bucket ≡ true → (format Status).has enabled ≡ true
    → CommandFits (command.SetVersioning bucket enabled)
set_versioning_fits bucket enabled h0 h1 = record { values = and_from _ _ h0 (and_from _ _ h1 refl); whole = refl }

pub set_rules_fits : (bucket : List ℕ) (rules : Configuration) → (format Name).has bucket ≡ true → (format Rules).has rules ≡ true
    → CommandFits (command.SetRules bucket rules)
set_rules_fits bucket rules h0 h1 = record { values = and_from _ _ h0 (and_from _ _ h1 refl); whole = refl }

pub drop_rules_fits : (bucket : List ℕ) → (format Name).has bucket ≡ true
    → CommandFits (command.DropRules bucket)
drop_rules_fits bucket h0 = record { values = and_from _ _ h0 refl; whole = refl }

pub put_fits : (bucket : List ℕ) (key : List ℕ) (size : ℕ) (class : Class) (tags : List Tag)
    → (format Name).has bucket ≡ true → (format Key).has key ≡ true → (format Size).has size ≡ true
    → (format Rank).has class ≡ true → (format Tags).has tags ≡ true
    → CommandFits (command.Put bucket key size class tags)
put_fits bucket key size class tags h0 h1 h2 h3 h4 = record { values = and_from _ _ h0 (and_from _ _ h1 (and_from _ _ h2 (and_from _ _ h3 (and_from _ _ h4 refl)))); whole = refl }

pub delete_fits : (bucket : List ℕ) (key : List ℕ) → (format Name).has bucket ≡ true → (format Key).has key ≡ true
    → CommandFits (command.Delete bucket key)
delete_fits bucket key h0 h1 = record { values = and_from _ _ h0 (and_from _ _ h1 refl); whole = refl }

pub delete_version_fits : (bucket : List ℕ) (key : List ℕ) (id : VersionId) → (format Name).has bucket ≡ true → (format Key).has key ≡ true → (format Id).has id ≡ true
    → CommandFits (command.DeleteVersion bucket key id)
delete_version_fits bucket key id h0 h1 h2 = record { values = and_from _ _ h0 (and_from _ _ h1 (and_from _ _ h2 refl)); whole = refl }

pub set_tags_fits : (bucket : List ℕ) (key : List ℕ) (id : VersionId) (tags : List Tag)
    → (format Name).has bucket ≡ true → (format Key).has key ≡ true → (format Id).has id ≡ true
    → (format Tags).has tags ≡ true
    → CommandFits (command.SetTags bucket key id tags)
set_tags_fits bucket key id tags h0 h1 h2 h3 = record { values = and_from _ _ h0 (and_from _ _ h1 (and_from _ _ h2 (and_from _ _ h3 refl))); whole = refl }

pub start_upload_fits : (bucket : List ℕ) (key : List ℕ) (class : Class) (tags : List Tag)
    → (format Name).has bucket ≡ true → (format Key).has key ≡ true → (format Rank).has class ≡ true
    → (format Tags).has tags ≡ true
    → CommandFits (command.StartUpload bucket key class tags)
start_upload_fits bucket key class tags h0 h1 h2 h3 = record { values = and_from _ _ h0 (and_from _ _ h1 (and_from _ _ h2 (and_from _ _ h3 refl))); whole = refl }

pub put_part_fits : (bucket : List ℕ) (upload : ℕ) (part : ℕ) (size : ℕ) → (format Name).has bucket ≡ true
    → (format Number8).has upload ≡ true → (format Number4).has part ≡ true → (format Number8).has size ≡ true
    → CommandFits (command.PutPart bucket upload part size)
put_part_fits bucket upload part size h0 h1 h2 h3 = record { values = and_from _ _ h0 (and_from _ _ h1 (and_from _ _ h2 (and_from _ _ h3 refl))); whole = refl }

pub complete_fits : (bucket : List ℕ) (upload : ℕ) → (format Name).has bucket ≡ true → (format Number8).has upload ≡ true
    → CommandFits (command.Complete bucket upload)
complete_fits bucket upload h0 h1 = record { values = and_from _ _ h0 (and_from _ _ h1 refl); whole = refl }

pub abort_fits : (bucket : List ℕ) (upload : ℕ) → (format Name).has bucket ≡ true → (format Number8).has upload ≡ true
    → CommandFits (command.Abort bucket upload)
abort_fits bucket upload h0 h1 = record { values = and_from _ _ h0 (and_from _ _ h1 refl); whole = refl }

pub act_fits : (bucket : List ℕ) → (format Name).has bucket ≡ true
    → CommandFits (command.Act bucket)
act_fits bucket h0 = record { values = and_from _ _ h0 refl; whole = refl }

-- a month is told by its year and its month of the year
pub close_fits : (month : ℕ) → month < months → CommandFits (command.Close month)
unfolding format
close_fits month small =
    let whole : month_number (year_of month) (month_of_year month) ≡ month = omega arith in
    let year : (format Year).has (year_of month) ≡ true = grind (arith, nat_tests) in
    let of_year : (format Month).has (month_of_year month) ≡ true = grind (arith, nat_tests) in
    record { values = and_from _ _ year (and_from _ _ of_year refl); whole = ap command.Close whole }
