-- Each field keeps the laws of a format.
use Rattle.std.proofs.Common.{◌≡◌, ℕ, ◌+◌, ◌-◌, Bool, true, false, ◌&&◌, cond, eqb, if◌then◌else◌, List, [], ◌∷◌, Option, Some, None, Result, Ok, refl, sym, ap, subst, ◌∙◌, arith, is_none}
use Rattle.std.specs.Prelude.{option_and_then}
use Rattle.std.specs.Result.{result_ok}
use Rattle.std.specs.Str.{is_utf8, bytes_eq}
use Rattle.std.specs.List.{find, list_all}
use Rattle.std.proofs.lemmas.Bool.{eqb-true, ltb-false, and_parts, and_from}
use Rattle.std.proofs.lemmas.Slice.Eq.{bytes_eq-Decides}
use Rattle.std.proofs.lemmas.Bool.Decides.{nat_tests}
use Rattle.std.proofs.lemmas.Option.{same_Some, cond_some}
use Rattle.class_rules.specs.Classes.{rank_of}
use Rattle.class_rules.specs.declared.class.Class.{Class}
use Rattle.class_rules.specs.declared.class.Class.TheVariants.{Standard, StandardIa, OnezoneIa, GlacierIr, Glacier, DeepArchive}
use Rattle.office_base.specs.declared.version_id.VersionId.{VersionId}
use Rattle.office_base.specs.declared.version_id.VersionId.TheVariants as version
use Rattle.entry_codec.specs.Fields.{ranks, statuses, ids, utf8_text, tag_format, are_kept, is_configuration, if_printed, rules_texts, Field, Name, Key, Size, Rank, Tags, Rules, Status, Id, Number4}
use Rattle.entry_codec.specs.Fields.{Number8, Price, Tiers, Year, Month, format, moment_format, token_format, is_tier, tier_code, tier_value, tier_numbers, tier_format}
use Rattle.entry_codec.specs.declared.kinds.Kind.{Kind}
use Rattle.entry_codec.specs.Kinds.{all_kinds, kinds, kind_number, Head, head_number, is_head, head_of, heads, head_format}
use Rattle.entry_codec.specs.declared.kinds.Kind.TheVariants as kind
use Rattle.std.specs.Int.{w8, w16, w32, w64}
use Rattle.std.specs.Prelude.{nat_lt, nat_le}
use Rattle.moments.specs.Time.{end_of_time}
use Rattle.office_base.specs.Names.{is_bucket_name}
use Rattle.office_base.specs.Keys.{is_key}
use Rattle.office_base.specs.Sizes.{largest_size}
use Rattle.tariff.specs.Prices.{is_price, are_tiers}
use Rattle.tariff.specs.declared.tiers.Tier.{Tier}
use Rattle.office_types.specs.Tokens.{is_token}
use Rattle.rules_core.specs.Conditions.{first_flaw}
use Rattle.rules_core.specs.Configurations.{Configuration, has_name, has_midnights, has_texts, IsConfiguration}
use Rattle.rules_json.specs.Printing.{printed}
use Rattle.rules_json.specs.Reading.{rules_of}
use Rattle.rules_json.specs.declared.fault.RulesFault.{RulesFault}
use Rattle.entry_codec.specs.Formats.{Format, number, counted_text, ◌such_that◌, pair, list}
use Rattle.rules_json.proofs.Law.{printed_back}
use Rattle.moments.proofs.ReadBack.{read_back}
use Rattle.entry_codec.proofs.FormatLaws.{IsFormat, IsCode, number-IsFormat, text-IsFormat, such_that-IsFormat, pair-IsFormat, list-IsFormat, coded-IsFormat, wide8, wide16, wide32, wide64}

abbrev tier_with : Option ℕ → ℕ → Tier
tier_with upto price = record { upto = upto; price = price }

ranks-IsCode : IsCode ranks
ranks-IsCode = record { again = again; back = back }
  where
    again : (class : Class) → ranks.has class ≡ true → ranks.value (rank_of class) ≡ Some class
    again Standard has = refl
    again StandardIa has = refl
    again OnezoneIa has = refl
    again GlacierIr has = refl
    again Glacier has = refl
    again DeepArchive has = refl

    back : (rank : ℕ) (class : Class) → ranks.value rank ≡ Some class → (rank_of class ≡ rank) × (ranks.has class ≡ true)
    back rank class e = (grind (arith, nat_tests), refl)

statuses-IsCode : IsCode statuses
statuses-IsCode = record { again = again; back = back }
  where
    again : (enabled : Bool) → statuses.has enabled ≡ true → statuses.value (statuses.code enabled) ≡ Some enabled
    again true has = refl
    again false has = refl

    back : (n : ℕ) (enabled : Bool) → statuses.value n ≡ Some enabled → (statuses.code enabled ≡ n) × (statuses.has enabled ≡ true)
    back n true e = (grind (arith, nat_tests), refl)
    back n false e = (grind (arith, nat_tests), refl)

id_again : (n : ℕ) → ids.has (version.Number n) ≡ true → ids.value n ≡ Some (version.Number n)
id_again n has = let some : eqb n 0 ≡ false = grind (arith, nat_tests) in rw some refl

id_back : (b : Bool) (n : ℕ) (id : VersionId) → eqb n 0 ≡ b → Some (cond b version.Null (version.Number n)) ≡ Some id → (ids.code id ≡ n) × (ids.has id ≡ true)
id_back true n id test e = subst (λ (v : VersionId). (ids.code v ≡ n) × (ids.has v ≡ true)) (same_Some version.Null id e) (sym (eqb-true _ _ test), refl)
id_back false n id test e =
    let above : ids.has (version.Number n) ≡ true = grind (arith, nat_tests) in
    subst (λ (v : VersionId). (ids.code v ≡ n) × (ids.has v ≡ true)) (same_Some (version.Number n) id e) (refl, above)

ids-IsCode : IsCode ids
ids-IsCode = record { again = again; back = λ n id e. id_back (eqb n 0) n id refl e }
  where
    again : (id : VersionId) → ids.has id ≡ true → ids.value (ids.code id) ≡ Some id
    again version.Null has = refl
    again (version.Number n) has = id_again n has

tier_again : (upto : Option ℕ) (price : ℕ) → is_tier (record { upto = upto; price = price }) ≡ true
    → tier_value (tier_code (record { upto = upto; price = price })) ≡ Some (record { upto = upto; price = price })
tier_again None price has = refl
tier_again (Some n) price has = let some : eqb n 0 ≡ false = grind (arith, nat_tests) in rw some refl

tier_back : (b : Bool) (n price : ℕ) (tier : Tier) → eqb n 0 ≡ b → Some (tier_with (cond b None (Some n)) price) ≡ Some tier → (tier_code tier ≡ (n, price)) × (is_tier tier ≡ true)
tier_back true n price tier test e =
    subst (λ (t : Tier). (tier_code t ≡ (n, price)) × (is_tier t ≡ true)) (same_Some (tier_with None price) tier e) (ap (λ (k : ℕ). (k, price)) (sym (eqb-true _ _ test)), refl)
tier_back false n price tier test e =
    let above : nat_lt 0 n ≡ true = grind (arith, nat_tests) in
    subst (λ (t : Tier). (tier_code t ≡ (n, price)) × (is_tier t ≡ true)) (same_Some (tier_with (Some n) price) tier e) (refl, above)

tiers-IsCode : IsCode tier_numbers
tiers-IsCode = record {
  again = λ tier has. tier_again tier.upto tier.price has;
  back = λ numbers tier e. tier_back (eqb numbers.0 0) numbers.0 numbers.1 tier refl e;
}

-- what is found passes the test
found_by : {X : Type 0} (test : X → Bool) (y : X) (first : Bool) (later : Option X) (x : X) → test y ≡ first → (later ≡ Some x → test x ≡ true) → cond first (Some y) later ≡ Some x → test x ≡ true
found_by {X = X} test y true later x is others e = subst (λ (z : X). test z ≡ true) (same_Some y x e) is
found_by test y false later x is others e = others e

found_passes : {X : Type 0} (test : X → Bool) (xs : List X) (x : X) → find test xs ≡ Some x → test x ≡ true
found_passes test [] x e = absurd cc
found_passes test (y ∷ ys) x e = found_by test y (test y) (find test ys) x refl (found_passes test ys x) e

kinds-IsCode : IsCode kinds
kinds-IsCode = record { again = again; back = λ n k e. (eqb-true _ _ (found_passes (λ k. eqb (kind_number k) n) all_kinds k e), refl) }
  where
    again : (k : Kind) → kinds.has k ≡ true → kinds.value (kind_number k) ≡ Some k
    again kind.CreateBucket has = refl
    again kind.SetVersioning has = refl
    again kind.SetRules has = refl
    again kind.DropRules has = refl
    again kind.Put has = refl
    again kind.Delete has = refl
    again kind.DeleteVersion has = refl
    again kind.SetTags has = refl
    again kind.StartUpload has = refl
    again kind.PutPart has = refl
    again kind.Complete has = refl
    again kind.Abort has = refl
    again kind.Act has = refl
    again kind.SetTariff has = refl
    again kind.Close has = refl
    again kind.SetTiers has = refl

-- ---- configurations

-- each configuration is read again from its text
rules_back : (rules : Configuration) → IsConfiguration rules → rules_of (printed rules) ≡ Ok rules
rules_back = printed_back read_back

is_nothing : {A : Type 0} (o : Option A) → is_none o ≡ true → o ≡ None
is_nothing None is = refl
is_nothing (Some x) is = absurd cc

pub kept : (rules : Configuration) → is_configuration rules ≡ true → IsConfiguration rules
kept rules is =
    let last = and_parts (is_none (first_flaw rules.rules) && list_all has_name rules.rules && list_all has_midnights rules.rules) (list_all has_texts rules.rules) is in
    let third = and_parts (is_none (first_flaw rules.rules) && list_all has_name rules.rules) (list_all has_midnights rules.rules) last.0 in
    let second = and_parts (is_none (first_flaw rules.rules)) (list_all has_name rules.rules) third.0 in
    record { flawless = is_nothing (first_flaw rules.rules) second.0; named = second.1; midnights = third.1; texts = last.1 }

same_text : (t : List ℕ) → bytes_eq t t ≡ true
same_text t = (bytes_eq-Decides t t).1 refl

texts-IsCode : IsCode rules_texts
texts-IsCode = record { again = again; back = back }
  where
    again : (rules : Configuration) → is_configuration rules ≡ true → rules_texts.value (printed rules) ≡ Some rules
    again rules has =
        ap (λ (r : Result Configuration RulesFault). option_and_then (if_printed (printed rules)) (result_ok r)) (rules_back rules (kept rules has))
        ∙ ap (λ (b : Bool). if b then Some rules else None) (and_from _ _ has (same_text (printed rules)))

    found : (t : List ℕ) (o : Option Configuration) (rules : Configuration) → option_and_then (if_printed t) o ≡ Some rules → (printed rules ≡ t) × (is_configuration rules ≡ true)
    found t None rules e = absurd cc
    found t (Some read) rules e =
        let g = cond_some (is_configuration read && bytes_eq t (printed read)) read rules e in
        let parts = and_parts _ _ g.0 in
        subst (λ (r : Configuration). (printed r ≡ t) × (is_configuration r ≡ true)) g.1 (sym ((bytes_eq-Decides t (printed read)).0 parts.1), parts.0)

    back : (t : List ℕ) (rules : Configuration) → rules_texts.value t ≡ Some rules → (printed rules ≡ t) × (is_configuration rules ≡ true)
    back t rules e = found t (result_ok (rules_of t)) rules e

-- ---- fields

two_bytes : IsFormat (number w16)
two_bytes = number-IsFormat w16 wide16

two_byte_text : IsFormat (counted_text (number w16))
two_byte_text = text-IsFormat (number w16) two_bytes

name-IsFormat : IsFormat (format Name)
unfolding format
name-IsFormat = such_that-IsFormat (counted_text (number w16)) is_bucket_name two_byte_text

key-IsFormat : IsFormat (format Key)
unfolding format
key-IsFormat = such_that-IsFormat (counted_text (number w16)) is_key two_byte_text

size-IsFormat : IsFormat (format Size)
unfolding format
size-IsFormat = such_that-IsFormat (number w64) (λ size. nat_le size largest_size) (number-IsFormat w64 wide64)

rank-IsFormat : IsFormat (format Rank)
unfolding format
rank-IsFormat = coded-IsFormat (number w8) ranks (number-IsFormat w8 wide8) ranks-IsCode

abbrev pub few : Format ℕ
few = number w8 such_that λ n. nat_le n 10

utf8-IsFormat : IsFormat utf8_text
unfolding utf8_text
utf8-IsFormat = such_that-IsFormat (counted_text (number w16)) is_utf8 two_byte_text

tag-IsFormat : IsFormat tag_format
unfolding tag_format
tag-IsFormat = pair-IsFormat utf8_text utf8_text utf8-IsFormat utf8-IsFormat

tags-IsFormat : IsFormat (format Tags)
unfolding format
tags-IsFormat =
    let count = such_that-IsFormat (number w8) (λ n. nat_le n 10) (number-IsFormat w8 wide8) in
    such_that-IsFormat (list few tag_format) are_kept (list-IsFormat few tag_format count tag-IsFormat)

abbrev pub up_to_eight : Format ℕ
up_to_eight = number w8 such_that λ n. nat_le n 8

pub tier-IsFormat : IsFormat tier_format
unfolding tier_format
tier-IsFormat =
    let four = number-IsFormat w32 wide32 in
    coded-IsFormat (pair (number w32) (number w32)) tier_numbers (pair-IsFormat (number w32) (number w32) four four) tiers-IsCode

tiers-IsFormat : IsFormat (format Tiers)
unfolding format
tiers-IsFormat =
    let count = such_that-IsFormat (number w8) (λ n. nat_le n 8) (number-IsFormat w8 wide8) in
    such_that-IsFormat (list up_to_eight tier_format) are_tiers (list-IsFormat up_to_eight tier_format count tier-IsFormat)

pub format-IsFormat : (field : Field) → IsFormat (format field)
unfolding format
format-IsFormat Name = name-IsFormat
format-IsFormat Key = key-IsFormat
format-IsFormat Size = size-IsFormat
format-IsFormat Rank = rank-IsFormat
format-IsFormat Tags = tags-IsFormat
format-IsFormat Rules = coded-IsFormat (counted_text (number w32)) rules_texts (text-IsFormat (number w32) (number-IsFormat w32 wide32)) texts-IsCode
format-IsFormat Status = coded-IsFormat (number w8) statuses (number-IsFormat w8 wide8) statuses-IsCode
format-IsFormat Id = coded-IsFormat (number w64) ids (number-IsFormat w64 wide64) ids-IsCode
format-IsFormat Number4 = number-IsFormat w32 wide32
format-IsFormat Number8 = number-IsFormat w64 wide64
format-IsFormat Price = such_that-IsFormat (number w32) is_price (number-IsFormat w32 wide32)
format-IsFormat Tiers = tiers-IsFormat
format-IsFormat Year = such_that-IsFormat (number w16) (λ year. nat_le 1970 year && nat_le year 2099) two_bytes
format-IsFormat Month = such_that-IsFormat (number w8) (λ month. nat_le 1 month && nat_le month 12) (number-IsFormat w8 wide8)

pub moment-IsFormat : IsFormat moment_format
unfolding moment_format
moment-IsFormat = such_that-IsFormat (number w64) (λ moment. nat_lt moment end_of_time) (number-IsFormat w64 wide64)

-- the number of a kind that was read, with a token after it or without
head_number_of : (n : ℕ) (token : Bool) (o : Option Kind) (head : Head) → ((k : Kind) → o ≡ Some k → kind_number k ≡ n) → head_of token o ≡ Some head
    → (head_number head ≡ cond token (n + 0x80) n) × (is_head head ≡ true)
head_number_of n token None head back e = absurd cc
head_number_of n token (Some k) head back e = by token (is_head (k, token)) refl e where
  by : (token b : Bool) → is_head (k, token) ≡ b → cond b (Some (k, token)) None ≡ Some head → (head_number head ≡ cond token (n + 0x80) n) × (is_head head ≡ true)
  by token false is e = absurd cc
  by false true is e = subst (λ (h : Head). (head_number h ≡ n) × (is_head h ≡ true)) (same_Some (k, false) head e) (back k refl, is)
  by true true is e = subst (λ (h : Head). (head_number h ≡ n + 0x80) × (is_head h ≡ true)) (same_Some (k, true) head e) (ap (λ (m : ℕ). m + 0x80) (back k refl), is)

heads-IsCode : IsCode heads
heads-IsCode = record { again = again; back = λ n head e. by n head (nat_lt n 0x80) refl e }
  where
    again : (head : Head) → is_head head ≡ true → heads.value (head_number head) ≡ Some head
    again (kind.CreateBucket, false) has = refl
    again (kind.CreateBucket, true) has = refl
    again (kind.SetVersioning, false) has = refl
    again (kind.SetVersioning, true) has = refl
    again (kind.SetRules, false) has = refl
    again (kind.SetRules, true) has = absurd cc
    again (kind.DropRules, false) has = refl
    again (kind.DropRules, true) has = refl
    again (kind.Put, false) has = refl
    again (kind.Put, true) has = refl
    again (kind.Delete, false) has = refl
    again (kind.Delete, true) has = refl
    again (kind.DeleteVersion, false) has = refl
    again (kind.DeleteVersion, true) has = refl
    again (kind.SetTags, false) has = refl
    again (kind.SetTags, true) has = refl
    again (kind.StartUpload, false) has = refl
    again (kind.StartUpload, true) has = refl
    again (kind.PutPart, false) has = refl
    again (kind.PutPart, true) has = refl
    again (kind.Complete, false) has = refl
    again (kind.Complete, true) has = refl
    again (kind.Abort, false) has = refl
    again (kind.Abort, true) has = refl
    again (kind.Act, false) has = refl
    again (kind.Act, true) has = absurd cc
    again (kind.SetTariff, false) has = refl
    again (kind.SetTariff, true) has = absurd cc
    again (kind.Close, false) has = refl
    again (kind.Close, true) has = refl
    again (kind.SetTiers, false) has = refl
    again (kind.SetTiers, true) has = absurd cc

    by : (n : ℕ) (head : Head) (b : Bool) → nat_lt n 0x80 ≡ b → cond b (head_of false (kinds.value n)) (head_of true (kinds.value (n - 0x80))) ≡ Some head
        → (head_number head ≡ n) × (is_head head ≡ true)
    by n head true is e = head_number_of n false (kinds.value n) head (λ k found. (kinds-IsCode.back n k found).0) e
    by n head false is e =
        let from = ltb-false n 0x80 is in
        let same : (n - 0x80) + 0x80 ≡ n = omega (arith, from) in
        subst (λ (m : ℕ). (head_number head ≡ m) × (is_head head ≡ true)) same
        (head_number_of (n - 0x80) true (kinds.value (n - 0x80)) head (λ k found. (kinds-IsCode.back (n - 0x80) k found).0) e)

pub head-IsFormat : IsFormat head_format
unfolding head_format
head-IsFormat = coded-IsFormat (number w8) heads (number-IsFormat w8 wide8) heads-IsCode

pub token-IsFormat : IsFormat token_format
unfolding token_format
token-IsFormat = such_that-IsFormat (counted_text (number w8)) is_token (text-IsFormat (number w8) (number-IsFormat w8 wide8))
