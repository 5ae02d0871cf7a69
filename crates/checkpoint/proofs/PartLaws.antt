-- Each part of a body has one spelling, and is read back as it was written.
use Rattle.std.proofs.Common.{◌≡◌, ℕ, ◌+◌, ◌*◌, ◌/◌, ◌%◌, ◌-◌, ◌^◌, ◌<◌, Bool, true, false, ◌&&◌, not, cond, if◌then◌else◌, eqb, List, [], ◌∷◌, ◌++◌, length, map, Option, Some, None, refl, sym, ap, subst, ◌∙◌, append_assoc, arith}
use Rattle.std.specs.Prelude.{nat_lt, is_none, option_and_then, Result, Ok}
use Rattle.std.specs.Result.{result_ok}
use Rattle.std.specs.Int.{w8, w16, w32, w64, to_be_bytes}
use Rattle.std.specs.Str.{bytes_eq}
use Rattle.std.proofs.lemmas.List.{length-map}
use Rattle.std.proofs.lemmas.Bool.{and_parts, and_from, eqb-true, ltb-true}
use Rattle.std.proofs.lemmas.Bool.Decides.{nat_tests}
use Rattle.std.proofs.lemmas.Option.{same_Some}
use Rattle.std.proofs.lemmas.Slice.Eq.{bytes_eq-Decides}
use Rattle.moments.specs.Time.{end_of_time}
use Rattle.moments.specs.Months.{months, year_of, month_of_year, month_number, has_month}
use Rattle.stacks.specs.declared.version.Versioning.{Versioning}
use Rattle.stacks.specs.declared.version.Versioning.TheVariants.{Unversioned, Enabled, Suspended}
use Rattle.stacks.specs.declared.version.Kind.{Kind}
use Rattle.stacks.specs.declared.version.Kind.TheVariants.{Object, Marker}
use Rattle.stacks.specs.declared.version.Version.{Version}
use Rattle.accrual.specs.declared.monthly.MonthSums.{MonthSums}
use Rattle.rules_core.specs.Configurations.{Configuration}
use Rattle.rules_json.specs.Printing.{printed}
use Rattle.office_types.specs.Tokens.{takes_token}
use Rattle.office_types.specs.declared.command.Command.{Command}
use Rattle.office_types.specs.declared.command.Command.TheVariants as command
use Rattle.office_types.specs.declared.command.Entry.{Entry}
use Rattle.entry_codec.specs.Formats.{◌>>=◌, number, pair}
use Rattle.entry_codec.specs.Fields as field
use Rattle.entry_codec.specs.Fields.{format, moment_format}
use Rattle.entry_codec.specs.Kinds.{parts_of, fields_of, command_of}
use Rattle.entry_codec.specs.Reading.{entry_of}
use Rattle.entry_codec.specs.Spelling.{are_values, command_spelling, spelling, CommandFits, EntryFits}
use Rattle.entry_codec.proofs.Bytes.{IsBytes}
use Rattle.entry_codec.proofs.FormatLaws.{IsFormat, IsCode, bind_some, number-IsFormat, pair-IsFormat, list-IsFormat, coded-IsFormat, text-IsFormat, such_that-IsFormat, wide8, wide16, wide32, wide64}
use Rattle.entry_codec.proofs.FieldLaws.{format-IsFormat, moment-IsFormat, token-IsFormat}
use Rattle.entry_codec.proofs.Laws.{entry_again}
use Rattle.checkpoint.specs.Combining.{exactly}
use Rattle.checkpoint.specs.Parts.{four, eight, halves, sixteen, last_code, last_has, last_value, lasts, last_format, months_code, month_format, open_code, open_has, open_value, opens, open_format, tariff_format}
use Rattle.checkpoint.specs.Parts.{version_head, object_format, object_or_none, VersionParts, is_marker, object_of, version_value, versions_code, version_format, stack_format, stacks_format, part_format, upload_parts_format, fields_format, upload_format, uploads_format}
use Rattle.checkpoint.specs.Parts.{Triple, triples, are_six, sums_with, month_parts, sums_format, versioning_code, versioning_value, versionings, rules_written, rules_has, rules_front, rules_format, head_format}
use Rattle.checkpoint.specs.Parts.{is_kept_command, if_spelled, command_texts, command_format, kept_format}
use Rattle.checkpoint.proofs.CombiningLaws.{after-IsFormat, exactly-IsFormat, as_some-IsFormat, as_none-IsFormat, renamed-IsCode, flag-IsFormat}

-- ---- numbers and moments

pub four-IsFormat : IsFormat four
unfolding four
four-IsFormat = number-IsFormat w32 wide32

eight-IsFormat : IsFormat eight
unfolding eight
eight-IsFormat = number-IsFormat w64 wide64

-- the value of a test that let it through
passed : {A : Type 0} (b : Bool) (x y : A) → cond b (Some x) None ≡ Some y → (b ≡ true) × (x ≡ y)
passed true x y e = (refl, same_Some x y e)
passed false x y e = absurd cc

let_through : {A : Type 0} (b : Bool) (x : A) → b ≡ true → cond b (Some x) None ≡ Some x
let_through b x is = rw is refl

halves-IsCode : IsCode halves
halves-IsCode = record { again = again; back = back }
  where
    again : (n : ℕ) → halves.has n ≡ true → halves.value (halves.code n) ≡ Some n
    again n has =
        let low : nat_lt (n % 2 ^ 64) (2 ^ 64) ≡ true = grind (arith, nat_tests) in
        let same : n / 2 ^ 64 * 2 ^ 64 + n % 2 ^ 64 ≡ n = omega arith in
        let_through (nat_lt (n % 2 ^ 64) (2 ^ 64)) (n / 2 ^ 64 * 2 ^ 64 + n % 2 ^ 64) low ∙ ap (λ (k : ℕ). Some k) same

    back : (x : ℕ × ℕ) (n : ℕ) → halves.value x ≡ Some n → (halves.code n ≡ x) × (halves.has n ≡ true)
    back (hi, lo) n e =
        let p = passed (nat_lt lo (2 ^ 64)) (hi * 2 ^ 64 + lo) n e in
        let low : lo < 2 ^ 64 = ltb-true _ _ p.0 in
        let upper : n / 2 ^ 64 ≡ hi = omega (arith, p.1, low) in
        let lower : n % 2 ^ 64 ≡ lo = omega (arith, p.1, low) in
        (λ i. (upper i, lower i), refl)

sixteen-IsFormat : IsFormat sixteen
unfolding sixteen
sixteen-IsFormat = coded-IsFormat (pair eight eight) halves (pair-IsFormat eight eight eight-IsFormat eight-IsFormat) halves-IsCode

lasts-IsCode : IsCode lasts
lasts-IsCode = record { again = again; back = back }
  where
    again : (o : Option ℕ) → last_has o ≡ true → last_value (last_code o) ≡ Some o
    again None has = refl
    again (Some n) has =
        let other : eqb n (2 ^ 64 - 1) ≡ false = grind (arith, nat_tests) in
        rw (other, has) refl

    by_test : (b c : Bool) (n : ℕ) (o : Option ℕ) → eqb n (2 ^ 64 - 1) ≡ b → nat_lt n end_of_time ≡ c → cond b (Some None) (cond c (Some (Some n)) None) ≡ Some o
        → (last_code o ≡ n) × (last_has o ≡ true)
    by_test true c n o b_is c_is e = subst (λ (x : Option ℕ). (last_code x ≡ n) × (last_has x ≡ true)) (same_Some None o e) (sym (eqb-true _ _ b_is), refl)
    by_test false true n o b_is c_is e = subst (λ (x : Option ℕ). (last_code x ≡ n) × (last_has x ≡ true)) (same_Some (Some n) o e) (refl, c_is)
    by_test false false n o b_is c_is e = absurd cc

    back : (n : ℕ) (o : Option ℕ) → last_value n ≡ Some o → (last_code o ≡ n) × (last_has o ≡ true)
    back n o e = by_test (eqb n (2 ^ 64 - 1)) (nat_lt n end_of_time) n o refl refl e

pub last-IsFormat : IsFormat last_format
unfolding last_format
last-IsFormat = coded-IsFormat eight lasts eight-IsFormat lasts-IsCode

-- a month is that of its year and its month of the year
month_same : (month : ℕ) → month_number (year_of month) (month_of_year month) ≡ month
month_same month = omega arith

month_in : (month : ℕ) → nat_lt month months ≡ true → has_month (year_of month) (month_of_year month) ≡ true
month_in month has = grind (arith, nat_tests)

year_back : (year month : ℕ) → has_month year month ≡ true → year_of (month_number year month) ≡ year
year_back year month has = grind (arith, nat_tests)

month_back : (year month : ℕ) → has_month year month ≡ true → month_of_year (month_number year month) ≡ month
month_back year month has = grind (arith, nat_tests)

month_low : (year month : ℕ) → has_month year month ≡ true → nat_lt (month_number year month) months ≡ true
month_low year month has = grind (arith, nat_tests)

months-IsCode : IsCode months_code
months-IsCode = record { again = again; back = back }
  where
    again : (month : ℕ) → months_code.has month ≡ true → months_code.value (months_code.code month) ≡ Some month
    again month has =
        let_through (has_month (year_of month) (month_of_year month)) (month_number (year_of month) (month_of_year month)) (month_in month has)
        ∙ ap (λ (k : ℕ). Some k) (month_same month)

    back : (x : ℕ × ℕ) (month : ℕ) → months_code.value x ≡ Some month → (months_code.code month ≡ x) × (months_code.has month ≡ true)
    back (y, m) month e =
        let p = passed (has_month y m) (month_number y m) month e in
        let year = ap year_of (sym p.1) ∙ year_back y m p.0 in
        let of_year = ap month_of_year (sym p.1) ∙ month_back y m p.0 in
        (λ i. (year i, of_year i), ap (λ (k : ℕ). nat_lt k months) (sym p.1) ∙ month_low y m p.0)

pub month-IsFormat : IsFormat month_format
unfolding month_format
month-IsFormat = coded-IsFormat (pair (number w16) (number w8)) months_code
    (pair-IsFormat (number w16) (number w8) (number-IsFormat w16 wide16) (number-IsFormat w8 wide8)) months-IsCode

opens-IsCode : IsCode opens
opens-IsCode = record { again = again; back = back }
  where
    again : (o : Option ℕ) → open_has o ≡ true → open_value (open_code o) ≡ Some o
    again None has = refl
    again (Some month) has =
        let other : (eqb (year_of month) 0 && eqb (month_of_year month) 0) ≡ false = grind (arith, nat_tests) in
        let inside = month_in month has in
        rw (other, inside, month_same month) refl

    by_test : (b c : Bool) (y m : ℕ) (o : Option ℕ) → (eqb y 0 && eqb m 0) ≡ b → has_month y m ≡ c
        → cond b (Some None) (cond c (Some (Some (month_number y m))) None) ≡ Some o → (open_code o ≡ (y, m)) × (open_has o ≡ true)
    by_test true c y m o b_is c_is e =
        let both = and_parts _ _ b_is in
        let zero_y = sym (eqb-true _ _ both.0) in
        let zero_m = sym (eqb-true _ _ both.1) in
        subst (λ (x : Option ℕ). (open_code x ≡ (y, m)) × (open_has x ≡ true)) (same_Some None o e) (λ i. (zero_y i, zero_m i), refl)
    by_test false true y m o b_is c_is e =
        let year = year_back y m c_is in
        let of_year = month_back y m c_is in
        subst (λ (x : Option ℕ). (open_code x ≡ (y, m)) × (open_has x ≡ true)) (same_Some (Some (month_number y m)) o e)
        (λ i. (year i, of_year i), month_low y m c_is)
    by_test false false y m o b_is c_is e = absurd cc

    back : (x : ℕ × ℕ) (o : Option ℕ) → open_value x ≡ Some o → (open_code o ≡ x) × (open_has o ≡ true)
    back (y, m) o e = by_test (eqb y 0 && eqb m 0) (has_month y m) y m o refl refl e

pub open-IsFormat : IsFormat open_format
unfolding open_format
open-IsFormat = coded-IsFormat (pair (number w16) (number w8)) opens
    (pair-IsFormat (number w16) (number w8) (number-IsFormat w16 wide16) (number-IsFormat w8 wide8)) opens-IsCode

-- ---- tariffs

pub tariff-IsFormat : IsFormat tariff_format
unfolding tariff_format
tariff-IsFormat = coded-IsFormat _ _
    (pair-IsFormat _ _ month-IsFormat (pair-IsFormat (exactly 6 (format field.Tiers)) (exactly 5 (format field.Price))
    (exactly-IsFormat 6 (format field.Tiers) (format-IsFormat field.Tiers)) (exactly-IsFormat 5 (format field.Price) (format-IsFormat field.Price))))
    (renamed-IsCode _ _ (λ y. refl) (λ x. refl))

-- ---- stacks

head-IsFormat : IsFormat version_head
unfolding version_head
head-IsFormat = pair-IsFormat _ _ (format-IsFormat field.Id) (pair-IsFormat _ _ flag-IsFormat (pair-IsFormat _ _ moment-IsFormat moment-IsFormat))

object-IsFormat : IsFormat object_format
unfolding object_format
object-IsFormat = pair-IsFormat _ _ (format-IsFormat field.Size)
    (pair-IsFormat _ _ (format-IsFormat field.Rank) (pair-IsFormat _ _ moment-IsFormat (format-IsFormat field.Tags)))

or_none-IsFormat : (b : Bool) → IsFormat (object_or_none b)
or_none-IsFormat true = as_none-IsFormat
or_none-IsFormat false = as_some-IsFormat object_format object-IsFormat

versions-IsCode : IsCode versions_code
versions-IsCode = record { again = λ v has. again v.id v.created v.ceased v.kind; back = back }
  where
    again : (id : _) (created ceased : ℕ) (kind : Kind) → version_value ((id, (is_marker kind, (created, ceased))), object_of kind) ≡ Some (record { id = id; kind = kind; created = created; ceased = ceased })
    again id created ceased (Object size class tags entered) = refl
    again id created ceased Marker = refl

    back : (x : VersionParts) (v : Version) → version_value x ≡ Some v → (versions_code.code v ≡ x) × (versions_code.has v ≡ true)
    back ((id, (false, (created, ceased))), Some (size, (class, (entered, tags)))) v e = (sym (ap versions_code.code (same_Some _ v e)), refl)
    back ((id, (false, (created, ceased))), None) v e = absurd cc
    back ((id, (true, (created, ceased))), Some object) v e = absurd cc
    back ((id, (true, (created, ceased))), None) v e = (sym (ap versions_code.code (same_Some _ v e)), refl)

version-IsFormat : IsFormat version_format
unfolding version_format
version-IsFormat = coded-IsFormat _ versions_code (after-IsFormat version_head (λ head. object_or_none head.1.0) head-IsFormat (λ head. or_none-IsFormat head.1.0)) versions-IsCode

stack-IsFormat : IsFormat stack_format
unfolding stack_format
stack-IsFormat = such_that-IsFormat _ _ (coded-IsFormat _ _
    (pair-IsFormat _ _ (format-IsFormat field.Key) (pair-IsFormat _ _ moment-IsFormat (list-IsFormat four version_format four-IsFormat version-IsFormat)))
    (renamed-IsCode _ _ (λ y. refl) (λ x. refl)))

pub stacks-IsFormat : IsFormat stacks_format
unfolding stacks_format
stacks-IsFormat = such_that-IsFormat _ _ (list-IsFormat four stack_format four-IsFormat stack-IsFormat)

-- ---- uploads

part-IsFormat : IsFormat part_format
unfolding part_format
part-IsFormat = coded-IsFormat _ _ (pair-IsFormat _ _ four-IsFormat (pair-IsFormat _ _ eight-IsFormat moment-IsFormat)) (renamed-IsCode _ _ (λ y. refl) (λ x. refl))

parts-IsFormat : IsFormat upload_parts_format
unfolding upload_parts_format
parts-IsFormat = such_that-IsFormat _ _ (list-IsFormat four part_format four-IsFormat part-IsFormat)

fields-IsFormat : IsFormat fields_format
unfolding fields_format
fields-IsFormat =
    pair-IsFormat _ _ eight-IsFormat (pair-IsFormat _ _ (format-IsFormat field.Key) (pair-IsFormat _ _ (format-IsFormat field.Rank)
    (pair-IsFormat _ _ (format-IsFormat field.Tags) (pair-IsFormat _ _ moment-IsFormat (pair-IsFormat _ _ moment-IsFormat parts-IsFormat)))))

upload-IsFormat : IsFormat upload_format
unfolding upload_format
upload-IsFormat = such_that-IsFormat _ _ (coded-IsFormat _ _ fields-IsFormat (renamed-IsCode _ _ (λ y. refl) (λ x. refl)))

pub uploads-IsFormat : IsFormat uploads_format
unfolding uploads_format
uploads-IsFormat = such_that-IsFormat _ _ (list-IsFormat four upload_format four-IsFormat upload-IsFormat)

-- ---- sums

triples_back : (ts : List Triple) → triples (map (λ t. t.0) ts) (map (λ t. t.1.0) ts) (map (λ t. t.1.1) ts) ≡ ts
triples_back [] = refl
triples_back (t ∷ ts) = ap (λ (l : List Triple). t ∷ l) (triples_back ts)

record Unzips (xs ys zs : List ℕ) : Type 0 where
  firsts : map (λ (t : Triple). t.0) (triples xs ys zs) ≡ xs
  seconds : map (λ (t : Triple). t.1.0) (triples xs ys zs) ≡ ys
  thirds : map (λ (t : Triple). t.1.1) (triples xs ys zs) ≡ zs
  size : length (triples xs ys zs) ≡ length xs

unzips : (xs ys zs : List ℕ) → length ys ≡ length xs → length zs ≡ length xs → Unzips xs ys zs
unzips [] [] [] a b = record { firsts = refl; seconds = refl; thirds = refl; size = refl }
unzips (x ∷ xs) (y ∷ ys) (z ∷ zs) a b =
    let more = unzips xs ys zs (omega (arith, a)) (omega (arith, b)) in
    record {
      firsts = ap (λ (l : List ℕ). x ∷ l) more.firsts;
      seconds = ap (λ (l : List ℕ). y ∷ l) more.seconds;
      thirds = ap (λ (l : List ℕ). z ∷ l) more.thirds;
      size = omega (arith, more.size);
    }
unzips xs ys zs a b = absurd (omega (arith, a, b))

same_eqb : (m n : ℕ) → m ≡ n → eqb m n ≡ true
same_eqb m n is = grind (arith, nat_tests)

month-IsCode : IsCode month_parts
month-IsCode = record { again = again; back = back }
  where
    again : (s : MonthSums) → are_six s ≡ true → month_parts.value (month_parts.code s) ≡ Some s
    again s has =
        let a = and_parts _ _ has in
        let b = and_parts _ _ a.0 in
        let first : length s.ended ≡ 6 = eqb-true _ _ b.0 in
        let second : length s.early ≡ 6 = eqb-true _ _ b.1 in
        let third : length s.moves ≡ 6 = eqb-true _ _ a.1 in
        let u = unzips s.ended s.early s.moves (omega (arith, first, second)) (omega (arith, first, third)) in
        let ended = u.firsts in
        let early = u.seconds in
        let moves = u.thirds in
        let ts = triples s.ended s.early s.moves in
        let found : MonthSums = sums_with s.month ts in
        let_through (eqb (length ts) 6) found (same_eqb (length ts) 6 (omega (arith, u.size, first)))
        ∙ (λ i. Some (record { month = s.month; ended = ended i; early = early i; moves = moves i }))

    back : (x : ℕ × List Triple) (s : MonthSums) → month_parts.value x ≡ Some s → (month_parts.code s ≡ x) × (are_six s ≡ true)
    back (month, ts) s e =
        let p = passed (eqb (length ts) 6) (sums_with month ts) s e in
        let six : length ts ≡ 6 = eqb-true _ _ p.0 in
        let again = triples_back ts in (
          sym (ap month_parts.code p.1) ∙ (λ i. (month, again i)),
          sym (ap are_six p.1)
              ∙ and_from _ _ (and_from _ _ (same_eqb _ 6 (length-map ts (λ (t : Triple). t.0) ∙ six)) (same_eqb _ 6 (length-map ts (λ (t : Triple). t.1.0) ∙ six)))
              (same_eqb _ 6 (length-map ts (λ (t : Triple). t.1.1) ∙ six)),
        )

pub sums-IsFormat : IsFormat sums_format
unfolding sums_format
sums-IsFormat = coded-IsFormat _ month_parts
    (pair-IsFormat _ _ month-IsFormat (exactly-IsFormat 6 _ (pair-IsFormat _ _ sixteen-IsFormat (pair-IsFormat _ _ sixteen-IsFormat eight-IsFormat))))
    month-IsCode

-- ---- buckets

versionings-IsCode : IsCode versionings
versionings-IsCode = record { again = again; back = back }
  where
    again : (v : Versioning) → versionings.has v ≡ true → versioning_value (versioning_code v) ≡ Some v
    again Unversioned has = refl
    again Enabled has = refl
    again Suspended has = refl

    back : (n : ℕ) (v : Versioning) → versioning_value n ≡ Some v → (versioning_code v ≡ n) × (versionings.has v ≡ true)
    back n Unversioned e = (grind (arith, nat_tests), refl)
    back n Enabled e = (grind (arith, nat_tests), refl)
    back n Suspended e = (grind (arith, nat_tests), refl)

zero_fits : four.has 0 ≡ true
unfolding four
zero_fits = refl

-- the number before the text of a configuration is its length
first_number : (rules : Configuration) (rest : List ℕ) → (format field.Rules).has rules ≡ true
    → four.front ((format field.Rules).written rules ++ rest) ≡ Some (length (printed rules), printed rules ++ rest)
unfolding format four
first_number rules rest has =
    let counted = and_parts _ _ has in
    let n = length (printed rules) in
    ap (λ (b : List ℕ). (number w32).front b) (append_assoc (to_be_bytes w32 n) (printed rules) rest)
    ∙ (number-IsFormat w32 wide32).again n (printed rules ++ rest) counted.0

not_zero : (b : Bool) → b ≡ false → not b ≡ true
not_zero true is = absurd cc
not_zero false is = refl

zero_not : (b : Bool) → not b ≡ true → b ≡ false
zero_not true is = absurd cc
zero_not false is = refl

rules-IsFormat : IsFormat rules_format
unfolding rules_format
rules-IsFormat = record { again = again; takes = takes }
  where
    again : (o : Option Configuration) (rest : List ℕ) → rules_has o ≡ true → rules_front (rules_written o ++ rest) ≡ Some (o, rest)
    again None rest has =
        ap (λ (n : Option (ℕ × List ℕ)). n >>= λ n. if eqb n.0 0 then Some (None, n.1) else (format field.Rules).front (four.written 0 ++ rest) >>= λ r. Some (Some r.0, r.1))
        (four-IsFormat.again 0 rest zero_fits)
    again (Some rules) rest has =
        let parts = and_parts _ _ has in
        let bytes = (format field.Rules).written rules ++ rest in
        let some : eqb (length (printed rules)) 0 ≡ false = zero_not _ parts.1 in
        ap (λ (n : Option (ℕ × List ℕ)). n >>= λ n. if eqb n.0 0 then Some (None, n.1) else (format field.Rules).front bytes >>= λ r. Some (Some r.0, r.1))
        (first_number rules rest parts.0)
        ∙ ap (λ (b : Bool). if b then Some (None, printed rules ++ rest) else (format field.Rules).front bytes >>= λ r. Some (Some r.0, r.1)) some
        ∙ ap (λ (o : Option (Configuration × List ℕ)). o >>= λ r. Some (Some r.0, r.1)) ((format-IsFormat field.Rules).again rules rest parts.0)

    by_test : (b : Bool) (bytes : List ℕ) (n : ℕ × List ℕ) (x : Option Configuration × List ℕ) → IsBytes bytes → four.front bytes ≡ Some n → eqb n.0 0 ≡ b
        → cond b (Some (None, n.1)) ((format field.Rules).front bytes >>= λ r. Some (Some r.0, r.1)) ≡ Some x
        → (bytes ≡ rules_written x.0 ++ x.1) × (rules_has x.0 ≡ true)
    by_test true bytes n x fits number is e =
        let t = four-IsFormat.takes bytes n fits number in
        let none : n.0 ≡ 0 = eqb-true _ _ is in
        subst (λ (y : Option Configuration × List ℕ). (bytes ≡ rules_written y.0 ++ y.1) × (rules_has y.0 ≡ true)) (same_Some (None, n.1) x e)
        (t.0 ∙ ap (λ (k : ℕ). four.written k ++ n.1) none, refl)
    by_test false bytes n x fits number is e =
        let b = bind_some ((format field.Rules).front bytes) (λ r. Some (Some r.0, r.1)) x e in
        let t = (format-IsFormat field.Rules).takes bytes b.0 fits b.1 in
        let count : n ≡ (length (printed b.0.0), printed b.0.0 ++ b.0.1) =
        same_Some _ _ (sym number ∙ ap (λ (l : List ℕ). four.front l) t.0 ∙ first_number b.0.0 b.0.1 t.1) in
        let some : eqb (length (printed b.0.0)) 0 ≡ false = ap (λ (k : ℕ × List ℕ). eqb k.0 0) (sym count) ∙ is in
        subst (λ (y : Option Configuration × List ℕ). (bytes ≡ rules_written y.0 ++ y.1) × (rules_has y.0 ≡ true)) (same_Some (Some b.0.0, b.0.1) x b.2)
        (t.0, and_from _ _ t.1 (not_zero _ some))

    takes : (bytes : List ℕ) (x : Option Configuration × List ℕ) → IsBytes bytes → rules_front bytes ≡ Some x
        → (bytes ≡ rules_written x.0 ++ x.1) × (rules_has x.0 ≡ true)
    takes bytes x fits e =
        let a = bind_some (four.front bytes) (λ n. if eqb n.0 0 then Some (None, n.1) else (format field.Rules).front bytes >>= λ r. Some (Some r.0, r.1)) x e in
        by_test (eqb a.0.0 0) bytes a.0 x fits a.1 refl a.2

pub bucket_head-IsFormat : IsFormat head_format
unfolding head_format
bucket_head-IsFormat = pair-IsFormat _ _ (format-IsFormat field.Name)
    (pair-IsFormat _ _ (coded-IsFormat (number w8) versionings (number-IsFormat w8 wide8) versionings-IsCode)
    (pair-IsFormat _ _ moment-IsFormat (pair-IsFormat _ _ rules-IsFormat (pair-IsFormat _ _ eight-IsFormat eight-IsFormat))))

-- ---- kept replies

-- a command that may carry a token is one of its kind with its fields
whole_of : (c : Command) → takes_token c ≡ true → command_of (parts_of c).kind (parts_of c).values ≡ c
whole_of (command.CreateBucket bucket) takes = refl
whole_of (command.SetVersioning bucket enabled) takes = refl
whole_of (command.SetRules bucket rules) takes = absurd cc
whole_of (command.DropRules bucket) takes = refl
whole_of (command.Put bucket key size class tags) takes = refl
whole_of (command.Delete bucket key) takes = refl
whole_of (command.DeleteVersion bucket key id) takes = refl
whole_of (command.SetTags bucket key id tags) takes = refl
whole_of (command.StartUpload bucket key class tags) takes = refl
whole_of (command.PutPart bucket upload part size) takes = refl
whole_of (command.Complete bucket upload) takes = refl
whole_of (command.Abort bucket upload) takes = refl
whole_of (command.Act bucket) takes = absurd cc
whole_of (command.SetTariff tariff) takes = absurd cc
whole_of (command.Close month) takes = ap command.Close (month_same month)

-- the entry of a command at moment 0, without a token
abbrev entry_with_command : Command → Entry
entry_with_command c = record { moment = 0; token = None; command = c }

pub command_fits : (c : Command) → is_kept_command c ≡ true → CommandFits c
command_fits c has =
    let parts = and_parts (takes_token c) (are_values (fields_of (parts_of c).kind) (parts_of c).values) has in
    record { values = parts.1; whole = whole_of c parts.0 }

entry_fits : (c : Command) → is_kept_command c ≡ true → EntryFits (entry_with_command c)
entry_fits c has = record { moment = omega arith; token = tt; carries = tt; command = command_fits c has }

its_spelling : (c : Command) → moment_format.written 0 ++ command_spelling None c ≡ spelling (entry_with_command c)
unfolding spelling
its_spelling c = refl

same_bytes : (t : List ℕ) → bytes_eq t t ≡ true
same_bytes t = (bytes_eq-Decides t t).1 refl

commands-IsCode : IsCode command_texts
commands-IsCode = record { again = again; back = back }
  where
    again : (c : Command) → is_kept_command c ≡ true → command_texts.value (command_spelling None c) ≡ Some c
    again c has =
        let read : entry_of (moment_format.written 0 ++ command_spelling None c) ≡ Ok (entry_with_command c) =
        ap entry_of (its_spelling c) ∙ entry_again (entry_with_command c) (entry_fits c has) in
        ap (λ (r : Result Entry ℕ). option_and_then (if_spelled (command_spelling None c)) (result_ok r)) read
        ∙ let_through (is_kept_command c && bytes_eq (command_spelling None c) (command_spelling None c)) c (and_from _ _ has (same_bytes (command_spelling None c)))

    from_entry : (t : List ℕ) (c : Command) (o : Option Entry) → option_and_then (if_spelled t) o ≡ Some c → (command_spelling None c ≡ t) × (is_kept_command c ≡ true)
    from_entry t c None e = absurd cc
    from_entry t c (Some entry) e =
        let p = passed (is_none entry.token && is_kept_command entry.command && bytes_eq t (command_spelling None entry.command)) entry.command c e in
        let parts = and_parts _ _ p.0 in
        let first = and_parts _ _ parts.0 in
        subst (λ (d : Command). (command_spelling None d ≡ t) × (is_kept_command d ≡ true)) p.1
        (sym ((bytes_eq-Decides t (command_spelling None entry.command)).0 parts.1), first.1)

    back : (t : List ℕ) (c : Command) → command_texts.value t ≡ Some c → (command_spelling None c ≡ t) × (is_kept_command c ≡ true)
    back t c e = from_entry t c (result_ok (entry_of (moment_format.written 0 ++ t))) e

command-IsFormat : IsFormat command_format
unfolding command_format
command-IsFormat = coded-IsFormat _ command_texts (text-IsFormat four four-IsFormat) commands-IsCode

pub kept-IsFormat : IsFormat kept_format
unfolding kept_format
kept-IsFormat = coded-IsFormat _ _
    (pair-IsFormat _ _ token-IsFormat (pair-IsFormat _ _ moment-IsFormat (pair-IsFormat _ _ flag-IsFormat (pair-IsFormat _ _ eight-IsFormat command-IsFormat))))
    (renamed-IsCode _ _ (λ y. refl) (λ x. refl))
