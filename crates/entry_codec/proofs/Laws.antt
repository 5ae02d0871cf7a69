-- The bytes of what is read are its spelling, and each spelling is read.
use Rattle.std.proofs.Common.{◌≡◌, ℕ, ◌^◌, ◌<◌, ◌≤◌, ◌-◌, Bool, true, false, not, cond, eqb, List, [], ◌∷◌, ◌++◌, length, Option, Some, None, Result, Ok, Err, refl, sym, ap, ap₂, subst, ◌∙◌, arith}
use Rattle.std.proofs.Common.{append_assoc}
use Rattle.std.specs.Prelude.{IfOk, IfSome, ok_or}
use Rattle.std.proofs.lemmas.Bool.{eqb-true, ltb-true, lt-ltb, and_parts, and_from}
use Rattle.std.proofs.lemmas.Bool.Decides.{nat_tests}
use Rattle.std.proofs.lemmas.List.{append-nil, nil_from_length}
use Rattle.moments.specs.Time.{end_of_time}
use Rattle.moments.specs.Months.{year_of, month_of_year, month_number}
use Rattle.office_base.specs.Results.{◌>>=◌}
use Rattle.office_types.specs.declared.command.Command.{Command}
use Rattle.office_types.specs.declared.command.Command.TheVariants as command
use Rattle.office_types.specs.declared.command.Entry.{Entry}
use Rattle.office_types.specs.Commands.{kind_of}
use Rattle.office_types.specs.Entries.{entry_with}
use Rattle.office_types.specs.Tokens.{IsToken, takes_token, MayCarry}
use Rattle.office_types.proofs.Small.{token_small}
use Rattle.entry_codec.specs.declared.fault.EntryFault.{EntryFault}
use Rattle.entry_codec.specs.Formats.{Format}
use Rattle.tariff.specs.Prices.{Prices}
use Rattle.entry_codec.specs.Fields.{Field, Price, Tiers, Year, Month, format, moment_format, token_format}
use Rattle.entry_codec.specs.declared.kinds.Kind.{Kind}
use Rattle.entry_codec.specs.Kinds.{CommandParts, Values, Head, head_format, kind_number, carries_token, fields_of, parts_of, command_of, is_plain, is_plain_command, is_own, plain_values, tiered_values, tariff_parts}
use Rattle.entry_codec.specs.declared.kinds.Kind.TheVariants as kind
use Rattle.entry_codec.specs.Spelling.{written_values, are_values, fields_spelling, head_spelling, command_spelling, CommandFits, EntryFits, spelling}
use Rattle.entry_codec.specs.Reading.{EntryGives, place, value_at, values_at, kind_at, token_at, command_at, entry_of}
use Rattle.entry_codec.proofs.Bytes.{IsBytes}
use Rattle.entry_codec.proofs.Repeated.{times}
use Rattle.entry_codec.proofs.FormatLaws.{IsBytes-rest, IsFormat}
use Rattle.entry_codec.proofs.FieldLaws.{format-IsFormat, moment-IsFormat, head-IsFormat, token-IsFormat}

-- ---- steps

-- the value of a step that did not fail
bind_ok : {A B : Type 0} (r : Result A ℕ) (f : A → Result B ℕ) (y : B) → (r >>= f) ≡ Ok y → (x : A) × (r ≡ Ok x) × (f x ≡ Ok y)
bind_ok (Ok x) f y e = (x, refl, e)
bind_ok (Err d) f y e = absurd cc

abbrev done : {A : Type 0} → A → Result A ℕ
done x = Ok x

ok_is : {A : Type 0} (x y : A) → done x ≡ done y → x ≡ y
ok_is x y e = cc

some_of : {A : Type 0} (o : Option A) (d : ℕ) (x : A) → ok_or o d ≡ Ok x → o ≡ Some x
some_of (Some a) d x e = ap Some (ok_is a x e)
some_of None d x e = absurd cc

guard_passed : {A : Type 0} (b : Bool) (d : ℕ) (x y : A) → cond b (Ok x) (Err d) ≡ Ok y → (b ≡ true) × (x ≡ y)
guard_passed true d x y e = (refl, cc)
guard_passed false d x y e = absurd cc

-- ---- values

value_takes : {X : Type 0} (format : Format X) → IsFormat format → (total : ℕ) (bytes : List ℕ) (x : X × List ℕ) → IsBytes bytes → value_at format total bytes ≡ Ok x
    → (bytes ≡ format.written x.0 ++ x.1) × (format.has x.0 ≡ true)
unfolding value_at
value_takes format law total bytes x fits e = law.takes bytes x fits (some_of (format.front bytes) (place total bytes) x e)

value_again : {X : Type 0} (format : Format X) → IsFormat format → (total : ℕ) (x : X) (rest : List ℕ) → format.has x ≡ true → value_at format total (format.written x ++ rest) ≡ Ok (x, rest)
unfolding value_at
value_again format law total x rest has = ap (λ o. ok_or o (place total (format.written x ++ rest))) (law.again x rest has)

-- the laws of all these fields
abbrev pub AreFormats : List Field → Type 0
AreFormats [] = Unit {0}
AreFormats (field ∷ fields) = IsFormat (format field) × AreFormats fields

pub values_take : (fields : List Field) → AreFormats fields → (total : ℕ) (bytes : List ℕ) (x : Values fields × List ℕ) → IsBytes bytes → values_at fields total bytes ≡ Ok x
    → (bytes ≡ written_values fields x.0 ++ x.1) × (are_values fields x.0 ≡ true)
values_take [] laws total bytes x fits e = (ap (λ (y : Values [] × List ℕ). y.1) (ok_is (tt, bytes) x e), refl)
values_take (field ∷ fields) laws total bytes x fits e =
    let a = bind_ok (value_at (format field) total bytes) _ x e in
    let b = bind_ok (values_at fields total a.0.1) _ x a.2 in
    let t = value_takes (format field) laws.0 total bytes a.0 fits a.1 in
    let u = values_take fields laws.1 total a.0.1 b.0 (IsBytes-rest ((format field).written a.0.0) a.0.1 (subst IsBytes t.0 fits)) b.1 in
    let whole : bytes ≡ written_values (field ∷ fields) (a.0.0, b.0.0) ++ b.0.1 =
    t.0 ∙ ap (λ (r : List ℕ). (format field).written a.0.0 ++ r) u.0 ∙ sym (append_assoc ((format field).written a.0.0) (written_values fields b.0.0) b.0.1) in
    subst (λ (y : Values (field ∷ fields) × List ℕ). (bytes ≡ written_values (field ∷ fields) y.0 ++ y.1) × (are_values (field ∷ fields) y.0 ≡ true))
    (ok_is ((a.0.0, b.0.0), b.0.1) x b.2) (whole, and_from _ _ t.1 u.1)

pub values_again : (fields : List Field) → AreFormats fields → (total : ℕ) (values : Values fields) (rest : List ℕ) → are_values fields values ≡ true
    → values_at fields total (written_values fields values ++ rest) ≡ Ok (values, rest)
values_again [] laws total values rest has = refl
values_again (field ∷ fields) laws total values rest has =
    let parts = and_parts ((format field).has values.0) (are_values fields values.1) has in
    ap (λ (b : List ℕ). values_at (field ∷ fields) total b) (append_assoc ((format field).written values.0) (written_values fields values.1) rest)
    ∙ ap (λ r. r >>= λ first. values_at fields total first.1 >>= λ others. Ok ((first.0, others.0), others.1))
    (value_again (format field) laws.0 total values.0 (written_values fields values.1 ++ rest) parts.0)
    ∙ ap (λ r. r >>= λ others. Ok ((values.0, others.0), others.1)) (values_again fields laws.1 total values.1 rest parts.1)

-- ---- kinds

-- each field keeps the laws
pub every_row : (fields : List Field) → AreFormats fields
every_row [] = tt
every_row (field ∷ fields) = (format-IsFormat field, every_row fields)

-- ---- a command and its parts

abbrev with_values : (k : Kind) → Values (fields_of k) → CommandParts
with_values k values = record { kind = k; values = values }

same_close : (year month : ℕ) → 1970 ≤ year → 1 ≤ month → month ≤ 12 → parts_of (command.Close (month_number year month)) ≡ with_values kind.Close (year, (month, tt))
same_close year month from first last =
    let y : year_of (month_number year month) ≡ year = omega arith in
    let m : month_of_year (month_number year month) ≡ month = omega arith in
    ap₂ (λ (a b : ℕ). with_values kind.Close (a, (b, tt))) y m

close_range : (year month : ℕ) → are_values (fields_of kind.Close) (year, (month, tt)) ≡ true → (1970 ≤ year) × (1 ≤ month) × (month ≤ 12)
unfolding format
close_range year month has = (grind (arith, nat_tests), grind (arith, nat_tests), grind (arith, nat_tests))

year_from : (year : ℕ) → (format Year).has year ≡ true → 1970 ≤ year
unfolding format
year_from year has = grind (arith, nat_tests)

month_from : (month : ℕ) → (format Month).has month ≡ true → (1 ≤ month) × (month ≤ 12)
unfolding format
month_from month has = (grind (arith, nat_tests), grind (arith, nat_tests))

abbrev tiers_behind : List Field
tiers_behind = times Tiers [] 6 (times Price 0 5 [])

tiered_range : (year month : ℕ) (others : Values tiers_behind) → are_values (fields_of kind.SetTiers) (year, (month, others)) ≡ true → (1970 ≤ year) × (1 ≤ month) × (month ≤ 12)
tiered_range year month others has =
    let years = and_parts ((format Year).has year) (are_values (Month ∷ tiers_behind) (month, others)) has in
    let months = and_parts ((format Month).has month) (are_values tiers_behind others) years.1 in
    let range = month_from month months.0 in
    (year_from year years.0, range.0, range.1)

-- the parts of a tariff by its kind
pub plain_parts : (tariff : Prices) → is_plain tariff ≡ true → tariff_parts tariff ≡ with_values kind.SetTariff (plain_values tariff)
plain_parts tariff is = ap (λ (b : Bool). cond b (with_values kind.SetTariff (plain_values tariff)) (with_values kind.SetTiers (tiered_values tariff))) is

pub tiered_parts : (tariff : Prices) → is_plain tariff ≡ false → tariff_parts tariff ≡ with_values kind.SetTiers (tiered_values tariff)
tiered_parts tariff is = ap (λ (b : Bool). cond b (with_values kind.SetTariff (plain_values tariff)) (with_values kind.SetTiers (tiered_values tariff))) is

not_true : (b : Bool) → not b ≡ true → b ≡ false
not_true false is = refl
not_true true is = absurd cc

same_tiers : (values : Values (fields_of kind.SetTiers)) → are_values (fields_of kind.SetTiers) values ≡ true → is_own kind.SetTiers values ≡ true → parts_of (command_of kind.SetTiers values) ≡ with_values kind.SetTiers values
same_tiers (year, (month, (a, (b, (c, (d, (e, (f, (g, (h, (i, (j, (k, none))))))))))))) has own =
    let range = tiered_range year month (a, (b, (c, (d, (e, (f, (g, (h, (i, (j, (k, none))))))))))) has in
    let y : year_of (month_number year month) ≡ year = omega arith in
    let m : month_of_year (month_number year month) ≡ month = omega arith in
    let tariff : Prices = record { from = month_number year month; storage = a ∷ b ∷ c ∷ d ∷ e ∷ f ∷ []; transition = g ∷ h ∷ i ∷ j ∷ k ∷ [] } in
    tiered_parts tariff (not_true (is_plain tariff) own)
    ∙ ap₂ (λ (n o : ℕ). with_values kind.SetTiers (n, (o, (a, (b, (c, (d, (e, (f, (g, (h, (i, (j, (k, none)))))))))))))) y m

-- the parts of the command of parts
pub same_parts : (k : Kind) (values : Values (fields_of k)) → are_values (fields_of k) values ≡ true → is_own k values ≡ true → parts_of (command_of k values) ≡ with_values k values
same_parts kind.CreateBucket values has own = refl
same_parts kind.SetVersioning values has own = refl
same_parts kind.SetRules values has own = refl
same_parts kind.DropRules values has own = refl
same_parts kind.Put values has own = refl
same_parts kind.Delete values has own = refl
same_parts kind.DeleteVersion values has own = refl
same_parts kind.SetTags values has own = refl
same_parts kind.StartUpload values has own = refl
same_parts kind.PutPart values has own = refl
same_parts kind.Complete values has own = refl
same_parts kind.Abort values has own = refl
same_parts kind.Act values has own = refl
same_parts kind.SetTariff values has own = refl
same_parts kind.SetTiers values has own = same_tiers values has own
same_parts kind.Close (year, (month, none)) has own = let range = close_range year month has in same_close year month range.0 range.1 range.2

-- a command whose parts are in range fits
pub fits_of : (k : Kind) (values : Values (fields_of k)) → are_values (fields_of k) values ≡ true → is_own k values ≡ true → CommandFits (command_of k values)
fits_of k values has own =
    let same = same_parts k values has own in
    record {
      values = subst (λ (p : CommandParts). are_values (fields_of p.kind) p.values ≡ true) (sym same) has;
      whole = ap (λ (p : CommandParts). command_of p.kind p.values) same;
    }

-- the parts of a command are those of its kind
own_by : (tariff : Prices) (b : Bool) → is_plain tariff ≡ b → command_of (tariff_parts tariff).kind (tariff_parts tariff).values ≡ command.SetTariff tariff
    → is_own (tariff_parts tariff).kind (tariff_parts tariff).values ≡ true
own_by tariff true is whole = subst (λ (p : CommandParts). is_own p.kind p.values ≡ true) (sym (plain_parts tariff is)) refl
own_by tariff false is whole =
    let parts = tiered_parts tariff is in
    let back : command_of kind.SetTiers (tiered_values tariff) ≡ command.SetTariff tariff = ap (λ (p : CommandParts). command_of p.kind p.values) (sym parts) ∙ whole in
    subst (λ (p : CommandParts). is_own p.kind p.values ≡ true) (sym parts) (ap (λ (c : Command). not (is_plain_command c)) back ∙ ap not is)

own_parts : (c : Command) → command_of (parts_of c).kind (parts_of c).values ≡ c → is_own (parts_of c).kind (parts_of c).values ≡ true
own_parts (command.SetTariff tariff) whole = own_by tariff (is_plain tariff) refl whole
own_parts (command.CreateBucket bucket) whole = refl
own_parts (command.SetVersioning bucket enabled) whole = refl
own_parts (command.SetRules bucket rules) whole = refl
own_parts (command.DropRules bucket) whole = refl
own_parts (command.Put bucket key size class tags) whole = refl
own_parts (command.Delete bucket key) whole = refl
own_parts (command.DeleteVersion bucket key id) whole = refl
own_parts (command.SetTags bucket key id tags) whole = refl
own_parts (command.StartUpload bucket key class tags) whole = refl
own_parts (command.PutPart bucket upload part size) whole = refl
own_parts (command.Complete bucket upload) whole = refl
own_parts (command.Abort bucket upload) whole = refl
own_parts (command.Act bucket) whole = refl
own_parts (command.Close month) whole = refl

-- ---- moments

moment_has : (moment : ℕ) → moment < end_of_time → moment_format.has moment ≡ true
unfolding moment_format
moment_has moment before = and_from _ _ (lt-ltb moment (256 ^ 8) (omega (arith, before))) (lt-ltb moment end_of_time before)

moment_before : (moment : ℕ) → moment_format.has moment ≡ true → moment < end_of_time
unfolding moment_format
moment_before moment has = ltb-true moment end_of_time (and_parts _ _ has).1

-- the command of a kind that was read with its fields
record Reads (k : Kind) (bytes : List ℕ) (x : Command × List ℕ) : Type 0 where
  parts : bytes ≡ fields_spelling x.0 ++ x.1
  kind : (parts_of x.0).kind ≡ k
  fits : CommandFits x.0

kind_takes : (k : Kind) (total : ℕ) (bytes : List ℕ) (x : Command × List ℕ) → IsBytes bytes → kind_at k total bytes ≡ Ok x → Reads k bytes x
unfolding kind_at fields_spelling
kind_takes k total bytes x fits is =
    let read = bind_ok (values_at (fields_of k) total bytes) _ x is in
    let t = values_take (fields_of k) (every_row (fields_of k)) total bytes read.0 fits read.1 in
    let own = guard_passed (is_own k read.0.0) (place total bytes - 1) (command_of k read.0.0, read.0.1) x read.2 in
    let same = same_parts k read.0.0 t.1 own.0 in
    let values = ap (λ (p : CommandParts). written_values (fields_of p.kind) p.values) same in
    subst (Reads k bytes) own.1 (record {
      parts = t.0 ∙ ap (λ (l : List ℕ). l ++ read.0.1) (sym values);
      kind = ap (λ (p : CommandParts). p.kind) same;
      fits = fits_of k read.0.0 t.1 own.0;
    })

-- the commands that may carry a token are those of the kinds that do
pub carries_is : (c : Command) → carries_token (parts_of c).kind ≡ takes_token c
carries_is (command.CreateBucket bucket) = refl
carries_is (command.SetVersioning bucket enabled) = refl
carries_is (command.SetRules bucket rules) = refl
carries_is (command.DropRules bucket) = refl
carries_is (command.Put bucket key size class tags) = refl
carries_is (command.Delete bucket key) = refl
carries_is (command.DeleteVersion bucket key id) = refl
carries_is (command.SetTags bucket key id tags) = refl
carries_is (command.StartUpload bucket key class tags) = refl
carries_is (command.PutPart bucket upload part size) = refl
carries_is (command.Complete bucket upload) = refl
carries_is (command.Abort bucket upload) = refl
carries_is (command.Act bucket) = refl
carries_is (command.SetTariff tariff) = by (is_plain tariff) refl where
  by : (b : Bool) → is_plain tariff ≡ b → carries_token (tariff_parts tariff).kind ≡ false
  by true is = ap (λ (p : CommandParts). carries_token p.kind) (plain_parts tariff is)
  by false is = ap (λ (p : CommandParts). carries_token p.kind) (tiered_parts tariff is)
carries_is (command.Close month) = refl

-- and the number of such a command in a journal is that of its kind
pub number_is : (c : Command) → takes_token c ≡ true → kind_number (parts_of c).kind ≡ kind_of c
number_is (command.CreateBucket bucket) takes = refl
number_is (command.SetVersioning bucket enabled) takes = refl
number_is (command.SetRules bucket rules) takes = absurd cc
number_is (command.DropRules bucket) takes = refl
number_is (command.Put bucket key size class tags) takes = refl
number_is (command.Delete bucket key) takes = refl
number_is (command.DeleteVersion bucket key id) takes = refl
number_is (command.SetTags bucket key id tags) takes = refl
number_is (command.StartUpload bucket key class tags) takes = refl
number_is (command.PutPart bucket upload part size) takes = refl
number_is (command.Complete bucket upload) takes = refl
number_is (command.Abort bucket upload) takes = refl
number_is (command.Act bucket) takes = absurd cc
number_is (command.SetTariff tariff) takes = absurd cc
number_is (command.Close month) takes = refl

-- ---- heads

head_has : (k : Kind) → head_format.has (k, false) ≡ true
unfolding head_format
head_has kind.CreateBucket = refl
head_has kind.SetVersioning = refl
head_has kind.SetRules = refl
head_has kind.DropRules = refl
head_has kind.Put = refl
head_has kind.Delete = refl
head_has kind.DeleteVersion = refl
head_has kind.SetTags = refl
head_has kind.StartUpload = refl
head_has kind.PutPart = refl
head_has kind.Complete = refl
head_has kind.Abort = refl
head_has kind.Act = refl
head_has kind.SetTariff = refl
head_has kind.Close = refl
head_has kind.SetTiers = refl

marked_has : (k : Kind) → carries_token k ≡ true → head_format.has (k, true) ≡ true
unfolding head_format
marked_has kind.CreateBucket is = refl
marked_has kind.SetVersioning is = refl
marked_has kind.SetRules is = absurd cc
marked_has kind.DropRules is = refl
marked_has kind.Put is = refl
marked_has kind.Delete is = refl
marked_has kind.DeleteVersion is = refl
marked_has kind.SetTags is = refl
marked_has kind.StartUpload is = refl
marked_has kind.PutPart is = refl
marked_has kind.Complete is = refl
marked_has kind.Abort is = refl
marked_has kind.Act is = absurd cc
marked_has kind.SetTariff is = absurd cc
marked_has kind.Close is = refl
marked_has kind.SetTiers is = absurd cc

has_marked : (k : Kind) → head_format.has (k, true) ≡ true → carries_token k ≡ true
unfolding head_format
has_marked k has = (and_parts _ _ has).1

token_has : (token : List ℕ) → IsToken token → token_format.has token ≡ true
unfolding token_format
token_has token is = and_from _ _ (lt-ltb (length token) (256 ^ 1) (omega (arith, token_small token is))) is

has_token : (token : List ℕ) → token_format.has token ≡ true → IsToken token
unfolding token_format
has_token token has = (and_parts _ _ has).1

-- ---- commands

-- a head, the token after it if it says so, and the kind's fields, with what is left
record Takes (bytes : List ℕ) (x : Option (List ℕ) × Command) : Type 0 where
  parts : bytes ≡ command_spelling x.0 x.1
  token : IfSome x.0 IsToken
  carries : MayCarry x.0 x.1
  fits : CommandFits x.1

-- what a head and a token are
record TakesHead (head : Head) (bytes : List ℕ) (x : Option (List ℕ) × List ℕ) : Type 0 where
  parts : head_format.written head ++ bytes ≡ head_spelling x.0 head.0 ++ x.1
  token : IfSome x.0 IsToken
  carries : (c : Command) → (parts_of c).kind ≡ head.0 → MayCarry x.0 c

token_takes : (head : Head) (total : ℕ) (bytes : List ℕ) (x : Option (List ℕ) × List ℕ) → IsBytes bytes → head_format.has head ≡ true → token_at head.1 total bytes ≡ Ok x → TakesHead head bytes x
unfolding token_at head_spelling
token_takes (k, false) total bytes x fits has is =
    subst (TakesHead (k, false) bytes) (ok_is (None, bytes) x is) (record { parts = refl; token = tt; carries = λ c same. tt })
token_takes (k, true) total bytes x fits has is =
    let read = bind_ok (value_at token_format total bytes) _ x is in
    let t = value_takes token_format token-IsFormat total bytes read.0 fits read.1 in
    let front = head_format.written (k, true) in
    subst (TakesHead (k, true) bytes) (ok_is (Some read.0.0, read.0.1) x read.2) (record {
      parts = ap (λ (l : List ℕ). front ++ l) t.0 ∙ sym (append_assoc front (token_format.written read.0.0) read.0.1);
      token = has_token read.0.0 t.1;
      carries = λ c same. sym (carries_is c) ∙ ap carries_token same ∙ has_marked k has;
    })

command_takes : (total : ℕ) (bytes : List ℕ) (c : Option (List ℕ) × Command) → IsBytes bytes → command_at total bytes ≡ Ok c → Takes bytes c
unfolding command_at command_spelling
command_takes total bytes c fits is =
    let head = bind_ok (value_at head_format total bytes) _ c is in
    let token = bind_ok (token_at head.0.0.1 total head.0.1) _ c head.2 in
    let command = bind_ok (kind_at head.0.0.0 total token.0.1) _ c token.2 in
    let t = value_takes head_format head-IsFormat total bytes head.0 fits head.1 in
    let behind : IsBytes head.0.1 = IsBytes-rest (head_format.written head.0.0) head.0.1 (subst IsBytes t.0 fits) in
    let u = token_takes head.0.0 total head.0.1 token.0 behind t.1 token.1 in
    let front = head_spelling token.0.0 head.0.0.0 in
    let whole : bytes ≡ front ++ token.0.1 = t.0 ∙ u.parts in
    let left : IsBytes token.0.1 = IsBytes-rest front token.0.1 (subst IsBytes whole fits) in
    let v = kind_takes head.0.0.0 total token.0.1 command.0 left command.1 in
    let last = guard_passed (eqb (length command.0.1) 0) (place total command.0.1) (token.0.0, command.0.0) c command.2 in
    let none : command.0.1 ≡ [] = nil_from_length command.0.1 (eqb-true _ _ last.0) in
    let fields : token.0.1 ≡ fields_spelling command.0.0 = v.parts ∙ ap (λ (l : List ℕ). fields_spelling command.0.0 ++ l) none ∙ append-nil (fields_spelling command.0.0) in
    subst (Takes bytes) last.1 (record {
      parts = whole ∙ ap (λ (l : List ℕ). front ++ l) fields ∙ ap (λ (k : Kind). head_spelling token.0.0 k ++ fields_spelling command.0.0) (sym v.kind);
      token = u.token;
      carries = u.carries command.0.0 v.kind;
      fits = v.fits;
    })

fields_again : (total : ℕ) (c : Command) → CommandFits c → kind_at (parts_of c).kind total (fields_spelling c) ≡ Ok (c, [])
unfolding kind_at fields_spelling
fields_again total c fits =
    let parts = parts_of c in
    let fields = fields_of parts.kind in
    let values = written_values fields parts.values in
    let whole : values_at fields total values ≡ Ok (parts.values, []) =
    ap (values_at fields total) (sym (append-nil values)) ∙ values_again fields (every_row fields) total parts.values [] fits.values in
    rw (whole, own_parts c fits.whole) (ap (λ d. Ok (d, [])) fits.whole)

-- a head and its token are read again
head_again : (total : ℕ) (c : Command) (rest : List ℕ) → value_at head_format total (head_format.written ((parts_of c).kind, false) ++ rest) ≡ Ok (((parts_of c).kind, false), rest)
head_again total c rest = value_again head_format head-IsFormat total ((parts_of c).kind, false) rest (head_has (parts_of c).kind)

marked_again : (total : ℕ) (c : Command) (rest : List ℕ) → takes_token c ≡ true → value_at head_format total (head_format.written ((parts_of c).kind, true) ++ rest) ≡ Ok (((parts_of c).kind, true), rest)
marked_again total c rest takes =
    value_again head_format head-IsFormat total ((parts_of c).kind, true) rest (marked_has (parts_of c).kind (carries_is c ∙ takes))

token_again : (total : ℕ) (token rest : List ℕ) → IsToken token → token_at true total (token_format.written token ++ rest) ≡ Ok (Some token, rest)
unfolding token_at
token_again total token rest is = rw (value_again token_format token-IsFormat total token rest (token_has token is)) refl

command_again : (total : ℕ) (token : Option (List ℕ)) (c : Command) → IfSome token IsToken → MayCarry token c → CommandFits c → command_at total (command_spelling token c) ≡ Ok (token, c)
unfolding command_at command_spelling head_spelling token_at
command_again total None c is carries fits = rw (head_again total c (fields_spelling c), fields_again total c fits) refl
command_again total (Some token) c is carries fits =
    let front = head_format.written ((parts_of c).kind, true) in
    ap (command_at total) (append_assoc front (token_format.written token) (fields_spelling c))
    ∙ rw (marked_again total c (token_format.written token ++ fields_spelling c) carries, token_again total token (fields_spelling c) is, fields_again total c fits) refl

-- ---- entries

pub entry_takes : (bytes : List ℕ) (e : Entry) → IsBytes bytes → entry_of bytes ≡ Ok e → EntryFits e × (bytes ≡ spelling e)
unfolding entry_of spelling
entry_takes bytes e fits is =
    let moment = bind_ok (value_at moment_format (length bytes) bytes) _ e is in
    let command = bind_ok (command_at (length bytes) moment.0.1) _ e moment.2 in
    let t = value_takes moment_format moment-IsFormat (length bytes) bytes moment.0 fits moment.1 in
    let u = command_takes (length bytes) moment.0.1 command.0 (IsBytes-rest (moment_format.written moment.0.0) moment.0.1 (subst IsBytes t.0 fits)) command.1 in
    subst (λ (d : Entry). EntryFits d × (bytes ≡ spelling d)) (ok_is (entry_with moment.0.0 command.0.0 command.0.1) e command.2) (
      record { moment = moment_before moment.0.0 t.1; token = u.token; carries = u.carries; command = u.fits },
      t.0 ∙ ap (λ (l : List ℕ). moment_format.written moment.0.0 ++ l) u.parts,
    )

pub entry_again : (e : Entry) → EntryFits e → entry_of (spelling e) ≡ Ok e
unfolding entry_of spelling
entry_again e fits =
    rw (
      value_again moment_format moment-IsFormat (length (spelling e)) e.moment (command_spelling e.token e.command) (moment_has e.moment fits.moment),
      command_again (length (spelling e)) e.token e.command fits.token fits.carries fits.command,
    ) refl

pub is_found : (bytes : List ℕ) (r : Result Entry EntryFault) → IsBytes bytes → EntryGives (λ e. e) r (entry_of bytes) → IfOk r (λ e. EntryFits e × (bytes ≡ spelling e))
is_found bytes (Ok e) fits given = entry_takes bytes e fits given
is_found bytes (Err e) fits given = tt

-- an entry is known by its spelling
pub spelling_tells : (a b : Entry) → EntryFits a → EntryFits b → spelling a ≡ spelling b → a ≡ b
spelling_tells a b fits_a fits_b same = ok_is a b (sym (entry_again a fits_a) ∙ ap entry_of same ∙ entry_again b fits_b)
