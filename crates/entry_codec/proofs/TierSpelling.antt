-- A tariff in tiers or from a month on, as fields and as lists.
use Rattle.std.proofs.Common.{◌≡◌, ◌∙◌, ℕ, ◌-◌, ◌<◌, Bool, true, false, not, cond, List, [], ◌∷◌, ◌++◌, length, Result, Ok, Err, refl, sym, ap, ap₂, subst, append_assoc, arith}
use Rattle.std.specs.List.{list_all, flat_map}
use Rattle.std.proofs.lemmas.Bool.{and_from}
use Rattle.std.proofs.lemmas.Bool.Decides.{nat_tests}
use Rattle.std.proofs.lemmas.List.{append-nil}
use Rattle.moments.specs.Months.{months, year_of, month_of_year, month_number}
use Rattle.office_base.specs.Results.{◌>>=◌}
use Rattle.tariff.specs.Prices.{Prices, is_price, are_tiers}
use Rattle.tariff.specs.declared.tiers.Tier.{Tier}
use Rattle.office_types.specs.declared.command.Command.{Command}
use Rattle.office_types.specs.declared.command.Command.TheVariants as command
use Rattle.entry_codec.specs.declared.fault.EntryFault.{EntryFault}
use Rattle.entry_codec.specs.declared.fault.EntryFault.TheVariants as faults
use Rattle.entry_codec.specs.declared.kinds.Kind.TheVariants as kind
use Rattle.entry_codec.specs.Fields.{Field, Price, Tiers, Year, Month, format}
use Rattle.entry_codec.specs.Kinds.{CommandParts, Values, fields_of, command_of, is_plain, is_plain_command, is_own}
use Rattle.entry_codec.specs.Spelling.{written_values, are_values, fields_spelling, CommandFits}
use Rattle.entry_codec.specs.Reading.{place, value_at, values_at, items_at, kind_at}
use Rattle.entry_codec.proofs.Laws.{fits_of, same_parts}
use Rattle.entry_codec.proofs.PriceLemmas.{prices_have}
use Rattle.entry_codec.proofs.TierLemmas.{all_have}
use Rattle.entry_codec.proofs.Repeated.{IsFaultOf, only_ok, firsts, firsts_all, times, joined, then_fields, reads, written_times, have_times}

abbrev Storage : Type 0
Storage = List (List Tier)

abbrev prices_behind : List Field
prices_behind = times Price 0 5 []

abbrev behind : List Field
behind = times Tiers [] 6 prices_behind

abbrev lists_of : Storage → List ℕ → Values behind
lists_of s t = joined Tiers [] 6 prices_behind s (joined Price 0 5 [] t tt)

abbrev all_of : ℕ → ℕ → Storage → List ℕ → Values (fields_of kind.SetTiers)
all_of year month s t = (year, (month, lists_of s t))

abbrev pub tariff_from : ℕ → Storage → List ℕ → Prices
tariff_from from s t = record { from = from; storage = s; transition = t }

-- ---- reading

by_lists : (total : ℕ) (bytes : List ℕ) → values_at behind total bytes
    ≡ (items_at (format Tiers) 6 total bytes >>= λ s. items_at (format Price) 5 total s.1 >>= λ t. Ok (lists_of s.0 t.0, t.1))
by_lists total bytes =
    sym (only_ok (values_at behind total bytes)) ∙ reads Tiers [] 6 prices_behind total bytes (λ v. Ok v) ∙ by (items_at (format Tiers) 6 total bytes)
  where
    by : (r : Result (Storage × List ℕ) ℕ) → (r >>= then_fields Tiers [] 6 prices_behind total (λ v. Ok v))
        ≡ (r >>= λ s. items_at (format Price) 5 total s.1 >>= λ t. Ok (lists_of s.0 t.0, t.1))
    by (Err at) = refl
    by (Ok s) = reads Price 0 5 [] total s.1 (λ v. Ok (joined Tiers [] 6 prices_behind s.0 v.0, v.1))

-- what is done with the values
abbrev finish : ℕ → List ℕ → Values (fields_of kind.SetTiers) × List ℕ → Result (Command × List ℕ) ℕ
finish total bytes read = cond (is_own kind.SetTiers read.0) (Ok (command_of kind.SetTiers read.0, read.1)) (Err (place total bytes - 1))

abbrev with_month : ℕ → Values behind × List ℕ → Values (Month ∷ behind) × List ℕ
with_month month o = ((month, o.0), o.1)

abbrev with_year : ℕ → Values (Month ∷ behind) × List ℕ → Values (fields_of kind.SetTiers) × List ℕ
with_year year o = ((year, o.0), o.1)

abbrev months_at : ℕ → Result (ℕ × List ℕ) ℕ → Result (Values (Month ∷ behind) × List ℕ) ℕ
months_at total r = r >>= λ m. values_at behind total m.1 >>= λ o. Ok (with_month m.0 o)

abbrev years_at : ℕ → Result (Values (Month ∷ behind) × List ℕ) ℕ → Result (Values (fields_of kind.SetTiers) × List ℕ) ℕ
years_at year r = r >>= λ o. Ok (with_year year o)

abbrev after_month : ℕ → List ℕ → ℕ → Result (ℕ × List ℕ) ℕ → Result (Command × List ℕ) ℕ
after_month total bytes year r = years_at year (months_at total r) >>= finish total bytes

abbrev after_year : ℕ → List ℕ → Result (ℕ × List ℕ) ℕ → Result (Command × List ℕ) ℕ
after_year total bytes r = (r >>= λ y. years_at y.0 (months_at total (value_at (format Month) total y.1))) >>= finish total bytes

kind_is : (total : ℕ) (bytes : List ℕ) → kind_at kind.SetTiers total bytes ≡ after_year total bytes (value_at (format Year) total bytes)
unfolding kind_at
kind_is total bytes = refl

month_is : (total : ℕ) (bytes : List ℕ) (year : ℕ) (rest : List ℕ) → value_at (format Year) total bytes ≡ Ok (year, rest)
    → kind_at kind.SetTiers total bytes ≡ after_month total bytes year (value_at (format Month) total rest)
month_is total bytes year rest is = kind_is total bytes ∙ ap (after_year total bytes) is

abbrev after_lists : ℕ → List ℕ → ℕ → ℕ → Result (Values behind × List ℕ) ℕ → Result (Command × List ℕ) ℕ
after_lists total bytes year month r = years_at year (r >>= λ o. Ok (with_month month o)) >>= finish total bytes

lists_are : (total : ℕ) (bytes : List ℕ) (year : ℕ) (one : List ℕ) (month : ℕ) (two : List ℕ) → value_at (format Year) total bytes ≡ Ok (year, one) → value_at (format Month) total one ≡ Ok (month, two)
    → kind_at kind.SetTiers total bytes ≡ after_lists total bytes year month (values_at behind total two)
lists_are total bytes year one month two is_year is_month = month_is total bytes year one is_year ∙ ap (after_month total bytes year) is_month

pub year_fails : (total : ℕ) (bytes : List ℕ) (e : EntryFault) → IsFaultOf e (value_at (format Year) total bytes) → IsFaultOf e (kind_at kind.SetTiers total bytes)
year_fails total bytes faults.NoMemory is = tt
year_fails total bytes (faults.BadEntry at) is = kind_is total bytes ∙ ap (after_year total bytes) is

pub month_fails : (total : ℕ) (bytes : List ℕ) (year : ℕ) (rest : List ℕ) (e : EntryFault) → value_at (format Year) total bytes ≡ Ok (year, rest) → IsFaultOf e (value_at (format Month) total rest)
    → IsFaultOf e (kind_at kind.SetTiers total bytes)
month_fails total bytes year rest faults.NoMemory is_year is = tt
month_fails total bytes year rest (faults.BadEntry at) is_year is = month_is total bytes year rest is_year ∙ ap (after_month total bytes year) is

module _ (total : ℕ) (bytes : List ℕ) (year : ℕ) (one : List ℕ) (month : ℕ) (two : List ℕ)
    (is_year : value_at (format Year) total bytes ≡ Ok (year, one)) (is_month : value_at (format Month) total one ≡ Ok (month, two)) where
  pub storage_fails : (e : EntryFault) → IsFaultOf e (items_at (format Tiers) 6 total two) → IsFaultOf e (kind_at kind.SetTiers total bytes)
  storage_fails faults.NoMemory is = tt
  storage_fails (faults.BadEntry at) is =
      lists_are total bytes year one month two is_year is_month
      ∙ ap (after_lists total bytes year month) (by_lists total two ∙ ap (λ r. r >>= λ s. items_at (format Price) 5 total s.1 >>= λ t. Ok (lists_of s.0 t.0, t.1)) is)

  pub moves_fail : (s : Storage) (three : List ℕ) (e : EntryFault) → items_at (format Tiers) 6 total two ≡ Ok (s, three) → IsFaultOf e (items_at (format Price) 5 total three) → IsFaultOf e (kind_at kind.SetTiers total bytes)
  moves_fail s three faults.NoMemory is_s is = tt
  moves_fail s three (faults.BadEntry at) is_s is =
      lists_are total bytes year one month two is_year is_month
      ∙ ap (after_lists total bytes year month)
      (by_lists total two ∙ ap (λ r. r >>= λ s. items_at (format Price) 5 total s.1 >>= λ t. Ok (lists_of s.0 t.0, t.1)) is_s
      ∙ ap (λ r. r >>= λ t. Ok (lists_of s t.0, t.1)) is)

  module _ (s : Storage) (three t left : List ℕ) (is_s : items_at (format Tiers) 6 total two ≡ Ok (s, three)) (is_t : items_at (format Price) 5 total three ≡ Ok (t, left))
      (six : length s ≡ 6) (five : length t ≡ 5) where
    command_is : command_of kind.SetTiers (all_of year month s t) ≡ command.SetTariff (tariff_from (month_number year month) s t)
    command_is = ap₂ (λ (a : Storage) (b : List ℕ). command.SetTariff (tariff_from (month_number year month) a b)) (firsts_all Tiers [] 6 s six) (firsts_all Price 0 5 t five)

    abbrev ending : List ℕ → Command → Result (Command × List ℕ) ℕ
    ending rest c = cond (not (is_plain_command c)) (Ok (c, rest)) (Err (place total bytes - 1))

    finished : kind_at kind.SetTiers total bytes
        ≡ cond (not (is_plain (tariff_from (month_number year month) s t))) (Ok (command.SetTariff (tariff_from (month_number year month) s t), left)) (Err (place total bytes - 1))
    finished =
        lists_are total bytes year one month two is_year is_month
        ∙ ap (after_lists total bytes year month)
        (by_lists total two ∙ ap (λ r. r >>= λ s. items_at (format Price) 5 total s.1 >>= λ t. Ok (lists_of s.0 t.0, t.1)) is_s
        ∙ ap (λ r. r >>= λ t. Ok (lists_of s t.0, t.1)) is_t)
        ∙ ap (ending left) command_is

    pub tiers_read : is_plain (tariff_from (month_number year month) s t) ≡ false → kind_at kind.SetTiers total bytes ≡ Ok (command.SetTariff (tariff_from (month_number year month) s t), left)
    tiers_read is = finished ∙ ap (λ (b : Bool). cond (not b) (Ok (command.SetTariff (tariff_from (month_number year month) s t), left)) (Err (place total bytes - 1))) is

    pub plain_read : is_plain (tariff_from (month_number year month) s t) ≡ true → kind_at kind.SetTiers total bytes ≡ Err (place total bytes - 1)
    plain_read is = finished ∙ ap (λ (b : Bool). cond (not b) (Ok (command.SetTariff (tariff_from (month_number year month) s t), left)) (Err (place total bytes - 1))) is

-- ---- writing

module _ (from : ℕ) (s : Storage) (t : List ℕ) (small : from < months) (six : length s ≡ 6) (five : length t ≡ 5)
    (are_s : list_all are_tiers s ≡ true) (are_t : list_all is_price t ≡ true) (other : is_plain (tariff_from from s t) ≡ false) where
  abbrev values : Values (fields_of kind.SetTiers)
  values = all_of (year_of from) (month_of_year from) s t

  is_command : command_of kind.SetTiers values ≡ command.SetTariff (tariff_from from s t)
  is_command =
      let same : month_number (year_of from) (month_of_year from) ≡ from = omega arith in
      ap₂ (λ (a : Storage) (b : List ℕ). command.SetTariff (tariff_from (month_number (year_of from) (month_of_year from)) a b)) (firsts_all Tiers [] 6 s six) (firsts_all Price 0 5 t five)
      ∙ ap (λ (m : ℕ). command.SetTariff (tariff_from m s t)) same

  own : is_own kind.SetTiers values ≡ true
  own = ap (λ (c : Command). not (is_plain_command c)) is_command ∙ ap not other

  year_has : (format Year).has (year_of from) ≡ true
  unfolding format
  year_has = grind (arith, nat_tests)

  month_has : (format Month).has (month_of_year from) ≡ true
  unfolding format
  month_has = grind (arith, nat_tests)

  has : are_values (fields_of kind.SetTiers) values ≡ true
  has =
      let first = ap (list_all (format Tiers).has) (firsts_all Tiers [] 6 s six) ∙ all_have s are_s in
      let second = ap (list_all (format Price).has) (firsts_all Price 0 5 t five) ∙ prices_have t are_t in
      and_from _ _ year_has (and_from _ _ month_has (have_times Tiers [] 6 prices_behind s (joined Price 0 5 [] t tt) first (have_times Price 0 5 [] t tt second refl)))

  pub tiered_fits : CommandFits (command.SetTariff (tariff_from from s t))
  tiered_fits = subst CommandFits is_command (fits_of kind.SetTiers values has own)

  abbrev dates : List ℕ
  dates = (format Year).written (year_of from) ++ (format Month).written (month_of_year from)

  written_behind : written_values behind (lists_of s t) ≡ flat_map (format Tiers).written s ++ flat_map (format Price).written t
  written_behind =
      written_times Tiers [] 6 prices_behind s (joined Price 0 5 [] t tt)
      ∙ ap₂ (λ (a b : List ℕ). a ++ b) (ap (flat_map (format Tiers).written) (firsts_all Tiers [] 6 s six))
      (written_times Price 0 5 [] t tt ∙ append-nil (flat_map (format Price).written (firsts Price 0 5 t)) ∙ ap (flat_map (format Price).written) (firsts_all Price 0 5 t five))

  spelled : fields_spelling (command.SetTariff (tariff_from from s t))
      ≡ (format Year).written (year_of from) ++ ((format Month).written (month_of_year from) ++ (flat_map (format Tiers).written s ++ flat_map (format Price).written t))
  unfolding fields_spelling
  spelled =
      ap fields_spelling (sym is_command)
      ∙ ap (λ (p : CommandParts). written_values (fields_of p.kind) p.values) (same_parts kind.SetTiers values has own)
      ∙ ap (λ (l : List ℕ). (format Year).written (year_of from) ++ ((format Month).written (month_of_year from) ++ l)) written_behind

  pub tiered_put : (p : Prices) (out second third fourth : List ℕ) → p ≡ tariff_from from s t
      → second ≡ out ++ dates → third ≡ second ++ flat_map (format Tiers).written s → fourth ≡ third ++ flat_map (format Price).written t
      → fourth ≡ out ++ fields_spelling (command.SetTariff p)
  tiered_put p out second third fourth is b c d =
      let whole : fourth ≡ ((out ++ dates) ++ flat_map (format Tiers).written s) ++ flat_map (format Price).written t =
      d ∙ ap (λ (l : List ℕ). l ++ flat_map (format Price).written t) (c ∙ ap (λ (l : List ℕ). l ++ flat_map (format Tiers).written s) b) in
      whole
      ∙ regroup out ((format Year).written (year_of from)) ((format Month).written (month_of_year from)) (flat_map (format Tiers).written s) (flat_map (format Price).written t)
      ∙ ap (λ (l : List ℕ). out ++ l) (sym spelled) ∙ ap (λ (q : Prices). out ++ fields_spelling (command.SetTariff q)) (sym is)
    where
      regroup : (o y m s t : List ℕ) → ((o ++ (y ++ m)) ++ s) ++ t ≡ o ++ (y ++ (m ++ (s ++ t)))
      regroup o y m s t = simp append_assoc
