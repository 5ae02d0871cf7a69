-- The prices of a tariff, as fields and as lists.
use Rattle.std.proofs.Common.{◌≡◌, ◌∙◌, ℕ, ◌+◌, ◌^◌, ◌<◌, true, List, [], ◌∷◌, ◌++◌, length, map, take, Result, Ok, Err, refl, sym, ap, ap₂, subst, append_assoc, arith}
use Rattle.std.specs.Prelude.{slice_set}
use Rattle.std.specs.List.{list_all, flat_map}
use Rattle.std.proofs.lemmas.Bool.{lt-ltb, leb-true, and_parts, and_from}
use Rattle.std.proofs.lemmas.List.{append-nil, take_more_set}
use Rattle.office_base.specs.Results.{◌>>=◌}
use Rattle.tariff.specs.Prices.{Prices, is_price, one_tier}
use Rattle.office_types.specs.declared.command.Command.{Command}
use Rattle.office_types.specs.declared.command.Command.TheVariants as command
use Rattle.entry_codec.specs.declared.fault.EntryFault.{EntryFault}
use Rattle.entry_codec.specs.declared.fault.EntryFault.TheVariants as faults
use Rattle.entry_codec.specs.declared.kinds.Kind.TheVariants as kind
use Rattle.entry_codec.specs.Fields.{Price, format}
use Rattle.entry_codec.specs.Kinds.{Values, fields_of, command_of}
use Rattle.entry_codec.specs.Spelling.{written_values, fields_spelling, CommandFits}
use Rattle.entry_codec.specs.Reading.{items_at, kind_at}
use Rattle.entry_codec.proofs.Laws.{fits_of}
use Rattle.entry_codec.proofs.Repeated.{IsFaultOf, firsts, firsts_all, times, joined, then_fields, reads, written_times, have_times}

abbrev Read : Type 0
Read = Result (List ℕ × List ℕ) ℕ

-- ---- the loop

all_push : (xs : List ℕ) (x : ℕ) → list_all is_price xs ≡ true → is_price x ≡ true → list_all is_price (xs ++ x ∷ []) ≡ true
all_push [] x all is = and_from _ _ is refl
all_push (y ∷ ys) x all is = let parts = and_parts (is_price y) (list_all is_price ys) all in and_from _ _ parts.0 (all_push ys x parts.1 is)

pub prices_after : (room : List ℕ) (i x : ℕ) → i < length room → list_all is_price (take i room) ≡ true → is_price x ≡ true → list_all is_price (take (i + 1) (slice_set room i x)) ≡ true
prices_after room i x lt all is = ap (list_all is_price) (take_more_set room i x lt) ∙ all_push (take i room) x all is

-- ---- reading

abbrev tariff_of : List ℕ → List ℕ → Command
tariff_of s t = command.SetTariff (record { from = 0; storage = map one_tier s; transition = t })

abbrev ends : Values (fields_of kind.SetTariff) × List ℕ → Result (Command × List ℕ) ℕ
ends read = Ok (command_of kind.SetTariff read.0, read.1)

by_lists : (total : ℕ) (bytes : List ℕ) → kind_at kind.SetTariff total bytes
    ≡ (items_at (format Price) 6 total bytes >>= λ s. items_at (format Price) 5 total s.1 >>= λ t. Ok (tariff_of (firsts Price 0 6 s.0) (firsts Price 0 5 t.0), t.1))
unfolding kind_at
by_lists total bytes = reads Price 0 6 (times Price 0 5 []) total bytes ends ∙ by (items_at (format Price) 6 total bytes)
  where
    by : (r : Read) → (r >>= then_fields Price 0 6 (times Price 0 5 []) total ends)
        ≡ (r >>= λ s. items_at (format Price) 5 total s.1 >>= λ t. Ok (tariff_of (firsts Price 0 6 s.0) (firsts Price 0 5 t.0), t.1))
    by (Err at) = refl
    by (Ok s) = reads Price 0 5 [] total s.1 (λ v. ends (joined Price 0 6 (times Price 0 5 []) s.0 v.0, v.1))

pub tariff_read : (total : ℕ) (bytes s rest t left : List ℕ) → items_at (format Price) 6 total bytes ≡ Ok (s, rest) → items_at (format Price) 5 total rest ≡ Ok (t, left)
    → length s ≡ 6 → length t ≡ 5 → kind_at kind.SetTariff total bytes ≡ Ok (tariff_of s t, left)
tariff_read total bytes s rest t left first second six five =
    by_lists total bytes ∙ ap (λ (r : Read). r >>= λ s. items_at (format Price) 5 total s.1 >>= λ t. Ok (tariff_of (firsts Price 0 6 s.0) (firsts Price 0 5 t.0), t.1)) first
    ∙ ap (λ (r : Read). r >>= λ t. Ok (tariff_of (firsts Price 0 6 s) (firsts Price 0 5 t.0), t.1)) second
    ∙ ap₂ (λ (a b : List ℕ). Ok (tariff_of a b, left)) (firsts_all Price 0 6 s six) (firsts_all Price 0 5 t five)

pub storage_fails : (total : ℕ) (bytes : List ℕ) (e : EntryFault) → IsFaultOf e (items_at (format Price) 6 total bytes) → IsFaultOf e (kind_at kind.SetTariff total bytes)
storage_fails total bytes faults.NoMemory first = tt
storage_fails total bytes (faults.BadEntry at) first =
    by_lists total bytes ∙ ap (λ (r : Read). r >>= λ s. items_at (format Price) 5 total s.1 >>= λ t. Ok (tariff_of (firsts Price 0 6 s.0) (firsts Price 0 5 t.0), t.1)) first

pub transition_fails : (total : ℕ) (bytes s rest : List ℕ) (e : EntryFault) → items_at (format Price) 6 total bytes ≡ Ok (s, rest) → IsFaultOf e (items_at (format Price) 5 total rest)
    → IsFaultOf e (kind_at kind.SetTariff total bytes)
transition_fails total bytes s rest faults.NoMemory first second = tt
transition_fails total bytes s rest (faults.BadEntry at) first second =
    by_lists total bytes ∙ ap (λ (r : Read). r >>= λ s. items_at (format Price) 5 total s.1 >>= λ t. Ok (tariff_of (firsts Price 0 6 s.0) (firsts Price 0 5 t.0), t.1)) first
    ∙ ap (λ (r : Read). r >>= λ t. Ok (tariff_of (firsts Price 0 6 s) (firsts Price 0 5 t.0), t.1)) second

-- ---- writing

abbrev w : ℕ → List ℕ
w = (format Price).written

price_has : (x : ℕ) → is_price x ≡ true → (format Price).has x ≡ true
unfolding format
price_has x is = and_from _ _ (lt-ltb x (256 ^ 4) (omega (arith, leb-true x 1_048_576 is))) is

pub prices_have : (xs : List ℕ) → list_all is_price xs ≡ true → list_all (format Price).has xs ≡ true
prices_have [] all = refl
prices_have (x ∷ xs) all = let parts = and_parts (is_price x) (list_all is_price xs) all in and_from _ _ (price_has x parts.0) (prices_have xs parts.1)

abbrev values_of : List ℕ → List ℕ → Values (fields_of kind.SetTariff)
values_of s t = joined Price 0 6 (times Price 0 5 []) s (joined Price 0 5 [] t tt)

tariff_is : (s t : List ℕ) → length s ≡ 6 → length t ≡ 5 → command_of kind.SetTariff (values_of s t) ≡ tariff_of s t
tariff_is s t six five = ap₂ (λ (a b : List ℕ). tariff_of a b) (firsts_all Price 0 6 s six) (firsts_all Price 0 5 t five)

pub tariff_written : (s t : List ℕ) → length s ≡ 6 → length t ≡ 5 → fields_spelling (tariff_of s t) ≡ flat_map w s ++ flat_map w t
unfolding fields_spelling
tariff_written s t six five =
    let second = written_times Price 0 5 [] t tt ∙ append-nil (flat_map w (firsts Price 0 5 t)) in
    let values : written_values (fields_of kind.SetTariff) (values_of s t) ≡ flat_map w (firsts Price 0 6 s) ++ flat_map w (firsts Price 0 5 t) =
    written_times Price 0 6 (times Price 0 5 []) s (joined Price 0 5 [] t tt) ∙ ap (λ (l : List ℕ). flat_map w (firsts Price 0 6 s) ++ l) second in
    ap fields_spelling (sym (tariff_is s t six five)) ∙ values
    ∙ ap₂ (λ (a b : List ℕ). flat_map w a ++ flat_map w b) (firsts_all Price 0 6 s six) (firsts_all Price 0 5 t five)

pub tariff_fits : (s t : List ℕ) → length s ≡ 6 → length t ≡ 5 → list_all is_price s ≡ true → list_all is_price t ≡ true → CommandFits (tariff_of s t)
tariff_fits s t six five all_s all_t =
    let first = ap (list_all (format Price).has) (firsts_all Price 0 6 s six) ∙ prices_have s all_s in
    let second = ap (list_all (format Price).has) (firsts_all Price 0 5 t five) ∙ prices_have t all_t in
    subst CommandFits (tariff_is s t six five)
    (fits_of kind.SetTariff (values_of s t) (have_times Price 0 6 (times Price 0 5 []) s (joined Price 0 5 [] t tt) first (have_times Price 0 5 [] t tt second refl)) refl)

pub tariff_put : (p : Prices) (s t out second third : List ℕ) → p ≡ record { from = 0; storage = map one_tier s; transition = t } → length s ≡ 6 → length t ≡ 5
    → second ≡ out ++ flat_map w s → third ≡ second ++ flat_map w t → third ≡ out ++ fields_spelling (command.SetTariff p)
tariff_put p s t out second third is six five b c =
    c ∙ ap (λ (l : List ℕ). l ++ flat_map w t) b ∙ append_assoc out (flat_map w s) (flat_map w t)
    ∙ ap (λ (l : List ℕ). out ++ l) (sym (tariff_written s t six five)) ∙ ap (λ (q : Prices). out ++ fields_spelling (command.SetTariff q)) (sym is)
