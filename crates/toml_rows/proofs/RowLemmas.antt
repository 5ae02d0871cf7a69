-- Rows in lists, and the search after a change.
use Rattle.std.proofs.Common.{◌≡◌, ℕ, ◌+◌, ◌<◌, ◌≤◌, ◌==◌, Bool, true, false, ◌||◌, List, [], ◌∷◌, ◌++◌, length, refl, sym, ap, ap₂, ◌∙◌, subst, arith, inl, inr, ◌⊎◌, length-append}
use Rattle.std.proofs.Math.ListN.{set, length-set}
use Rattle.std.proofs.lemmas.Bool.{cases_eq}
use Rattle.std.proofs.lemmas.Bool.Decides.{nat_tests}
use Rattle.std.proofs.lemmas.List.{get_or_append_left, get_or_at, get_or-set_same, get_or-set_other}
use Rattle.toml_rows.proofs.TableLemmas.{put_at, put_at-same, put_at-other}
use Rattle.toml_rows.specs.declared.row.Part.{Part}
use Rattle.toml_rows.specs.declared.row.What.{What}
use Rattle.toml_rows.specs.Search.{none, IsSearch, IsAt}
use Rattle.toml_rows.specs.Rows.{is_key, Row, HasKey, Grows, no_part, part_at, side_of, row_by, key_bit, bit_of, on_of, IsFoundBy, IsFound, IsFree, Pushes, Relinks, Adds, Puts, IsEmpty, IsTurn}
use Rattle.toml_rows.proofs.SearchLemmas.{same_search, outside, added, at_root, at_next, link_before}

-- ---- one more part in the lists

pub row_push : (parts : List Part) (names values : List (List ℕ)) (part : Part) (name : List ℕ) → length names ≡ length parts
    → length parts + 1 < none → part.low ≡ none → part.high ≡ none
    → Pushes (row_by parts names values) (row_by (parts ++ part ∷ []) (names ++ name ∷ []) values) part.table name part.what (length parts)
row_push parts names values part name same small low high =
    let old : (i : ℕ) → i < length parts → part_at (parts ++ part ∷ []) i ≡ part_at parts i = λ i less. get_or_append_left parts (part ∷ []) no_part i less in
    let here : part_at (parts ++ part ∷ []) (length parts) ≡ part = get_or_at parts part [] no_part (length parts) refl in
    let longer : length (parts ++ part ∷ []) ≡ length parts + 1 = omega (arith, length-append parts (part ∷ [])) in
    record {
      number = refl;
      small = rw longer small;
      grows = record {
        count = longer;
        named = omega (arith, length-append names (name ∷ []));
        values = refl;
        tables = λ i less. ap (λ (p : Part). p.table) (old i less);
        names = λ i less. get_or_append_left names (name ∷ []) [] i (omega arith);
        whats = λ i less. ap (λ (p : Part). p.what) (old i less);
        table = ap (λ (p : Part). p.table) here;
        name = get_or_at names name [] [] (length parts) same;
        what = ap (λ (p : Part). p.what) here;
      };
      links = λ i side less. ap (λ p. side_of p side) (old i less);
      ends = λ side. ap (λ p. side_of p side) here ∙ none_at part side low high;
    }
  where
    none_at : (part : Part) (side : Bool) → part.low ≡ none → part.high ≡ none → side_of part side ≡ none
    none_at part true low high = high
    none_at part false low high = low

-- ---- another part in the lists

part_set : (parts : List Part) (at : ℕ) (part : Part) (i : ℕ) → at < length parts
    → ((i ≡ at) × (part_at (set parts at part) i ≡ part)) ⊎ ((¬ (i ≡ at)) × (part_at (set parts at part) i ≡ part_at parts i))
part_set parts at part i low = elim (cases_eq i at) [
  | inl same ↦ inl (same, ap (part_at (set parts at part)) same ∙ get_or-set_same parts at part no_part low)
  | inr other ↦ inr (other, get_or-set_other parts at i part no_part other)
]

pub row_put : (parts : List Part) (names values : List (List ℕ)) (at : ℕ) (part : Part) (w : What) → at < length parts
    → part.table ≡ (part_at parts at).table → part.low ≡ (part_at parts at).low → part.high ≡ (part_at parts at).high → part.what ≡ w
    → Puts (row_by parts names values) (row_by (set parts at part) names values) at w
row_put parts names values at part w low table low_is high_is what =
    record {
      sets = record {
        count = length-set parts at part;
        named = refl;
        values = refl;
        tables = λ i less. elim (part_set parts at part i low) [
          | inl here ↦ ap (λ (p : Part). p.table) here.1 ∙ table ∙ ap (λ n. (part_at parts n).table) (sym here.0)
          | inr there ↦ ap (λ (p : Part). p.table) there.1
        ];
        names = λ i less. refl;
        whats = λ i less other. ap (λ (p : Part). p.what) (get_or-set_other parts at i part no_part other);
        what = ap (λ (p : Part). p.what) (get_or-set_same parts at part no_part low) ∙ what;
      };
      links = λ i side. elim (part_set parts at part i low) [
        | inl here ↦ ap (λ p. side_of p side) here.1 ∙ sides side ∙ ap (λ n. side_of (part_at parts n) side) (sym here.0)
        | inr there ↦ ap (λ p. side_of p side) there.1
      ];
    }
  where
    sides : (side : Bool) → side_of part side ≡ side_of (part_at parts at) side
    sides true = high_is
    sides false = low_is

pub row_relink : (parts : List Part) (names values : List (List ℕ)) (at : ℕ) (high : Bool) (n : ℕ) (part : Part) → at < length parts
    → part.table ≡ (part_at parts at).table → part.what ≡ (part_at parts at).what
    → side_of part high ≡ n → ((other : Bool) → ¬ (other ≡ high) → side_of part other ≡ side_of (part_at parts at) other)
    → Relinks (row_by parts names values) (row_by (set parts at part) names values) at high n
row_relink parts names values at high n part low table what link others =
    record {
      count = length-set parts at part;
      named = refl;
      values = refl;
      tables = λ i. elim (part_set parts at part i low) [
        | inl here ↦ ap (λ (p : Part). p.table) here.1 ∙ table ∙ ap (λ n. (part_at parts n).table) (sym here.0)
        | inr there ↦ ap (λ (p : Part). p.table) there.1
      ];
      names = λ i. refl;
      whats = λ i. elim (part_set parts at part i low) [
        | inl here ↦ ap (λ (p : Part). p.what) here.1 ∙ what ∙ ap (λ n. (part_at parts n).what) (sym here.0)
        | inr there ↦ ap (λ (p : Part). p.what) there.1
      ];
      link = ap (λ p. side_of p high) (get_or-set_same parts at part no_part low) ∙ link;
      links = λ i other apart. elim (part_set parts at part i low) [
        | inl here ↦ ap (λ p. side_of p other) here.1 ∙ others other (λ e. apart (here.0, e)) ∙ ap (λ n. side_of (part_at parts n) other) (sym here.0)
        | inr there ↦ ap (λ p. side_of p other) there.1
      ];
    }

-- ---- the search after a change

key_on : (row : Row) (i : ℕ) → is_key (row.what i) ≡ true → on_of row i ≡ true
key_on row i key = ap (λ b. b || i == 0) key

pub on_key : (row : Row) (i : ℕ) → on_of row i ≡ true → 0 < i → is_key (row.what i) ≡ true
on_key row i on some = let zero : (i == 0) ≡ false = grind (arith, nat_tests) in go (is_key (row.what i)) (i == 0) on zero
  where
    go : (a b : Bool) → (a || b) ≡ true → b ≡ false → a ≡ true
    go true b on zero = refl
    go false b on zero = absurd cc

-- what is found does not change if keys stay keys
pub found_put : (old new : Row) (at : ℕ) (w : What) → Puts old new at w → is_key (old.what at) ≡ is_key w → IsFound old → IsFound new
found_put old new at w puts same found =
    let s = puts.sets in
    let n : new.count ≡ old.count = s.count in
    let key : (i : ℕ) → i < old.count → is_key (new.what i) ≡ is_key (old.what i) = λ i low. elim (cases_eq i at) [
      | inl here ↦ ap (λ m. is_key (new.what m)) here ∙ ap is_key s.what ∙ sym same ∙ ap (λ m. is_key (old.what m)) (sym here)
      | inr other ↦ ap is_key (s.whats i low other)
    ] in
    let P : ℕ → Type 0 = λ m. IsSearch m (bit_of new) (on_of new) new.link found.0 in (
      found.0,
      subst P (sym n) (same_search old.count (bit_of old) (bit_of new) (on_of old) (on_of new) old.link new.link found.0 found.0 found.1
          (λ i m low. ap₂ (λ t k. key_bit t k m) (s.tables i low) (s.names i low))
          (λ i low. ap (λ b. b || i == 0) (key i low))
          (λ i b low. puts.links i b) (λ i low. refl)),
    )

-- the functions of the old row, below its count
below : (old new : Row) (t : ℕ) (k : List ℕ) (w : What) (n : ℕ) (level : ℕ → ℕ) → Pushes old new t k w n → IsFoundBy old level
    → IsSearch old.count (bit_of new) (on_of new) new.link level
below old new t k w n level pushes found =
    let g = pushes.grows in
    same_search old.count (bit_of old) (bit_of new) (on_of old) (on_of new) old.link new.link level level found
    (λ i m low. ap₂ (λ t k. key_bit t k m) (g.tables i low) (g.names i low))
    (λ i low. ap (λ w. is_key w || i == 0) (g.whats i low))
    (λ i b low. pushes.links i b low) (λ i low. refl)

pub found_push : (old new : Row) (t : ℕ) (k : List ℕ) (w : What) (n : ℕ) → Pushes old new t k w n → is_key w ≡ false → 0 < old.count → IsFound old → IsFound new
found_push old new t k w n pushes no_key some found =
    let g = pushes.grows in
    let zero : (old.count == 0) ≡ false = grind (arith, nat_tests) in
    let off : on_of new old.count ≡ false = ap₂ (λ a b. a || b) (ap is_key g.what ∙ no_key) zero in
    let P : ℕ → Type 0 = λ m. IsSearch m (bit_of new) (on_of new) new.link found.0 in (
      found.0,
      subst P (sym g.count)
          (outside old.count (bit_of new) (on_of new) new.link new.link found.0 (below old new t k w n found.0 pushes found.1) off (λ i b low. refl)),
    )

module _ (old mid new : Row) (t : ℕ) (k : List ℕ) (w : What) (n at : ℕ) (high : Bool) (pushes : Pushes old mid t k w n) (relinks : Relinks mid new at high n) where
  grows_link : Grows old new t k w
  grows_link = let g = pushes.grows in record {
    count = relinks.count ∙ g.count;
    named = relinks.named ∙ g.named;
    values = relinks.values ∙ g.values;
    tables = λ i low. relinks.tables i ∙ g.tables i low;
    names = λ i low. relinks.names i ∙ g.names i low;
    whats = λ i low. relinks.whats i ∙ g.whats i low;
    table = relinks.tables old.count ∙ g.table;
    name = relinks.names old.count ∙ g.name;
    what = relinks.whats old.count ∙ g.what;
  }

  module _ (level : ℕ → ℕ) (found : IsFoundBy old level) (seat : IsFree old level t k at high) (key : is_key w ≡ true) where
    level' : ℕ → ℕ
    level' = put_at old.count (level at + 1) level

    found_add : IsFound new
    unfolding level'
    found_add =
        let g = grows_link in
        let here = seat.at_it in
        let at_low : at < old.count = here.within in
        let not_new : (i : ℕ) → i < old.count → ¬ (i ≡ old.count) = λ i low is. absurd (omega arith) in
        let levels : (i : ℕ) → i < old.count → level' i ≡ level i = λ i low. put_at-other old.count (level at + 1) level i (not_new i low) in
        let bits : (i m : ℕ) → i < old.count → bit_of new i m ≡ bit_of old i m = λ i m low. ap₂ (λ t k. key_bit t k m) (g.tables i low) (g.names i low) in
        let bits_new : (m : ℕ) → bit_of new old.count m ≡ key_bit t k m = λ m. ap₂ (λ t k. key_bit t k m) g.table g.name in
        let ons : (i : ℕ) → i < old.count → on_of new i ≡ on_of old i = λ i low. ap (λ w. is_key w || i == 0) (g.whats i low) in
        let h : IsSearch old.count (bit_of new) (on_of new) mid.link level' =
        same_search old.count (bit_of old) (bit_of new) (on_of old) (on_of new) old.link mid.link level level' found bits ons
        (λ i b low. pushes.links i b low) levels in
        let side : bit_of new old.count seat.turn ≡ high = bits_new seat.turn ∙ sym seat.side in
        let at_new : IsAt old.count (bit_of new) (on_of new) mid.link level' (bit_of new old.count) at seat.turn = record {
          within = at_low;
          on_it = ons at at_low ∙ here.on_it;
          turns = levels at at_low ∙ here.turns;
          agree = λ m low. bits at m at_low ∙ here.agree m low ∙ sym (bits_new m);
        } in
        let number : n ≡ old.count = pushes.number in
        let small : old.count < none = let a = pushes.small in let gp = pushes.grows in omega (arith, gp.count) in
        let all = added old.count (bit_of new) (on_of new) mid.link new.link level' h at seat.turn at_new
        (ap (mid.link at) side ∙ pushes.links at high at_low ∙ seat.free)
        small
        (key_on new old.count (ap is_key g.what ∙ key))
        (put_at-same old.count (level at + 1) level old.count refl ∙ ap (λ m. m + 1) (sym (levels at at_low)))
        (λ b. relinks.links old.count b (λ both. not_new at at_low (sym both.0)) ∙ pushes.ends b)
        (ap (new.link at) side ∙ relinks.link ∙ number)
        (λ v b low apart. relinks.links v b (λ both. apart (both.0, both.1 ∙ sym side))) in
        let P : ℕ → Type 0 = λ m. IsSearch m (bit_of new) (on_of new) new.link level' in
        (level', subst P (sym g.count) all)

    pub row_add : Adds old new t k w n
    row_add = record {
      number = pushes.number;
      small = rw relinks.count pushes.small;
      grows = grows_link;
      found = found_add;
    }

-- the search, at the root
pub found_root : (row : Row) (level : ℕ → ℕ) → IsFoundBy row level → (t : ℕ) (k : List ℕ)
    → IsAt row.count (bit_of row) (on_of row) row.link level (key_bit t k) 0 0
found_root row level found t k = at_root row.count (bit_of row) (on_of row) row.link level found (key_bit t k)

same_bits : (row : Row) (j t : ℕ) (k : List ℕ) → HasKey row j t k → (m : ℕ) → bit_of row j m ≡ key_bit t k m
same_bits row j t k has m = ap₂ (λ t k. key_bit t k m) has.table has.name

-- a key of this name comes at the link or after it
pub found_before : (row : Row) (level : ℕ → ℕ) → IsFoundBy row level → (t : ℕ) (k : List ℕ) (at turn j : ℕ)
    → IsAt row.count (bit_of row) (on_of row) row.link level (key_bit t k) at turn → HasKey row j t k → at < j
    → (¬ (row.link at (key_bit t k turn) ≡ none)) × (row.link at (key_bit t k turn) ≤ j)
found_before row level found t k at turn j here has less =
    link_before row.count (bit_of row) (on_of row) row.link level found (key_bit t k) at turn j here less has.within (key_on row j has.key) (same_bits row j t k has)

pub found_next : (row : Row) (level : ℕ → ℕ) → IsFoundBy row level → (t : ℕ) (k : List ℕ) (at turn : ℕ)
    → IsAt row.count (bit_of row) (on_of row) row.link level (key_bit t k) at turn → ¬ (row.link at (key_bit t k turn) ≡ none)
    → IsAt row.count (bit_of row) (on_of row) row.link level (key_bit t k) (row.link at (key_bit t k turn)) (turn + 1)
    × (at < row.link at (key_bit t k turn)) × (is_key (row.what (row.link at (key_bit t k turn))) ≡ true)
found_next row level found t k at turn here some =
    let l = found.linked at (key_bit t k turn) here.within here.on_it some in
    let later = l.later in (
      at_next row.count (bit_of row) (on_of row) row.link level found (key_bit t k) at turn here some,
      l.later,
      on_key row (row.link at (key_bit t k turn)) l.on_it (omega arith),
    )

-- ---- the loop of the search

module _ (row : Row) (level : ℕ → ℕ) (found : IsFoundBy row level) (t : ℕ) (k : List ℕ) where
  pub turn_first : is_key (row.what 0) ≡ false → IsTurn row level t k 0 0
  turn_first root = record {
    at_it = found_root row level found t k;
    rises = omega arith;
    passed = λ j has. elim (cases_eq j 0) [
      | inl same ↦ let yes = has.key in let nope : is_key (row.what j) ≡ false = ap (λ i. is_key (row.what i)) same ∙ root in absurd cc
      | inr other ↦ omega arith
    ];
  }

  module _ (at turn : ℕ) (here : IsTurn row level t k at turn) (high : Bool) (next : ℕ) (bit : high ≡ key_bit t k turn) (is : next ≡ row.link at high) where
    next_is : next ≡ row.link at (key_bit t k turn)
    next_is = is ∙ ap (row.link at) bit

    pub turn_next : ¬ (next ≡ none) → ¬ ((row.table next ≡ t) × (row.name next ≡ k)) → IsTurn row level t k next (turn + 1)
    turn_next some other =
        let e = next_is in
        let n = found_next row level found t k at turn here.at_it (λ none. some (e ∙ none)) in
        let later : at < next = rw e n.1 in
        let P : ℕ → Type 0 = λ m. IsAt row.count (bit_of row) (on_of row) row.link level (key_bit t k) m (turn + 1) in
        let r = here.rises in
        record {
          at_it = subst P (sym e) n.0;
          rises = omega arith;
          passed = λ j has.
              let b = found_before row level found t k at turn j here.at_it has (here.passed j has) in
              elim (cases_eq j next) [
                | inl same ↦ absurd (other (ap row.table (sym same) ∙ has.table, ap row.name (sym same) ∙ has.name))
                | inr apart ↦ let le : next ≤ j = rw e b.1 in omega arith
              ];
        }

    pub turn_found : ¬ (next ≡ none) → row.table next ≡ t → row.name next ≡ k → HasKey row next t k
    turn_found some table name =
        let e = next_is in
        let n = found_next row level found t k at turn here.at_it (λ none. some (e ∙ none)) in
        let l = n.0 in
        record { within = rw e l.within; key = rw e n.2; table = table; name = name }

    pub turn_free : next ≡ none → IsFree row level t k at high
    turn_free nope = record {
      nothing = λ i has. (found_before row level found t k at turn i here.at_it has (here.passed i has)).0 (sym next_is ∙ nope);
      turn = turn;
      at_it = here.at_it;
      side = bit;
      free = sym is ∙ nope;
    }

  pub turn_end : (at turn : ℕ) → IsTurn row level t k at turn → row.count ≤ turn → ⊥
  turn_end at turn here end = let a = here.at_it in let w = a.within in let r = here.rises in absurd (omega arith)

-- ---- the root alone

pub found_empty : (row : Row) → IsEmpty row → IsFound row
found_empty row empty =
    let n : row.count ≡ 1 = empty.count in
    let zero : (i : ℕ) → i < row.count → i ≡ 0 = λ i low. omega arith in (
      (λ i. 0),
      record {
        some = omega arith;
        root = ap (λ w. is_key w || true) empty.what;
        top = refl;
        linked = λ v b low on some. absurd (some (ap (λ i. row.link i b) (zero v low) ∙ empty.links b));
        kept = λ v j less within on on' agree. absurd (omega arith);
        first = λ v w low low' on on' le agree. omega arith;
      },
    )
