-- The rows of the router of a table.
use Rattle.std.proofs.Common.{◌≡◌, ℕ, ◌+◌, ◌^◌, ◌<◌, ◌≤◌, Bool, true, false, cond, List, [], ◌∷◌, length, get_or, map}
use Rattle.std.proofs.Common.{refl, sym, ap, ◌∙◌, subst, arith, inl, inr, ◌⊎◌, Result, Ok, Err, Some, None}
use Rattle.std.proofs.lemmas.Bool.{cases_lt}
use Rattle.std.proofs.lemmas.List.{get_or-map, length-map}
use Rattle.matchit.specs.Rows.{RowsOf, comes_before}
use Rattle.matchit.specs.Router.{RouteOf, route_from, Inserted, InsertsRead, nearest, nearest_from, nearer}
use Rattle.matchit.specs.Conflict.{conflicts}
use Rattle.matchit.specs.Order.{placed, common_len}
use Rattle.matchit.specs.Route.{Scan, parse_route}
use Rattle.matchit.specs.declared.error.InsertError.{InsertError}
use Rattle.matchit.specs.declared.error.InsertError.TheVariants.{Conflict, InvalidParam, InvalidParamSegment, InvalidCatchAll, OutOfMemory}
use Rattle.route_table.specs.Patterns.{Shape, is_pattern, are_disjoint}
use Rattle.route_table.specs.Tables.{patterns_of}
use Rattle.route_table.specs.Routed.{pattern_text, tokens_of, Among, IsRow, AreRows, HasPlace, AddsRow, HoldsRoutes, IsRouted}
use Rattle.route_table.proofs.Clear.{apart_conflict}
use Rattle.route_table.proofs.Spelled.{reads, longer}
use Rattle.route_table.proofs.Unique.{pattern_at, apart_at, patterns_length}

-- ---- one more row

-- what matchit read of a pattern's text is one more row
pub adds : (shapes : List Shape) (text : List ℕ) (place : ℕ) (old new : RowsOf (RouteOf ℕ)) → text ≡ pattern_text shapes → length text < 2 ^ 64
    → is_pattern shapes ≡ true → InsertsRead (parse_route text) place old new (Ok tt) → AddsRow (tokens_of shapes) place old new
adds shapes text place old new e short fine inserts =
    let read = reads shapes fine in
    let inserted = subst (λ (r : Result Scan InsertError). InsertsRead r place old new (Ok tt)) (ap parse_route e ∙ read.is) inserts in
    record {
      row = route_from read.last place;
      value = refl;
      route = record { kept = read.pattern; names = read.names; short = omega (arith, short, ap length e, longer shapes) };
      added = inserted.1 ∙ ap (λ (p : List ℕ). placed (p, route_from read.last place) old) read.pattern;
    }

-- if no row is in its way, only out of memory refuses it
pub refused : (shapes : List Shape) (text : List ℕ) (place : ℕ) (old new : RowsOf (RouteOf ℕ)) (e : InsertError) → text ≡ pattern_text shapes
    → is_pattern shapes ≡ true → nearest (tokens_of shapes) old ≡ None → InsertsRead (parse_route text) place old new (Err e) → e ≡ OutOfMemory
refused shapes text place old new e is fine free inserts =
    let read = reads shapes fine in
    by read.last e (ap (λ (p : List ℕ). nearest p old) read.pattern ∙ free)
    (subst (λ (r : Result Scan InsertError). InsertsRead r place old new (Err e)) (ap parse_route is ∙ read.is) inserts)
  where
    by : (s : Scan) (e : InsertError) → nearest s.pattern old ≡ None → Inserted (route_from s place) old new (Err e) → e ≡ OutOfMemory
    by s (Conflict with) none i = let other : None ≡ Some i.1.0 = sym none ∙ i.1.1 in absurd (cc)
    by s OutOfMemory none i = refl
    by s InvalidParamSegment none i = absurd i.1
    by s InvalidParam none i = absurd i.1
    by s InvalidCatchAll none i = absurd i.1

-- ---- the rows of the first patterns

-- of the first n, and so of one more
one_more : (patterns : List (List Shape)) (n : ℕ) (rows : RowsOf (RouteOf ℕ)) → AreRows patterns n rows → AreRows patterns (n + 1) rows
one_more patterns n [] are = tt
one_more patterns n ((tokens, row) ∷ rows) are =
    (record { place = omega (arith, are.0.place); is = are.0.is; route = are.0.route }, one_more patterns n rows are.1)

are_placed : (patterns : List (List Shape)) (n : ℕ) (p : List ℕ) (row : RouteOf ℕ) (rows : RowsOf (RouteOf ℕ)) → IsRow patterns n p row
    → AreRows patterns n rows → AreRows patterns n (placed (p, row) rows)
are_placed patterns n p row [] is rest = (is, tt)
are_placed patterns n p row ((q, other) ∷ rows) is rest = go (comes_before p q) (are_placed patterns n p row rows is rest.1)
  where
    go : (v : Bool) → AreRows patterns n (placed (p, row) rows)
        → AreRows patterns n (cond v ((p, row) ∷ (q, other) ∷ rows) ((q, other) ∷ placed (p, row) rows))
    go true later = (is, rest)
    go false later = (rest.0, later)

placed_among : {K : Type 0} (p : List ℕ) (row : K) (rows : RowsOf K) → Among (placed (p, row) rows) p row
placed_among p row [] = inl (refl, refl)
placed_among {K} p row ((q, other) ∷ rows) = go (comes_before p q) (placed_among p row rows)
  where
    go : (v : Bool) → Among (placed (p, row) rows) p row → Among (cond v ((p, row) ∷ (q, other) ∷ rows) ((q, other) ∷ placed (p, row) rows)) p row
    go true later = inl (refl, refl)
    go false later = inr later

stays_among : {K : Type 0} (p : List ℕ) (row : K) (rows : RowsOf K) (q : List ℕ) (other : K) → Among rows q other → Among (placed (p, row) rows) q other
stays_among p row [] q other a = absurd a
stays_among {K} p row ((r, third) ∷ rows) q other a = go (comes_before p r) (stays_among p row rows q other) a
  where
    go : (v : Bool) → (Among rows q other → Among (placed (p, row) rows) q other) → Among ((r, third) ∷ rows) q other
        → Among (cond v ((p, row) ∷ (r, third) ∷ rows) ((r, third) ∷ placed (p, row) rows)) q other
    go true later a = inr a
    go false later (inl same) = inl same
    go false later (inr a) = inr (later a)

holds_more : (patterns : List (List Shape)) (n : ℕ) (old new : RowsOf (RouteOf ℕ)) → HoldsRoutes patterns n old
    → AddsRow (tokens_of (get_or patterns n [])) n old new → HoldsRoutes patterns (n + 1) new
holds_more patterns n old new holds adds = subst (λ (rows : RowsOf (RouteOf ℕ)). HoldsRoutes patterns (n + 1) rows) (sym adds.added) (record {
  only = are_placed patterns (n + 1) tokens adds.row old is_row (one_more patterns n old holds.only);
  whole = λ place within. by place within (cases_lt place n);
})
  where
    tokens : List ℕ
    tokens = tokens_of (get_or patterns n [])

    is_row : IsRow patterns (n + 1) tokens adds.row
    is_row = record {
      place = omega (arith, adds.value);
      is = ap (λ (i : ℕ). tokens_of (get_or patterns i [])) (sym adds.value);
      route = adds.route;
    }

    by : (place : ℕ) → place < n + 1 → (place < n) ⊎ (n ≤ place) → HasPlace (tokens_of (get_or patterns place [])) (placed (tokens, adds.row) old) place
    by place within (inl less) =
        let has = holds.whole place less in record {
          row = has.row;
          value = has.value;
          among = stays_among tokens adds.row old (tokens_of (get_or patterns place [])) has.row has.among;
        }
    by place within (inr last) =
        let is : n ≡ place = omega (arith, within, last) in
        subst (λ (i : ℕ). HasPlace (tokens_of (get_or patterns i [])) (placed (tokens, adds.row) old) i) is
        (record { row = adds.row; value = adds.value; among = placed_among tokens adds.row old })

-- a pattern that is apart from all of them has no row in its way
none_near : (patterns : List (List Shape)) (n : ℕ) (rows : RowsOf (RouteOf ℕ)) → n < length patterns → are_disjoint patterns ≡ true
    → AreRows patterns n rows → nearest_from (tokens_of (get_or patterns n [])) (None, 0) rows ≡ None
none_near patterns n [] within apart are = refl
none_near patterns n ((tokens, row) ∷ rows) within apart are =
    let p = tokens_of (get_or patterns n []) in
    let less = are.0.place in
    let before : row.value < length patterns = omega (arith, less, within) in
    let none : conflicts p tokens ≡ false = ap (λ (t : List ℕ). conflicts p t) are.0.is
    ∙ apart_conflict (get_or patterns row.value []) (get_or patterns n []) (pattern_at patterns row.value before apart)
    (pattern_at patterns n within apart) (apart_at patterns row.value n less within apart) in
    ap (λ (v : Bool). nearest_from p (cond v (nearer (None, 0) (common_len p tokens) row) (None, 0)) rows) none
    ∙ none_near patterns n rows within apart are.1

-- ---- the table's own rows

module _ {X V : Type 0} (pattern : X → List Shape) (value : X → V) (rows : List X) where
  -- a row, as callers see it, and the patterns of all
  abbrev row : X → List Shape × V
  row x = (pattern x, value x)

  abbrev all : List (List Shape)
  all = patterns_of (map row rows)

  all_length : length all ≡ length rows
  all_length = patterns_length (map row rows) ∙ length-map rows row

  pattern_is : (i : ℕ) (d : X) → i < length rows → get_or all i [] ≡ pattern (get_or rows i d)
  pattern_is i d within =
      get_or-map (λ (r : List Shape × V). r.0) (map row rows) i (row d) [] (omega (arith, length-map rows row, within))
      ∙ ap (λ (r : List Shape × V). r.0) (get_or-map row rows i d (row d) within)

  -- the next pattern can be added
  pub is_fine : (i : ℕ) (d : X) → i < length rows → are_disjoint all ≡ true → is_pattern (pattern (get_or rows i d)) ≡ true
  is_fine i d within apart = ap is_pattern (sym (pattern_is i d within)) ∙ pattern_at all i (omega (arith, all_length, within)) apart

  pub is_free : (i : ℕ) (d : X) (routes : RowsOf (RouteOf ℕ)) → i < length rows → are_disjoint all ≡ true → HoldsRoutes all i routes
      → nearest (tokens_of (pattern (get_or rows i d))) routes ≡ None
  is_free i d routes within apart holds =
      ap (λ (p : List Shape). nearest (tokens_of p) routes) (sym (pattern_is i d within))
      ∙ none_near all i routes (omega (arith, all_length, within)) apart holds.only

  pub holds_none : (routes : RowsOf (RouteOf ℕ)) → routes ≡ [] → HoldsRoutes all 0 routes
  holds_none routes e = record { only = subst (λ (r : RowsOf (RouteOf ℕ)). AreRows all 0 r) (sym e) tt; whole = λ place within. absurd (omega (arith, within)) }

  pub holds_next : (i : ℕ) (d : X) (old new : RowsOf (RouteOf ℕ)) → i < length rows → HoldsRoutes all i old
      → AddsRow (tokens_of (pattern (get_or rows i d))) i old new → HoldsRoutes all (i + 1) new
  holds_next i d old new within holds adds =
      holds_more all i old new holds (subst (λ (p : List Shape). AddsRow (tokens_of p) i old new) (sym (pattern_is i d within)) adds)

  pub routed : (i : ℕ) (routes : RowsOf (RouteOf ℕ)) → i ≤ length rows → length rows ≤ i → are_disjoint all ≡ true → HoldsRoutes all i routes
      → IsRouted all routes
  routed i routes fits last apart holds =
      record { disjoint = apart; holds = subst (λ (n : ℕ). HoldsRoutes all n routes) (omega (arith, fits, last, all_length)) holds }
