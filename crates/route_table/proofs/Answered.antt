-- What the router answers, and where the table leads the path.
use Rattle.std.proofs.Common.{◌≡◌, ℕ, suc, ◌*◌, ◌^◌, ◌<◌, ◌≤◌, true, List, [], ◌∷◌, length, get_or, map, sym, ap, ◌∙◌, subst, arith, inl, inr, Some, None, Fits, w64}
use Rattle.std.specs.Str.{IsUtf8}
use Rattle.std.proofs.lemmas.Nat.{mul-le}
use Rattle.std.proofs.lemmas.List.{get_or-map, length-map}
use Rattle.std.proofs.lemmas.List.Elements.{Contains-get_or}
use Rattle.matchit.specs.Rows.{RowsOf, param_token}
use Rattle.matchit.specs.Router.{RouteOf}
use Rattle.matchit.specs.Seek.{seek}
use Rattle.matchit.specs.Params.{walk}
use Rattle.route_table.specs.Patterns.{Shape, HasPattern, are_disjoint}
use Rattle.route_table.specs.Tables.{patterns_of, Leads, LeadsOnly, LeadsNowhere}
use Rattle.route_table.specs.Routed.{tokens_of, param_count, IsRow, AreRows, Among, IsRouted, AreTexts, taken}
use Rattle.route_table.proofs.Tokens.{Takes, AreBytes, IsPlain, ArePlain}
use Rattle.route_table.proofs.Sound.{sound}
use Rattle.route_table.proofs.Complete.{Answers, complete}
use Rattle.route_table.proofs.Pieces.{is_plain, is_spelled, has_pattern, takes}
use Rattle.route_table.proofs.Unique.{pattern_at, pattern_is, patterns_length, leads_only}
use Rattle.route_table.proofs.Taken.{taken_are}
use Rattle.route_table.proofs.Texts.{are_texts}

are_bytes : (path : List ℕ) → ((i : ℕ) → get_or path i 0 < param_token) → AreBytes path
are_bytes [] small = tt
are_bytes (b ∷ path) small = (small 0, are_bytes path (λ i. small (suc i)))

are_plain : (patterns : List (List Shape)) (n : ℕ) (rows : RowsOf (RouteOf ℕ)) → are_disjoint patterns ≡ true → n ≤ length patterns
    → AreRows patterns n rows → ArePlain rows
are_plain patterns n [] apart fits are = tt
are_plain patterns n ((tokens, row) ∷ rows) apart fits are =
    let fine = pattern_at patterns row.value (omega (arith, are.0.place, fits)) apart in
    (subst IsPlain (sym are.0.is) (is_plain (get_or patterns row.value []) fine), are_plain patterns n rows apart fits are.1)

row_among : (patterns : List (List Shape)) (n : ℕ) (rows : RowsOf (RouteOf ℕ)) (tokens : List ℕ) (row : RouteOf ℕ) → AreRows patterns n rows
    → Among rows tokens row → IsRow patterns n tokens row
row_among patterns n [] tokens row are among = absurd among
row_among patterns n ((p, r) ∷ rows) tokens row are (inl same) =
    subst (λ (x : RouteOf ℕ). IsRow patterns n tokens x) same.1 (subst (λ (x : List ℕ). IsRow patterns n x r) same.0 are.0)
row_among patterns n ((p, r) ∷ rows) tokens row are (inr among) = row_among patterns n rows tokens row are.1 among

-- what the parameters of a route took
abbrev took : RouteOf ℕ → List ℕ → List (List ℕ)
took row path = taken (walk row.pattern row.text path row.names 0 0)

module _ {V : Type 0} (rows : List (List Shape × V)) (routes : RowsOf (RouteOf ℕ)) (table : IsRouted (patterns_of rows) routes) where
  -- a path that the router does not know leads nowhere
  pub not_found : (path : List ℕ) → seek 0 routes path ≡ None → LeadsNowhere rows path
  not_found path missing value parts leads =
      let at = leads.row in
      let within : at.0 < length (patterns_of rows) = omega (arith, patterns_length rows, at.1) in
      let shapes = get_or (patterns_of rows) at.0 [] in
      let fine = pattern_at (patterns_of rows) at.0 within table.disjoint in
      let has = subst (λ (p : List Shape). HasPattern p parts path) (sym (pattern_is rows at.0 leads.pattern value at.1 at.2)) leads.has in
      let place = table.holds.whole at.0 within in
      subst Answers missing
      (complete 0 routes path (tokens_of shapes) parts place.row
      (are_plain (patterns_of rows) (length (patterns_of rows)) routes table.disjoint (omega arith) table.holds.only) place.among (omega arith)
      (takes shapes path parts fine has))

  -- the route that it finds has a place in the table, and what its parameters took are the parts
  pub record IsFound (path : List ℕ) (row : RouteOf ℕ) : Type 0 where
    pub within : row.value < length rows
    pub texts : AreTexts (took row path)
    pub leads : (d : List Shape × V) → Leads rows path (get_or rows row.value d).1 (took row path)

  pub row_found : (path : List ℕ) (row : RouteOf ℕ) → AreBytes path → IsUtf8 path → seek 0 routes path ≡ Some row → IsFound path row
  row_found path row bytes text found =
      let has = sound 0 routes path row bytes (omega arith) found in
      let is = row_among (patterns_of rows) (length (patterns_of rows)) routes has.0 row table.holds.only has.2 in
      let shapes = get_or (patterns_of rows) row.value [] in
      let fine = pattern_at (patterns_of rows) row.value is.place table.disjoint in
      let plain = is_plain shapes fine in
      let within : row.value < length rows = omega (arith, patterns_length rows, is.place) in
      let takes : Takes (tokens_of shapes) path has.1 = subst (λ (p : List ℕ). Takes p path has.1) is.is has.3 in
      let short = subst (λ (p : List ℕ). length p < 2 ^ 64) is.is is.route.short in
      let parts : took row path ≡ has.1 =
      ap (λ (p : List ℕ). taken (walk p row.text path row.names 0 0)) (is.route.kept ∙ is.is)
      ∙ taken_are (tokens_of shapes) row.text path row.names has.1 short plain takes (is.route.names ∙ ap param_count is.is) in
      record {
        within = within;
        texts = subst AreTexts (sym parts) (are_texts (tokens_of shapes) path has.1 plain (is_spelled shapes fine) takes text);
        leads = λ d. record {
          pattern = (get_or rows row.value d).0;
          row = Contains-get_or rows row.value d within;
          has =
              subst (λ (q : List (List ℕ)). HasPattern (get_or rows row.value d).0 q path) (sym parts)
              (subst (λ (p : List Shape). HasPattern p has.1 path) (get_or-map (λ (r : List Shape × V). r.0) rows row.value d [] within)
              (has_pattern shapes path has.1 fine takes));
        };
      }

-- the same over the rows of a slice, where the parameters hold the path themselves
module _ {X V : Type 0} (pattern : X → List Shape) (value : X → V) (rows : List X) where
  abbrev row : X → List Shape × V
  row x = (pattern x, value x)

  pub record IsPlaced (path same : List ℕ) (route : RouteOf ℕ) : Type 0 where
    pub within : route.value < length rows
    pub texts : AreTexts (took route same)
    pub leads : (d : X) → Leads (map row rows) path (value (get_or rows route.value d)) (took route same)

  pub placed : (routes : RowsOf (RouteOf ℕ)) (path same : List ℕ) (route : RouteOf ℕ) → IsRouted (patterns_of (map row rows)) routes
      → ((i : ℕ) → get_or path i 0 < param_token) → IsUtf8 path → same ≡ path → seek 0 routes path ≡ Some route → IsPlaced path same route
  placed routes path same route table bytes text is found =
      let known = row_found (map row rows) routes table path route (are_bytes path bytes) text found in
      let within : route.value < length rows = omega (arith, length-map rows row, known.within) in
      record {
        within = within;
        texts = subst (λ (y : List ℕ). AreTexts (took route y)) (sym is) known.texts;
        leads = λ d.
            subst (λ (y : List ℕ). Leads (map row rows) path (value (get_or rows route.value d)) (took route y)) (sym is)
            (subst (λ (v : V). Leads (map row rows) path v (took route path))
            (ap (λ (r : List Shape × V). r.1) (get_or-map row rows route.value d (row d) within)) (known.leads (row d)));
      }

  -- and what the caller sees
  pub leads_at : (seen : List (List Shape × V)) (path same : List ℕ) (route : RouteOf ℕ) (parts : List (List ℕ)) (d : X) → map row rows ≡ seen
      → parts ≡ took route same → IsPlaced path same route → Leads seen path (value (get_or rows route.value d)) parts
  leads_at seen path same route parts d view is at =
      let v = value (get_or rows route.value d) in
      subst (λ (r : List (List Shape × V)). Leads r path v parts) view
      (subst (λ (q : List (List ℕ)). Leads (map row rows) path v q) (sym is) (at.leads d))

  pub only_at : (seen : List (List Shape × V)) (path same : List ℕ) (route : RouteOf ℕ) (parts : List (List ℕ)) (d : X) → map row rows ≡ seen
      → parts ≡ took route same → are_disjoint (patterns_of (map row rows)) ≡ true → IsPlaced path same route
      → LeadsOnly seen path (value (get_or rows route.value d)) parts
  only_at seen path same route parts d view is apart at =
      leads_only seen path (value (get_or rows route.value d)) parts
      (ap (λ (r : List (List Shape × V)). are_disjoint (patterns_of r)) (sym view) ∙ apart) (leads_at seen path same route parts d view is at)

-- the place of a row in memory
pub offset_fits : (place n size : ℕ) → place < n → n * size < 2 ^ 63 → Fits w64 (place * size)
offset_fits place n size within fits = omega (arith, fits, mul-le place size n size (omega (arith, within)) (omega arith))
