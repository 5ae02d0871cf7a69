-- The route that the router finds has a pattern that the path fits.
use Rattle.std.proofs.Common.{◌≡◌, ℕ, zero, suc, ◌-◌, ◌<◌, ◌≤◌, Bool, true, false, cond, ◌==◌, ◌&&◌, List, [], ◌∷◌, length, take, drop, refl, sym, ap}
use Rattle.std.proofs.Common.{◌∙◌, subst, arith, inl, inr, Option, Some, None, take-append-drop, ltb, length-take}
use Rattle.std.specs.Prelude.{◌⊎◌}
use Rattle.std.proofs.lemmas.Bool.{eqb-true}
use Rattle.std.proofs.Math.Seq.{take-length}
use Rattle.matchit.proofs.ParamLemmas.{length-segment}
use Rattle.matchit.specs.Rows.{RowsOf, param_token, catch_all_token}
use Rattle.matchit.specs.Seek.{own, step, or_else, seek, param_step, has_slash, segment, longest_suffix, longest_from, better, cuts, with_suffix, same_text, slash}
use Rattle.route_table.specs.Routed.{Among}
use Rattle.route_table.proofs.Tokens.{Takes, HasRow, AreBytes}

among_step : {K : Type 0} (b : ℕ) (rs : RowsOf K) (p : List ℕ) (key : K) → Among (step b rs) p key → Among rs (b ∷ p) key
among_step b [] p key a = a
among_step b (([], k) ∷ rest) p key a = inr (among_step b rest p key a)
among_step {K} b ((x ∷ t, k) ∷ rest) p key a = go (x == b) refl (among_step b rest p key) a
  where
    go : (v : Bool) → (x == b) ≡ v → (Among (step b rest) p key → Among rest (b ∷ p) key)
        → Among (cond v ((t, k) ∷ step b rest) (step b rest)) p key → Among ((x ∷ t, k) ∷ rest) (b ∷ p) key
    go true e later (inl same) = let xb : x ≡ b = eqb-true x b e in let tp = same.0 in inl (cc, same.1)
    go true e later (inr a) = inr (later a)
    go false e later a = inr (later a)

among_suffix : {K : Type 0} (s : List ℕ) (rs : RowsOf K) (p : List ℕ) (key : K) → Among (with_suffix s rs) p key → Among rs p key
among_suffix s [] p key a = a
among_suffix {K} s ((t, k) ∷ rest) p key a = go (same_text (segment t) s) (among_suffix s rest p key) a
  where
    go : (v : Bool) → (Among (with_suffix s rest) p key → Among rest p key)
        → Among (cond v ((t, k) ∷ with_suffix s rest) (with_suffix s rest)) p key → Among ((t, k) ∷ rest) p key
    go true later (inl same) = inl same
    go true later (inr a) = inr (later a)
    go false later a = inr (later a)

own_among : {K : Type 0} (rs : RowsOf K) (key : K) → own rs ≡ Some key → Among rs [] key
own_among [] key e = absurd (cc)
own_among (([], k) ∷ rest) key e = inl (refl, (cc))
own_among ((x ∷ t, k) ∷ rest) key e = inr (own_among rest key e)

or_cases : {K : Type 0} (a b : Option K) (key : K) → or_else a b ≡ Some key → (a ≡ Some key) ⊎ (b ≡ Some key)
or_cases None b key e = inr e
or_cases (Some k) b key e = inl e

-- ---- what a parameter takes

-- a suffix that was chosen is empty or cuts the segment
abbrev IsCut : List ℕ → List ℕ → Type 0
IsCut seg s = (s ≡ []) ⊎ (length s < length seg)

better_cut : (seg best s : List ℕ) → IsCut seg best → IsCut seg (better seg best s)
better_cut seg best s cut = go (ltb (length best) (length s) && cuts seg s) refl
  where
    go : (v : Bool) → (ltb (length best) (length s) && cuts seg s) ≡ v → IsCut seg (cond v s best)
    go true e = inr (grind arith)
    go false e = cut

longest_cut : {K : Type 0} (seg best : List ℕ) (rs : RowsOf K) → IsCut seg best → IsCut seg (longest_from seg best rs)
longest_cut seg best [] cut = cut
longest_cut seg best ((t, k) ∷ rest) cut = longest_cut seg (better seg best (segment t)) rest (better_cut seg best (segment t) cut)

-- fewer bytes than the segment has hold no slash
no_slash_before : (n : ℕ) (path : List ℕ) → n < length (segment path) → has_slash (take n path) ≡ false
no_slash_before zero path short = refl
no_slash_before (suc n) [] short = absurd (omega arith)
no_slash_before (suc n) (b ∷ path) short = go (b == slash) (no_slash_before n path) short
  where
    go : (v : Bool) → (n < length (segment path) → has_slash (take n path) ≡ false)
        → suc n < length (cond v (b ∷ []) (b ∷ segment path)) → cond v true (has_slash (take n path)) ≡ false
    go true later short = absurd (omega arith)
    go false later short = later (omega arith)

-- the step that leaves the longest suffix
abbrev suffix_step : {K : Type 0} → RowsOf K → List ℕ → ℕ × RowsOf K
suffix_step rs path = (length (segment path) - length (longest_suffix (segment path) rs), with_suffix (longest_suffix (segment path) rs) rs)

-- what a step over a parameter says
record IsStep {K : Type 0} (rs : RowsOf K) (path : List ℕ) (n : ℕ) (p : List ℕ) (key : K) : Type 0 where
  some : 0 < n
  inside : n ≤ length path
  plain : has_slash (take n path) ≡ false
  row : Among rs p key

param_part : {K : Type 0} (rs : RowsOf K) (path : List ℕ) (p : List ℕ) (key : K) → 0 < length path
    → Among (param_step rs path).1 p key → IsStep rs path (param_step rs path).0 p key
unfolding param_step
param_part {K} rs path p key some = go (ltb 0 (length long)) refl
  where
    long : List ℕ
    long = longest_suffix (segment path) rs

    rows : RowsOf K
    rows = with_suffix long rs

    rest : Bool → ℕ × RowsOf K
    rest v = cond v (0, []) (length path, rs)

    no_suffix : (v : Bool) → has_slash path ≡ v → Among (cond {A = ℕ × RowsOf K} v (0, []) (length path, rs)).1 p key
        → IsStep rs path (cond {A = ℕ × RowsOf K} v (0, []) (length path, rs)).0 p key
    no_suffix true e a = absurd a
    no_suffix false e a = record {
      some = some;
      inside = omega arith;
      plain = ap has_slash (take-length path) ∙ e;
      row = a;
    }

    shorter : (IsCut (segment path) (longest_suffix (segment path) rs)) → 0 < length (longest_suffix (segment path) rs)
        → length (longest_suffix (segment path) rs) < length (segment path)
    shorter (inl e) l = absurd (omega (arith, ap length e))
    shorter (inr l) _ = l

    go : (v : Bool) → ltb 0 (length (longest_suffix (segment path) rs)) ≡ v
        → Among (cond {A = ℕ × RowsOf K} v (suffix_step rs path) (cond (has_slash path) (0, []) (length path, rs))).1 p key
        → IsStep rs path (cond {A = ℕ × RowsOf K} v (suffix_step rs path) (cond (has_slash path) (0, []) (length path, rs))).0 p key
    go true e a =
        let above : 0 < length (longest_suffix (segment path) rs) = grind arith in
        let short = shorter (longest_cut (segment path) [] rs (inl refl)) above in
        record {
          some = omega arith;
          inside = omega (arith, length-segment path);
          plain = no_slash_before (length (segment path) - length (longest_suffix (segment path) rs)) path (omega arith);
          row = among_suffix (longest_suffix (segment path) rs) rs p key a;
        }
    go false e a = no_suffix (has_slash path) refl a

pub drop_less : (n b : ℕ) (path : List ℕ) → 0 < n → drop (n - 1) path ≡ drop n (b ∷ path)
drop_less zero b path some = absurd (omega arith)
drop_less (suc m) b path some = let e : suc m - 1 ≡ m = omega arith in ap (λ (k : ℕ). drop k path) e

param_inside : {K : Type 0} (rs : RowsOf K) (path : List ℕ) → (param_step rs path).0 ≤ length path
unfolding param_step
param_inside {K} rs path = go (ltb 0 (length (longest_suffix (segment path) rs))) (has_slash path)
  where
    go : (v w : Bool)
        → (cond {A = ℕ × RowsOf K} v (suffix_step rs path) (cond w (0, []) (length path, rs))).0 ≤ length path
    go true w = omega (arith, length-segment path)
    go false true = omega arith
    go false false = omega arith

pub sound : {K : Type 0} (k : ℕ) (rs : RowsOf K) (path : List ℕ) (key : K) → AreBytes path → k ≤ length path → seek k rs path ≡ Some key
    → HasRow rs (drop k path) key
unfolding seek
sound zero rs [] key bytes fits e = ([], [], own_among rs key e, (refl, refl))
sound (suc k) rs [] key bytes fits e = absurd (omega arith)
sound (suc k) rs (b ∷ path) key bytes fits e = sound k rs path key bytes.1 (omega arith) e
sound {K} zero rs (b ∷ path) key bytes fits e =
    by_byte (or_cases _ _ key e) (λ is. sound 0 (step b rs) path key bytes.1 (omega arith) is) (λ n rows inside is. sound n rows path key bytes.1 inside is)
  where
    by_param : seek ((param_step (step param_token rs) (b ∷ path)).0 - 1) (param_step (step param_token rs) (b ∷ path)).1 path ≡ Some key
        → ((n : ℕ) (rows : RowsOf K) → n ≤ length path → seek n rows path ≡ Some key → HasRow rows (drop n path) key)
        → HasRow rs (b ∷ path) key
    by_param is later =
        let n = (param_step (step param_token rs) (b ∷ path)).0 in
        let rows = (param_step (step param_token rs) (b ∷ path)).1 in
        let r = later (n - 1) rows (omega (arith, param_inside (step param_token rs) (b ∷ path))) is in
        let taken = param_part (step param_token rs) (b ∷ path) r.0 key (omega arith) r.2 in (
          param_token ∷ r.0,
          take n (b ∷ path) ∷ r.1,
          among_step param_token rs r.0 key taken.row,
          inr (inl (
            refl,
            take n (b ∷ path),
            drop n (b ∷ path),
            r.1,
            record { some = omega (arith, length-take n (b ∷ path), taken.some, taken.inside); plain = taken.plain },
            sym (take-append-drop n (b ∷ path)),
            refl,
            subst (λ (t : List ℕ). Takes r.0 t r.1) (drop_less n b path taken.some) r.3,
          )),
        )

    by_byte : (seek 0 (step b rs) path ≡ Some key)
        ⊎ (or_else (seek ((param_step (step param_token rs) (b ∷ path)).0 - 1) (param_step (step param_token rs) (b ∷ path)).1 path)
        (own (step catch_all_token rs)) ≡ Some key)
        → (seek 0 (step b rs) path ≡ Some key → HasRow (step b rs) path key)
        → ((n : ℕ) (rows : RowsOf K) → n ≤ length path → seek n rows path ≡ Some key → HasRow rows (drop n path) key)
        → HasRow rs (b ∷ path) key
    by_byte (inl is) byte later =
        let r = byte is in (b ∷ r.0, r.1, among_step b rs r.0 key r.2, inl (bytes.0, path, refl, r.3))
    by_byte (inr is) byte later = by_rest (or_cases _ _ key is)
      where
        by_rest : (seek ((param_step (step param_token rs) (b ∷ path)).0 - 1) (param_step (step param_token rs) (b ∷ path)).1 path ≡ Some key)
            ⊎ (own (step catch_all_token rs) ≡ Some key) → HasRow rs (b ∷ path) key
        by_rest (inl found) = by_param found later
        by_rest (inr found) = (
          catch_all_token ∷ [],
          (b ∷ path) ∷ [],
          among_step catch_all_token rs [] key (own_among (step catch_all_token rs) key found),
          inr (inr (refl, refl, omega arith, refl)),
        )
