-- Where a plain pattern has the path, the router finds a route.
use Rattle.std.proofs.Common.{◌≡◌, ◌≢◌, ℕ, zero, suc, ◌-◌, ◌<◌, ◌≤◌, Bool, true, false, cond, ◌==◌, ◌&&◌, List, [], ◌∷◌, ◌++◌, length, drop, refl, sym, ap}
use Rattle.std.proofs.Common.{◌∙◌, subst, arith, inl, inr, Option, Some, None, nat_eq, ltb, length-append, append-nil}
use Rattle.std.specs.Prelude.{◌⊎◌}
use Rattle.std.specs.List.{ends_with}
use Rattle.std.proofs.lemmas.Bool.{eqb-true, eq-eqb, ne_eqb, lt-ltb, false≢true}
use Rattle.std.specs.Cmp.Lexicographic.{pointwise}
use Rattle.std.proofs.Math.Bool.{and-false}
use Rattle.std.proofs.Math.Seq.{drop-append_seam}
use Rattle.matchit.proofs.ParamLemmas.{same_text-self}
use Rattle.matchit.specs.Rows.{RowsOf, param_token, catch_all_token}
use Rattle.matchit.specs.Seek.{own, step, or_else, seek, param_step, has_slash, segment, longest_suffix, longest_from, better, cuts, with_suffix, same_text, slash}
use Rattle.route_table.specs.Routed.{Among}
use Rattle.route_table.proofs.Sound.{drop_less}
use Rattle.route_table.proofs.Tokens.{IsSegment, Takes, IsEndOrSlash, ArePlain}

-- some answer is given
abbrev pub Answers : {K : Type 0} → Option K → Type 0
Answers None = ⊥
Answers (Some key) = Unit {0}

or_left : {K : Type 0} (a b : Option K) → Answers a → Answers (or_else a b)
or_left None b x = absurd x
or_left (Some k) b x = tt

or_right : {K : Type 0} (a b : Option K) → Answers b → Answers (or_else a b)
or_right None b x = x
or_right (Some k) b x = tt

own_answers : {K : Type 0} (rs : RowsOf K) (key : K) → Among rs [] key → Answers (own rs)
own_answers [] key a = absurd a
own_answers (([], k) ∷ rest) key a = tt
own_answers ((x ∷ t, k) ∷ rest) key (inl same) = let e = same.0 in absurd (cc)
own_answers ((x ∷ t, k) ∷ rest) key (inr a) = own_answers rest key a

step_among : {K : Type 0} (b : ℕ) (rs : RowsOf K) (p : List ℕ) (key : K) → Among rs (b ∷ p) key → Among (step b rs) p key
step_among b [] p key a = a
step_among b (([], k) ∷ rest) p key (inl same) = let e = same.0 in absurd (cc)
step_among b (([], k) ∷ rest) p key (inr a) = step_among b rest p key a
step_among {K} b ((x ∷ t, k) ∷ rest) p key a = go (x == b) refl (step_among b rest p key) a
  where
    go : (v : Bool) → (x == b) ≡ v → (Among rest (b ∷ p) key → Among (step b rest) p key)
        → Among ((x ∷ t, k) ∷ rest) (b ∷ p) key → Among (cond v ((t, k) ∷ step b rest) (step b rest)) p key
    go true e later (inl same) = let s = same.0 in inl ((cc), same.1)
    go true e later (inr a) = inr (later a)
    go false e later (inl same) = let s = same.0 in let xb : x ≡ b = cc in absurd (false≢true (sym e ∙ eq-eqb x b xb))
    go false e later (inr a) = later a

plain_step : {K : Type 0} (b : ℕ) (rs : RowsOf K) → ArePlain rs → ArePlain (step b rs)
plain_step b [] plain = tt
plain_step b (([], k) ∷ rest) plain = plain_step b rest plain.1
plain_step {K} b ((x ∷ t, k) ∷ rest) plain = go (x == b) (plain_step b rest plain.1)
  where
    go : (v : Bool) → ArePlain (step b rest) → ArePlain (cond v ((t, k) ∷ step b rest) (step b rest))
    go true later = (plain.0.1, later)
    go false later = later

-- the rows after a parameter go on with a slash, or end
abbrev AreEnds : {K : Type 0} → RowsOf K → Type 0
AreEnds [] = Unit {0}
AreEnds ((t, k) ∷ rest) = IsEndOrSlash t × AreEnds rest

param_ends : {K : Type 0} (rs : RowsOf K) → ArePlain rs → AreEnds (step param_token rs)
param_ends [] plain = tt
param_ends (([], k) ∷ rest) plain = param_ends rest plain.1
param_ends {K} ((x ∷ t, k) ∷ rest) plain = go (x == param_token) refl (param_ends rest plain.1)
  where
    go : (v : Bool) → (x == param_token) ≡ v → AreEnds (step param_token rest) → AreEnds (cond v ((t, k) ∷ step param_token rest) (step param_token rest))
    go true e later = (plain.0.0 (eqb-true x param_token e), later)
    go false e later = later

-- the segment of what ends or goes on with a slash
pub end_segment : (t : List ℕ) → IsEndOrSlash t → (segment t ≡ []) ⊎ (segment t ≡ 47 ∷ [])
end_segment [] e = inl refl
end_segment (x ∷ t) e = inr (rw (eq-eqb x 47 e) (ap (λ (y : ℕ). y ∷ []) e))

ends_among : {K : Type 0} (rs : RowsOf K) (p : List ℕ) (key : K) → AreEnds rs → Among rs p key → IsEndOrSlash p
ends_among [] p key ends a = absurd a
ends_among ((t, k) ∷ rest) p key ends (inl same) = subst IsEndOrSlash same.0 ends.0
ends_among ((t, k) ∷ rest) p key ends (inr a) = ends_among rest p key ends.1 a

suffix_among : {K : Type 0} (s : List ℕ) (rs : RowsOf K) (p : List ℕ) (key : K) → segment p ≡ s → Among rs p key → Among (with_suffix s rs) p key
suffix_among s [] p key is a = a
suffix_among {K} s ((t, k) ∷ rest) p key is a = go (same_text (segment t) s) refl (suffix_among s rest p key is) a
  where
    go : (v : Bool) → same_text (segment t) s ≡ v → (Among rest p key → Among (with_suffix s rest) p key)
        → Among ((t, k) ∷ rest) p key → Among (cond v ((t, k) ∷ with_suffix s rest) (with_suffix s rest)) p key
    go true e later (inl same) = inl same
    go true e later (inr a) = inr (later a)
    go false e later (inl same) =
        absurd (false≢true (sym e ∙ ap (λ (y : List ℕ). same_text y s) (ap segment same.0 ∙ is) ∙ same_text-self s))
    go false e later (inr a) = later a

plain_suffix : {K : Type 0} (s : List ℕ) (rs : RowsOf K) → ArePlain rs → ArePlain (with_suffix s rs)
plain_suffix s [] plain = tt
plain_suffix {K} s ((t, k) ∷ rest) plain = go (same_text (segment t) s) (plain_suffix s rest plain.1)
  where
    go : (v : Bool) → ArePlain (with_suffix s rest) → ArePlain (cond v ((t, k) ∷ with_suffix s rest) (with_suffix s rest))
    go true later = (plain.0, later)
    go false later = later

-- ---- the longest suffix

longest_slash : {K : Type 0} (seg : List ℕ) (rs : RowsOf K) → AreEnds rs → longest_from seg (47 ∷ []) rs ≡ 47 ∷ []
longest_slash seg [] ends = refl
longest_slash {K} seg ((t, k) ∷ rest) ends = go (segment t) (end_segment t ends.0) (longest_slash seg rest ends.1)
  where
    go : (s : List ℕ) → (s ≡ []) ⊎ (s ≡ 47 ∷ []) → longest_from seg (47 ∷ []) rest ≡ 47 ∷ []
        → longest_from seg (better seg (47 ∷ []) s) rest ≡ 47 ∷ []
    go s (inl e) later = ap (λ (y : List ℕ). longest_from seg (better seg (47 ∷ []) y) rest) e ∙ later
    go s (inr e) later = ap (λ (y : List ℕ). longest_from seg (better seg (47 ∷ []) y) rest) e ∙ later

longest_found : {K : Type 0} (seg : List ℕ) (rs : RowsOf K) (p : List ℕ) (key : K) → AreEnds rs → cuts seg (47 ∷ []) ≡ true
    → Among rs p key → segment p ≡ 47 ∷ [] → longest_from seg [] rs ≡ 47 ∷ []
longest_found seg [] p key ends cut a is = absurd a
longest_found {K} seg ((t, k) ∷ rest) p key ends cut a is =
    go (segment t) refl (end_segment t ends.0) (longest_slash seg rest ends.1) (λ (b : Among rest p key). longest_found seg rest p key ends.1 cut b is) a
  where
    slash_better : better seg [] (47 ∷ []) ≡ 47 ∷ []
    slash_better = ap (λ (v : Bool). cond v (47 ∷ []) []) cut

    go : (s : List ℕ) → segment t ≡ s → (s ≡ []) ⊎ (s ≡ 47 ∷ []) → longest_from seg (47 ∷ []) rest ≡ 47 ∷ []
        → (Among rest p key → longest_from seg [] rest ≡ 47 ∷ []) → Among ((t, k) ∷ rest) p key
        → longest_from seg (better seg [] s) rest ≡ 47 ∷ []
    go s st (inr e) slash later a =
        ap (λ (y : List ℕ). longest_from seg (better seg [] y) rest) e ∙ ap (λ (y : List ℕ). longest_from seg y rest) slash_better ∙ slash
    go s st (inl e) slash later (inr a) = ap (λ (y : List ℕ). longest_from seg (better seg [] y) rest) e ∙ later a
    go s st (inl e) slash later (inl same) =
        let other : ◌≡◌ {A = List ℕ} (47 ∷ []) [] = sym is ∙ sym (ap segment same.0) ∙ st ∙ e in absurd (cc)

longest_none : {K : Type 0} (seg : List ℕ) (rs : RowsOf K) → AreEnds rs → cuts seg (47 ∷ []) ≡ false → longest_from seg [] rs ≡ []
longest_none seg [] ends cut = refl
longest_none {K} seg ((t, k) ∷ rest) ends cut = go (segment t) (end_segment t ends.0) (longest_none seg rest ends.1 cut)
  where
    go : (s : List ℕ) → (s ≡ []) ⊎ (s ≡ 47 ∷ []) → longest_from seg [] rest ≡ [] → longest_from seg (better seg [] s) rest ≡ []
    go s (inl e) later = ap (λ (y : List ℕ). longest_from seg (better seg [] y) rest) e ∙ later
    go s (inr e) later =
        ap (λ (y : List ℕ). longest_from seg (better seg [] y) rest) e ∙ ap (λ (v : Bool). longest_from seg (cond v (47 ∷ []) []) rest) cut ∙ later

-- ---- segments

pub segment_part : (part rest : List ℕ) → has_slash part ≡ false → segment (part ++ 47 ∷ rest) ≡ part ++ 47 ∷ []
segment_part [] rest plain = refl
segment_part (b ∷ part) rest plain = go (b == slash) plain (segment_part part rest)
  where
    go : (v : Bool) → cond v true (has_slash part) ≡ false → (has_slash part ≡ false → segment (part ++ 47 ∷ rest) ≡ part ++ 47 ∷ [])
        → cond v (b ∷ []) (b ∷ segment (part ++ 47 ∷ rest)) ≡ b ∷ (part ++ 47 ∷ [])
    go true plain later = absurd (false≢true (sym plain))
    go false plain later = ap (λ (t : List ℕ). b ∷ t) (later plain)

pub segment_all : (path : List ℕ) → has_slash path ≡ false → segment path ≡ path
segment_all [] plain = refl
segment_all (b ∷ path) plain = go (b == slash) plain (segment_all path)
  where
    go : (v : Bool) → cond v true (has_slash path) ≡ false → (has_slash path ≡ false → segment path ≡ path)
        → cond v (b ∷ []) (b ∷ segment path) ≡ b ∷ path
    go true plain later = absurd (false≢true (sym plain))
    go false plain later = ap (λ (t : List ℕ). b ∷ t) (later plain)

last_slash : (part : List ℕ) → ends_with nat_eq (part ++ 47 ∷ []) (47 ∷ []) ≡ true
last_slash part =
    ap (λ (t : List ℕ). pointwise nat_eq (47 ∷ []) t) (ap (λ (n : ℕ). drop n (part ++ 47 ∷ [])) count ∙ drop-append_seam part (47 ∷ []))
  where
    count : length (part ++ 47 ∷ []) - 1 ≡ length part
    count = omega (arith, length-append part (47 ∷ []))

pub plain_tail : (b : ℕ) (path : List ℕ) → has_slash (b ∷ path) ≡ false → (b ≢ 47) × (has_slash path ≡ false)
plain_tail b path plain = go (b == slash) refl plain
  where
    go : (v : Bool) → (b == slash) ≡ v → cond v true (has_slash path) ≡ false → (b ≢ 47) × (has_slash path ≡ false)
    go true e plain = absurd (false≢true (sym plain))
    go false e plain = (λ is. false≢true (sym e ∙ eq-eqb b 47 is), plain)

no_last_slash : (path : List ℕ) → has_slash path ≡ false → ends_with nat_eq path (47 ∷ []) ≡ false
no_last_slash [] plain = refl
no_last_slash (b ∷ []) plain =
    let other : 47 ≢ b = λ e. (plain_tail b [] plain).0 (sym e) in
    ap (λ (v : Bool). v && true) (ne_eqb 47 b other)
no_last_slash (b ∷ c ∷ r) plain =
    let one : suc (suc (length r)) - 1 ≡ suc (length r) = omega arith in
    let two : suc (length r) - 1 ≡ length r = omega arith in
    ap (λ (n : ℕ). pointwise nat_eq (47 ∷ []) (drop n (b ∷ c ∷ r))) one
    ∙ sym (ap (λ (n : ℕ). pointwise nat_eq (47 ∷ []) (drop n (c ∷ r))) two)
    ∙ no_last_slash (c ∷ r) (plain_tail b (c ∷ r) plain).1

-- ---- a step over a parameter

-- the step takes the part, and keeps the row
record Steps {K : Type 0} (rs : RowsOf K) (path part : List ℕ) (p : List ℕ) (key : K) : Type 0 where
  takes : (param_step rs path).0 ≡ length part
  row : Among (param_step rs path).1 p key
  plain : ArePlain (param_step rs path).1

steps_slash : {K : Type 0} (rs : RowsOf K) (part rest : List ℕ) (p : List ℕ) (key : K) → ArePlain rs → AreEnds rs → IsSegment part
    → Among rs (47 ∷ p) key → Steps rs (part ++ 47 ∷ rest) part (47 ∷ p) key
unfolding param_step
steps_slash {K} rs part rest p key plain ends is_part a =
    let seg = segment_part part rest is_part.plain in
    let cut : cuts (segment (part ++ 47 ∷ rest)) (47 ∷ []) ≡ true =
    ap (λ (s : List ℕ). cuts s (47 ∷ [])) seg
    ∙ ap (λ (v : Bool). v && ends_with nat_eq (part ++ 47 ∷ []) (47 ∷ [])) (lt-ltb 1 (length (part ++ 47 ∷ [])) (omega (arith, length-append part (47 ∷ []), is_part.some)))
    ∙ last_slash part in
    let long : longest_suffix (segment (part ++ 47 ∷ rest)) rs ≡ 47 ∷ [] = longest_found (segment (part ++ 47 ∷ rest)) rs (47 ∷ p) key ends cut a refl in
    let is : param_step rs (part ++ 47 ∷ rest) ≡ (length (segment (part ++ 47 ∷ rest)) - 1, with_suffix (47 ∷ []) rs) =
    ap (λ (l : List ℕ). cond {A = ℕ × RowsOf K} (ltb 0 (length l)) (length (segment (part ++ 47 ∷ rest)) - length l, with_suffix l rs)
    (cond (has_slash (part ++ 47 ∷ rest)) (0, []) (length (part ++ 47 ∷ rest), rs))) long in
    record {
      takes = ap (λ (x : ℕ × RowsOf K). x.0) is ∙ omega (arith, ap length seg, length-append part (47 ∷ []));
      row = subst (λ (x : ℕ × RowsOf K). Among x.1 (47 ∷ p) key) (sym is) (suffix_among (47 ∷ []) rs (47 ∷ p) key refl a);
      plain = subst (λ (x : ℕ × RowsOf K). ArePlain x.1) (sym is) (plain_suffix (47 ∷ []) rs plain);
    }

no_cut : (part : List ℕ) → has_slash part ≡ false → cuts part (47 ∷ []) ≡ false
no_cut part plain = ap (λ (v : Bool). ltb 1 (length part) && v) (no_last_slash part plain) ∙ and-false (ltb 1 (length part))

steps_end : {K : Type 0} (rs : RowsOf K) (part : List ℕ) (key : K) → ArePlain rs → AreEnds rs → IsSegment part
    → Among rs [] key → Steps rs part part [] key
unfolding param_step
steps_end {K} rs part key plain ends is_part a =
    let cut : cuts (segment part) (47 ∷ []) ≡ false =
    ap (λ (s : List ℕ). cuts s (47 ∷ [])) (segment_all part is_part.plain) ∙ no_cut part is_part.plain in
    let long : longest_suffix (segment part) rs ≡ [] = longest_none (segment part) rs ends cut in
    let is : param_step rs part ≡ (length part, rs) =
    ap (λ (l : List ℕ). cond {A = ℕ × RowsOf K} (ltb 0 (length l)) (length (segment part) - length l, with_suffix l rs)
    (cond (has_slash part) (0, []) (length part, rs))) long
    ∙ ap (λ (v : Bool). cond {A = ℕ × RowsOf K} v (0, []) (length part, rs)) is_part.plain in
    record {
      takes = ap (λ (x : ℕ × RowsOf K). x.0) is;
      row = subst (λ (x : ℕ × RowsOf K). Among x.1 [] key) (sym is) a;
      plain = subst (λ (x : ℕ × RowsOf K). ArePlain x.1) (sym is) plain;
    }

-- what the step over a parameter finds for a row that goes on after it
param_steps : {K : Type 0} (rs : RowsOf K) (part rest : List ℕ) (p : List ℕ) (later : List (List ℕ)) (key : K) → ArePlain rs → AreEnds rs
    → IsSegment part → Among rs p key → IsEndOrSlash p → Takes p rest later → Steps rs (part ++ rest) part p key
param_steps rs part rest [] later key plain ends is_part a end (e, q) =
    subst (λ (t : List ℕ). Steps rs t part [] key) (sym (ap (λ (r : List ℕ). part ++ r) e ∙ append-nil part)) (steps_end rs part key plain ends is_part a)
param_steps rs part rest (x ∷ p) later key plain ends is_part a end (inl (small, tail, e, t)) =
    subst (λ (r : List ℕ). Steps rs (part ++ r) part (x ∷ p) key) (sym (e ∙ ap (λ (y : ℕ). y ∷ tail) end))
    (subst (λ (y : ℕ). Steps rs (part ++ 47 ∷ tail) part (y ∷ p) key) (sym end)
    (steps_slash rs part tail p key plain ends is_part (subst (λ (y : ℕ). Among rs (y ∷ p) key) end a)))
param_steps rs part rest (x ∷ p) later key plain ends is_part a end (inr (inl t)) = absurd (omega (arith, end, t.0))
param_steps rs part rest (x ∷ p) later key plain ends is_part a end (inr (inr t)) = absurd (omega (arith, end, t.0))

-- what the search finds by a parameter at this byte
abbrev by_param : {K : Type 0} → RowsOf K → ℕ → List ℕ → Option K
by_param rs b path = seek ((param_step (step param_token rs) (b ∷ path)).0 - 1) (param_step (step param_token rs) (b ∷ path)).1 path

-- a row whose pattern the path has is enough
pub complete : {K : Type 0} (k : ℕ) (rs : RowsOf K) (path : List ℕ) (p : List ℕ) (parts : List (List ℕ)) (key : K)
    → ArePlain rs → Among rs p key → k ≤ length path → Takes p (drop k path) parts → Answers (seek k rs path)
unfolding seek
complete zero rs [] [] parts key plain a fits t = own_answers rs key a
complete zero rs [] (x ∷ p) parts key plain a fits (inl (small, rest, is, t)) = absurd (cc)
complete zero rs [] (x ∷ p) parts key plain a fits (inr (inl (is, part, rest, later, is_part, e, q, t))) =
    absurd (omega (arith, ap length e, length-append part rest, is_part.some))
complete zero rs [] (x ∷ p) parts key plain a fits (inr (inr (is, e, some, q))) = absurd (omega (arith, some))
complete (suc k) rs [] p parts key plain a fits t = absurd (omega arith)
complete (suc k) rs (b ∷ path) p parts key plain a fits t = complete k rs path p parts key plain a (omega arith) t
complete zero rs (b ∷ path) [] parts key plain a fits (e, q) = absurd (cc)
complete zero rs (b ∷ path) (x ∷ p) parts key plain a fits (inl (small, rest, is, t)) =
    let same : x ≡ b = cc in
    let tail : rest ≡ path = cc in
    or_left (seek 0 (step b rs) path) (or_else (by_param rs b path) (own (step catch_all_token rs)))
    (complete 0 (step b rs) path p parts key (plain_step b rs plain)
    (step_among b rs p key (subst (λ (y : ℕ). Among rs (y ∷ p) key) same a)) (omega arith) (subst (λ (y : List ℕ). Takes p y parts) tail t))
complete zero rs (b ∷ path) (x ∷ p) parts key plain a fits (inr (inr (is, e, some, q))) =
    let tokens : x ∷ p ≡ catch_all_token ∷ [] = ap (λ (y : ℕ). y ∷ p) is ∙ ap (λ (y : List ℕ). catch_all_token ∷ y) e in
    let row = step_among catch_all_token rs [] key (subst (λ (y : List ℕ). Among rs y key) tokens a) in
    or_right (seek 0 (step b rs) path) (or_else (by_param rs b path) (own (step catch_all_token rs)))
    (or_right (by_param rs b path) (own (step catch_all_token rs)) (own_answers (step catch_all_token rs) key row))
complete zero rs (b ∷ path) (x ∷ p) parts key plain a fits (inr (inl (is, part, rest, later, is_part, e, q, t))) =
    let after = step param_token rs in
    let row = step_among param_token rs p key (subst (λ (y : ℕ). Among rs (y ∷ p) key) is a) in
    let ends = param_ends rs plain in
    let steps = subst (λ (y : List ℕ). Steps after y part p key) (sym e)
    (param_steps after part rest p later key (plain_step param_token rs plain) ends is_part row (ends_among after p key ends row) t) in
    let n = (param_step after (b ∷ path)).0 in
    let some : 0 < n = omega (arith, steps.takes, is_part.some) in
    let left : drop (n - 1) path ≡ rest =
    drop_less n b path some ∙ ap (λ (y : List ℕ). drop n y) e ∙ ap (λ (m : ℕ). drop m (part ++ rest)) steps.takes ∙ drop-append_seam part rest in
    or_right (seek 0 (step b rs) path) (or_else (by_param rs b path) (own (step catch_all_token rs)))
    (or_left (by_param rs b path) (own (step catch_all_token rs))
    (complete (n - 1) (param_step after (b ∷ path)).1 path p later key steps.plain steps.row
    (omega (arith, steps.takes, ap length e, length-append part rest)) (subst (λ (y : List ℕ). Takes p y later) (sym left) t)))
