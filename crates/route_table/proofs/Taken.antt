-- What the parameters of a match took are the parts of the path.
use Rattle.std.proofs.Common.{◌≡◌, ℕ, zero, suc, ◌+◌, ◌-◌, ◌^◌, ◌<◌, ◌≤◌, Bool, true, false, cond, List, [], ◌∷◌, ◌++◌, length, drop, get_or, refl}
use Rattle.std.proofs.Common.{sym, ap, ◌∙◌, subst, arith, inl, inr, ltb, leb, length-append, append-nil}
use Rattle.std.proofs.lemmas.Bool.{lt-ltb}
use Rattle.std.proofs.Math.Seq.{drop-nil, drop-append_seam, take-append_seam}
use Rattle.matchit.specs.Rows.{param_token, catch_all_token}
use Rattle.matchit.specs.Seek.{segment}
use Rattle.matchit.specs.Params.{walk, wild_from, wild_stop, part_of, after_token}
use Rattle.route_table.specs.Routed.{param_count, taken}
use Rattle.route_table.proofs.Tokens.{IsSegment, Takes, IsPlain}
use Rattle.route_table.proofs.Complete.{segment_part}

-- ---- places in a list

pub drop_next : {X : Type 0} (n : ℕ) (l : List X) (x : X) (rest : List X) → drop n l ≡ x ∷ rest → drop (n + 1) l ≡ rest
drop_next zero [] x rest e = absurd cc
drop_next (suc n) [] x rest e = absurd cc
drop_next zero (y ∷ l) x rest e = cc
drop_next (suc n) (y ∷ l) x rest e = let s : suc n + 1 ≡ suc (n + 1) = omega arith in rw s (drop_next n l x rest e)

pub get_next : {X : Type 0} (d : X) (n : ℕ) (l : List X) (x : X) (rest : List X) → drop n l ≡ x ∷ rest → get_or l n d ≡ x
get_next d zero [] x rest e = absurd cc
get_next d (suc n) [] x rest e = absurd cc
get_next d zero (y ∷ l) x rest e = cc
get_next d (suc n) (y ∷ l) x rest e = get_next d n l x rest e

length_from : (n : ℕ) (l rest : List ℕ) → n ≤ length l → drop n l ≡ rest → length l ≡ n + length rest
length_from zero l rest fits e = omega (arith, ap length e)
length_from (suc n) [] rest fits e = absurd (omega (arith, fits))
length_from (suc n) (y ∷ l) rest fits e = omega (arith, length_from n l rest (omega (arith, fits)) e)

drop_part : (n : ℕ) (l part rest : List ℕ) → drop n l ≡ part ++ rest → drop (n + length part) l ≡ rest
drop_part zero l part rest e =
    let s : 0 + length part ≡ length part = omega arith in
    rw s (ap (λ (y : List ℕ). drop (length part) y) e ∙ drop-append_seam part rest)
drop_part (suc n) [] [] rest e = drop-nil (suc n + 0) ∙ e
drop_part (suc n) [] (x ∷ part) rest e = absurd cc
drop_part (suc n) (y ∷ l) part rest e = let s : suc n + length part ≡ suc (n + length part) = omega arith in rw s (drop_part n l part rest e)

-- ---- one parameter

-- what is taken between two places
part_is : (path : List ℕ) (at stop : ℕ) (part rest : List ℕ) → drop at path ≡ part ++ rest → stop ≡ at + length part → at ≤ length path
    → part_of path at stop ≡ part
part_is path at stop part rest e is fits =
    let all : length path ≡ at + length (part ++ rest) = length_from at path (part ++ rest) fits e in
    let count : stop - at ≡ length part = omega (arith, is) in
    let low : leb at stop ≡ true = grind arith in
    let high : leb stop (length path) ≡ true = let n = length-append part rest in grind arith in
    rw (low, high, count, e) (take-append_seam part rest)

no_more : (names : List (ℕ × ℕ)) → length names ≡ 0 → names ≡ []
no_more [] e = refl
no_more (n ∷ names) e = absurd (omega (arith, e))

-- where the next parameter is, past a byte of the pattern
past_byte : (pattern path : List ℕ) (token at x : ℕ) (p : List ℕ) → drop token pattern ≡ x ∷ p → x < param_token → at < length path
    → wild_from (drop token pattern) (length path) token at ≡ wild_from (drop (token + 1) pattern) (length path) (token + 1) (at + 1)
past_byte pattern path token at x p here small fits =
    rw (here, drop_next token pattern x p here, lt-ltb x param_token small, lt-ltb at (length path) fits) refl

walk_past_byte : (pattern text path : List ℕ) (names : List (ℕ × ℕ)) (token at x : ℕ) (p : List ℕ) → drop token pattern ≡ x ∷ p → x < param_token
    → at < length path → walk pattern text path names token at ≡ walk pattern text path names (token + 1) (at + 1)
walk_past_byte pattern text path [] token at x p here small fits = refl
walk_past_byte pattern text path (name ∷ names) token at x p here small fits =
    ap (λ (w : ℕ × ℕ). (part_of text name.0 name.1, part_of path w.1 (wild_stop pattern w.0 path w.1))
    ∷ walk pattern text path names (after_token w.0) (wild_stop pattern w.0 path w.1)) (past_byte pattern path token at x p here small fits)

-- where the part of a parameter ends
stop_at : (pattern path : List ℕ) (token at : ℕ) (p part rest : List ℕ) (later : List (List ℕ)) → drop token pattern ≡ param_token ∷ p
    → drop at path ≡ part ++ rest → token < length pattern → at ≤ length path → IsPlain (param_token ∷ p) → IsSegment part → Takes p rest later
    → wild_stop pattern token path at ≡ at + length part
stop_at pattern path token at [] part rest later here left inside fits plain is (e, q) =
    let size : length pattern ≡ token + 1 = length_from token pattern (param_token ∷ []) (omega (arith, inside)) here in
    let all : length path ≡ at + length (part ++ rest) = length_from at path (part ++ rest) fits left in
    let none : ltb (token + 1) (length pattern) ≡ false = grind arith in
    let some : ltb token (length pattern) ≡ true = lt-ltb token (length pattern) inside in
    rw (some, none, get_next 0 token pattern param_token [] here) (omega (arith, all, length-append part rest, ap length e))
stop_at pattern path token at (x ∷ p) part rest later here left inside fits plain is (inl (small, tail, e, t)) =
    let size : length pattern ≡ token + length (param_token ∷ x ∷ p) = length_from token pattern (param_token ∷ x ∷ p) (omega (arith, inside)) here in
    let slash : x ≡ 47 = plain.0 refl in
    let more : ltb (token + 1) (length pattern) ≡ true = lt-ltb (token + 1) (length pattern) (omega (arith, size)) in
    let some : ltb token (length pattern) ≡ true = lt-ltb token (length pattern) inside in
    let whole : drop at path ≡ part ++ 47 ∷ tail = left ∙ ap (λ (y : List ℕ). part ++ y) (e ∙ ap (λ (y : ℕ). y ∷ tail) slash) in
    let taken : length (segment (drop at path)) ≡ length part + 1 =
    ap (λ (y : List ℕ). length (segment y)) whole ∙ ap length (segment_part part tail is.plain) ∙ length-append part (47 ∷ []) in
    let after : length (segment (drop (token + 1) pattern)) ≡ 1 =
    ap (λ (y : List ℕ). length (segment y)) (drop_next token pattern param_token (x ∷ p) here ∙ ap (λ (y : ℕ). y ∷ p) slash) in
    rw (some, more, get_next 0 token pattern param_token (x ∷ p) here) (omega (arith, taken, after))
stop_at pattern path token at (x ∷ p) part rest later here left inside fits plain is (inr (inl t)) = absurd (omega (arith, plain.0 refl, t.0))
stop_at pattern path token at (x ∷ p) part rest later here left inside fits plain is (inr (inr t)) = absurd (omega (arith, plain.0 refl, t.0))

-- the walk from a place in the pattern and a place in the path
walks : (pattern text path : List ℕ) (names : List (ℕ × ℕ)) (token at : ℕ) (p rest : List ℕ) (parts : List (List ℕ))
    → length pattern < 2 ^ 64 → drop token pattern ≡ p → token ≤ length pattern → drop at path ≡ rest → at ≤ length path
    → IsPlain p → Takes p rest parts → length names ≡ param_count p → taken (walk pattern text path names token at) ≡ parts
walks pattern text path names token at [] rest parts short here inside left fits plain (e, q) count =
    rw (no_more names count, q) refl
walks pattern text path names token at (x ∷ p) rest parts short here inside left fits plain (inl (small, tail, e, t)) count =
    let size : length pattern ≡ token + length (x ∷ p) = length_from token pattern (x ∷ p) inside here in
    let all : length path ≡ at + length rest = length_from at path rest fits left in
    let fewer : length names ≡ param_count p = count ∙ ap (λ (v : Bool). cond v (param_count p) (param_count p + 1)) (lt-ltb x param_token small) in
    ap taken (walk_past_byte pattern text path names token at x p here small (omega (arith, all, ap length e)))
    ∙ walks pattern text path names (token + 1) (at + 1) p tail parts short (drop_next token pattern x p here) (omega (arith, size))
    (drop_next at path x tail (left ∙ e)) (omega (arith, all, ap length e)) plain.1 t fewer
walks pattern text path [] token at (x ∷ p) rest parts short here inside left fits plain (inr (inl (is, part, after, later, segment, e, q, t))) count =
    absurd (omega (arith, count, ap param_count (ap (λ (y : ℕ). y ∷ p) is)))
walks pattern text path [] token at (x ∷ p) rest parts short here inside left fits plain (inr (inr (is, end, some, q))) count =
    absurd (omega (arith, count, ap param_count (ap (λ (y : ℕ). y ∷ p) is)))
walks pattern text path (name ∷ names) token at (x ∷ p) rest parts short here inside left fits plain (inr (inl (is, part, after, later, segment, e, q, t))) count =
    let start : drop token pattern ≡ param_token ∷ p = here ∙ ap (λ (y : ℕ). y ∷ p) is in
    let size : length pattern ≡ token + length (param_token ∷ p) = length_from token pattern (param_token ∷ p) inside start in
    let wild : wild_from (drop token pattern) (length path) token at ≡ (token, at) = ap (λ (y : List ℕ). wild_from y (length path) token at) start in
    let fine : IsPlain (param_token ∷ p) = subst (λ (y : ℕ). IsPlain (y ∷ p)) is plain in
    let stop : wild_stop pattern token path at ≡ at + length part =
    stop_at pattern path token at p part after later start (left ∙ e) (omega (arith, size)) fits fine segment t in
    let next : after_token token ≡ token + 1 = omega (arith, size, short) in
    let fewer : length names ≡ param_count p = omega (arith, count, ap param_count (ap (λ (y : ℕ). y ∷ p) is)) in
    let all : length path ≡ at + length (part ++ after) = length_from at path (part ++ after) fits (left ∙ e) in
    let first : part_of path at (at + length part) ≡ part = part_is path at (at + length part) part after (left ∙ e) refl fits in
    let others : taken (walk pattern text path names (token + 1) (at + length part)) ≡ later =
    walks pattern text path names (token + 1) (at + length part) p after later short (drop_next token pattern param_token p start) (omega (arith, size))
    (drop_part at path part after (left ∙ e)) (omega (arith, all, length-append part after)) plain.1 t fewer in
    ap (λ (w : ℕ × ℕ). part_of path w.1 (wild_stop pattern w.0 path w.1) ∷ taken (walk pattern text path names (after_token w.0) (wild_stop pattern w.0 path w.1))) wild
    ∙ ap (λ (s : ℕ). part_of path at s ∷ taken (walk pattern text path names (after_token token) s)) stop
    ∙ ap (λ (n : ℕ). part_of path at (at + length part) ∷ taken (walk pattern text path names n (at + length part))) next
    ∙ ap (λ (y : List ℕ). y ∷ taken (walk pattern text path names (token + 1) (at + length part))) first
    ∙ ap (λ (y : List (List ℕ)). part ∷ y) others
    ∙ sym q
walks pattern text path (name ∷ names) token at (x ∷ p) rest parts short here inside left fits plain (inr (inr (is, end, some, q))) count =
    let start : drop token pattern ≡ catch_all_token ∷ [] = here ∙ ap (λ (y : ℕ). y ∷ p) is ∙ ap (λ (y : List ℕ). catch_all_token ∷ y) end in
    let wild : wild_from (drop token pattern) (length path) token at ≡ (token, at) = ap (λ (y : List ℕ). wild_from y (length path) token at) start in
    let all : length path ≡ at + length rest = length_from at path rest fits left in
    let size : length pattern ≡ token + 1 = length_from token pattern (catch_all_token ∷ []) inside start in
    let none : names ≡ [] = no_more names (omega (arith, count, ap param_count (ap (λ (y : ℕ). y ∷ p) is ∙ ap (λ (y : List ℕ). catch_all_token ∷ y) end))) in
    let none_more : ltb (token + 1) (length pattern) ≡ false = grind arith in
    let some_left : ltb token (length pattern) ≡ true = lt-ltb token (length pattern) (omega (arith, size)) in
    let stop : wild_stop pattern token path at ≡ length path = rw (some_left, none_more, get_next 0 token pattern catch_all_token [] start) refl in
    let first : part_of path at (length path) ≡ rest = part_is path at (length path) rest [] (left ∙ sym (append-nil rest)) all fits in
    ap (λ (w : ℕ × ℕ). part_of path w.1 (wild_stop pattern w.0 path w.1) ∷ taken (walk pattern text path names (after_token w.0) (wild_stop pattern w.0 path w.1))) wild
    ∙ ap (λ (n : List (ℕ × ℕ)). part_of path at (wild_stop pattern token path at) ∷ taken (walk pattern text path n (after_token token) (wild_stop pattern token path at))) none
    ∙ ap (λ (s : ℕ). part_of path at s ∷ []) stop
    ∙ ap (λ (y : List ℕ). y ∷ []) first
    ∙ sym q

-- what the parameters took are the parts
pub taken_are : (pattern text path : List ℕ) (names : List (ℕ × ℕ)) (parts : List (List ℕ)) → length pattern < 2 ^ 64 → IsPlain pattern
    → Takes pattern path parts → length names ≡ param_count pattern → taken (walk pattern text path names 0 0) ≡ parts
taken_are pattern text path names parts short plain takes count =
    walks pattern text path names 0 0 pattern path parts short refl (omega arith) refl (omega arith) plain takes count
