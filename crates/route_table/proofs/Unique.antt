-- A path has one list of parts for a pattern, and one place in a table.
use Rattle.std.proofs.Common.{◌≡◌, ℕ, zero, suc, ◌<◌, ◌≤◌, Bool, true, false, not, ◌&&◌, ◌||◌, List, [], ◌∷◌, ◌++◌, length, get_or}
use Rattle.std.proofs.Common.{refl, sym, ap, ◌∙◌, subst, arith, inl, inr, ◌⊎◌}
use Rattle.std.specs.List.{list_all}
use Rattle.std.proofs.lemmas.Bool.{and_parts, false≢true, cases_lt}
use Rattle.std.proofs.lemmas.List.{get_or-map, get_or_default, length-map}
use Rattle.matchit.specs.Rows.{param_token}
use Rattle.matchit.specs.Seek.{has_slash, same_text}
use Rattle.matchit.proofs.ParamLemmas.{same_text-self}
use Rattle.route_table.specs.Paths.{Piece, word, segment, remainder, piece_text, path_of, AreInRange}
use Rattle.route_table.specs.Patterns.{Shape, shapes_of, HasPattern, is_pattern, are_apart, are_disjoint}
use Rattle.route_table.specs.Tables.{patterns_of, Leads, LeadsOnly}
use Rattle.route_table.specs.Routed.{tokens_of}
use Rattle.route_table.proofs.Complete.{plain_tail}
use Rattle.route_table.proofs.Tokens.{Takes, IsEndOrSlash, IsPlain}
use Rattle.route_table.proofs.Pieces.{first_word, word_whole, is_plain, segment_of_part, takes}

head_is : (x y : ℕ) (a b : List ℕ) → x ∷ a ≡ y ∷ b → x ≡ y
head_is x y a b e = cc

tail_is : (x y : ℕ) (a b : List ℕ) → x ∷ a ≡ y ∷ b → a ≡ b
tail_is x y a b e = cc

-- a slash, or the end, ends a part
no_longer : (rest part other : List ℕ) (b : ℕ) → IsEndOrSlash rest → has_slash (b ∷ part) ≡ false → rest ≡ (b ∷ part) ++ other → ⊥
no_longer [] part other b end plain e = absurd cc
no_longer (x ∷ rest) part other b end plain e = (plain_tail b part plain).0 (sym (head_is x b rest (part ++ other) e) ∙ end)

pub part_unique : (part rest other after : List ℕ) → has_slash part ≡ false → has_slash other ≡ false → IsEndOrSlash rest → IsEndOrSlash after
    → part ++ rest ≡ other ++ after → (part ≡ other) × (rest ≡ after)
part_unique [] rest [] after plain clean end stop e = (refl, e)
part_unique [] rest (b ∷ other) after plain clean end stop e = absurd (no_longer rest other after b end clean e)
part_unique (b ∷ part) rest [] after plain clean end stop e = absurd (no_longer after part rest b stop plain (sym e))
part_unique (b ∷ part) rest (c ∷ other) after plain clean end stop e =
    let same = part_unique part rest other after (plain_tail b part plain).1 (plain_tail c other clean).1 end stop (tail_is b c (part ++ rest) (other ++ after) e) in
    let head = head_is b c (part ++ rest) (other ++ after) e in
    (ap (λ (y : ℕ). y ∷ part) head ∙ ap (λ (y : List ℕ). c ∷ y) same.0, same.1)

-- what follows a part
pub rest_ends : (p rest : List ℕ) (later : List (List ℕ)) → IsPlain (param_token ∷ p) → Takes p rest later → IsEndOrSlash rest
rest_ends [] rest later plain (e, q) = subst IsEndOrSlash (sym e) tt
rest_ends (x ∷ p) rest later plain (inl (small, tail, e, t)) = subst IsEndOrSlash (sym e) (plain.0 refl)
rest_ends (x ∷ p) rest later plain (inr (inl t)) = absurd (omega (arith, plain.0 refl, t.0))
rest_ends (x ∷ p) rest later plain (inr (inr t)) = absurd (omega (arith, plain.0 refl, t.0))

-- a path has one list of parts for a pattern
pub parts_unique : (p path : List ℕ) (parts others : List (List ℕ)) → IsPlain p → Takes p path parts → Takes p path others → parts ≡ others
parts_unique [] path parts others plain (e, q) (d, r) = q ∙ sym r
parts_unique (x ∷ p) path parts others plain (inl (small, rest, e, t)) (inl (little, after, d, s)) =
    let same : rest ≡ after = tail_is x x rest after (sym e ∙ d) in
    parts_unique p after parts others plain.1 (subst (λ (y : List ℕ). Takes p y parts) same t) s
parts_unique (x ∷ p) path parts others plain (inl t) (inr (inl s)) = absurd (omega (arith, t.0, s.0))
parts_unique (x ∷ p) path parts others plain (inl t) (inr (inr s)) = absurd (omega (arith, t.0, s.0))
parts_unique (x ∷ p) path parts others plain (inr (inl t)) (inl s) = absurd (omega (arith, t.0, s.0))
parts_unique (x ∷ p) path parts others plain (inr (inr t)) (inl s) = absurd (omega (arith, t.0, s.0))
parts_unique (x ∷ p) path parts others plain (inr (inl t)) (inr (inr s)) = absurd (omega (arith, t.0, s.0))
parts_unique (x ∷ p) path parts others plain (inr (inr t)) (inr (inl s)) = absurd (omega (arith, t.0, s.0))
parts_unique (x ∷ p) path parts others plain (inr (inr (is, end, some, q))) (inr (inr (also, stop, any, r))) = q ∙ sym r
parts_unique (x ∷ p) path parts others plain (inr (inl (is, part, rest, later, whole, e, q, t)))
    (inr (inl (also, other, after, more, clean, d, r, s))) =
    let fine : IsPlain (param_token ∷ p) = subst (λ (y : ℕ). IsPlain (y ∷ p)) is plain in
    let same = part_unique part rest other after whole.plain clean.plain (rest_ends p rest later fine t) (rest_ends p after more fine s) (sym e ∙ d) in
    let tails = parts_unique p after later more plain.1 (subst (λ (y : List ℕ). Takes p y later) same.1 t) s in
    q ∙ ap (λ (y : List ℕ). y ∷ later) same.0 ∙ ap (λ (y : List (List ℕ)). other ∷ y) tails ∙ sym r

-- ---- two patterns that are apart

pub path_ends : (pieces : List Piece) → IsEndOrSlash (path_of pieces)
path_ends [] = tt
path_ends (piece ∷ pieces) = refl

no_more : (x : ℕ) (a : List ℕ) → [] ≡ x ∷ a → ⊥
no_more x a e = absurd cc

-- one text and one path after it, where no text has a slash
same_step : (text other : List ℕ) (p q : List Piece) → has_slash text ≡ false → has_slash other ≡ false
    → 47 ∷ (text ++ path_of p) ≡ 47 ∷ (other ++ path_of q) → (text ≡ other) × (path_of p ≡ path_of q)
same_step text other p q whole clean e =
    part_unique text (path_of p) other (path_of q) whole clean (path_ends p) (path_ends q) (tail_is 47 47 (text ++ path_of p) (other ++ path_of q) e)

-- two words that are the same do not tell the patterns apart
same_words : (text other : List ℕ) (later : Bool) → text ≡ other → (not (same_text text other) || later) ≡ true → later ≡ true
same_words text other later e far =
    sym (ap (λ (v : Bool). not v || later) (ap (λ (y : List ℕ). same_text text y) (sym e) ∙ same_text-self text)) ∙ far

no_common : (p q : List Piece) → is_pattern (shapes_of p) ≡ true → is_pattern (shapes_of q) ≡ true → AreInRange p → AreInRange q
    → are_apart (shapes_of p) (shapes_of q) ≡ true → path_of p ≡ path_of q → ⊥
no_common [] [] fine good are is far e = false≢true far
no_common [] (piece ∷ q) fine good are is far e = no_more 47 (piece_text piece ++ path_of q) e
no_common (piece ∷ p) [] fine good are is far e = no_more 47 (piece_text piece ++ path_of p) (sym e)
no_common (word text ∷ p) (word other ∷ q) fine good are is far e =
    let one = first_word text (shapes_of p) fine in
    let two = first_word other (shapes_of q) good in
    let same = same_step text other p q (word_whole text one.0) (word_whole other two.0) e in
    no_common p q one.1 two.1 are is (same_words text other (are_apart (shapes_of p) (shapes_of q)) same.0 far) same.1
no_common (word text ∷ p) (segment other ∷ q) fine good are is far e =
    let one = first_word text (shapes_of p) fine in
    no_common p q one.1 good are is.1 far (same_step text other p q (word_whole text one.0) (segment_of_part other is.0).plain e).1
no_common (segment text ∷ p) (word other ∷ q) fine good are is far e =
    let two = first_word other (shapes_of q) good in
    no_common p q fine two.1 are.1 is far (same_step text other p q (segment_of_part text are.0).plain (word_whole other two.0) e).1
no_common (segment text ∷ p) (segment other ∷ q) fine good are is far e =
    no_common p q fine good are.1 is.1 far (same_step text other p q (segment_of_part text are.0).plain (segment_of_part other is.0).plain e).1
no_common (remainder text ∷ p) (word other ∷ q) fine good are is far e = false≢true far
no_common (remainder text ∷ p) (segment other ∷ q) fine good are is far e = false≢true far
no_common (remainder text ∷ p) (remainder other ∷ q) fine good are is far e = false≢true far
no_common (word text ∷ p) (remainder other ∷ q) fine good are is far e = false≢true far
no_common (segment text ∷ p) (remainder other ∷ q) fine good are is far e = false≢true far

-- ---- patterns of a table

pub one_list : (pattern : List Shape) (path : List ℕ) (parts others : List (List ℕ)) → is_pattern pattern ≡ true
    → HasPattern pattern parts path → HasPattern pattern others path → parts ≡ others
one_list pattern path parts others fine has also =
    parts_unique (tokens_of pattern) path parts others (is_plain pattern fine) (takes pattern path parts fine has) (takes pattern path others fine also)

pub one_pattern : (pattern other : List Shape) (path : List ℕ) (parts others : List (List ℕ)) → is_pattern pattern ≡ true → is_pattern other ≡ true
    → are_apart pattern other ≡ true → HasPattern pattern parts path → HasPattern other others path → ⊥
one_pattern pattern other path parts others fine good far has also =
    no_common has.pieces also.pieces (ap is_pattern has.has_shapes ∙ fine) (ap is_pattern also.has_shapes ∙ good) has.in_range also.in_range
    (ap (λ (p : List Shape). are_apart p (shapes_of also.pieces)) has.has_shapes ∙ ap (λ (q : List Shape). are_apart pattern q) also.has_shapes ∙ far)
    (sym has.spelled ∙ also.spelled)

pub pattern_at : (patterns : List (List Shape)) (i : ℕ) → i < length patterns → are_disjoint patterns ≡ true
    → is_pattern (get_or patterns i []) ≡ true
pattern_at [] i within are = absurd (omega (arith, within))
pattern_at (pattern ∷ rest) zero within are =
    (and_parts (is_pattern pattern) (list_all (λ other. are_apart pattern other) rest && are_disjoint rest) are).0
pattern_at (pattern ∷ rest) (suc i) within are =
    let later = (and_parts (is_pattern pattern) (list_all (λ other. are_apart pattern other) rest && are_disjoint rest) are).1 in
    pattern_at rest i (omega (arith, within)) (and_parts (list_all (λ other. are_apart pattern other) rest) (are_disjoint rest) later).1

apart_from : (pattern : List Shape) (rest : List (List Shape)) (i : ℕ) → i < length rest
    → list_all (λ other. are_apart pattern other) rest ≡ true → are_apart pattern (get_or rest i []) ≡ true
apart_from pattern [] i within e = absurd (omega (arith, within))
apart_from pattern (other ∷ rest) zero within e = (and_parts (are_apart pattern other) (list_all (λ o. are_apart pattern o) rest) e).0
apart_from pattern (other ∷ rest) (suc i) within e =
    apart_from pattern rest i (omega (arith, within)) (and_parts (are_apart pattern other) (list_all (λ o. are_apart pattern o) rest) e).1

pub apart_at : (patterns : List (List Shape)) (i j : ℕ) → i < j → j < length patterns → are_disjoint patterns ≡ true
    → are_apart (get_or patterns i []) (get_or patterns j []) ≡ true
apart_at [] i j less within are = absurd (omega (arith, within))
apart_at (pattern ∷ rest) i zero less within are = absurd (omega (arith, less))
apart_at (pattern ∷ rest) i (suc j) less within are = go i less (apart_at rest)
  where
    both : (list_all (λ other. are_apart pattern other) rest ≡ true) × (are_disjoint rest ≡ true)
    both = and_parts (list_all (λ other. are_apart pattern other) rest) (are_disjoint rest)
        (and_parts (is_pattern pattern) (list_all (λ other. are_apart pattern other) rest && are_disjoint rest) are).1

    go : (i : ℕ) → i < suc j
        → ((n m : ℕ) → n < m → m < length rest → are_disjoint rest ≡ true → are_apart (get_or rest n []) (get_or rest m []) ≡ true)
        → are_apart (get_or (pattern ∷ rest) i []) (get_or rest j []) ≡ true
    go zero less later = apart_from pattern rest j (omega (arith, within)) both.0
    go (suc n) less later = later n j (omega (arith, less)) (omega (arith, within)) both.1

-- a path has one place in a table, with one list of parts
place_is : (patterns : List (List Shape)) (path : List ℕ) (i j : ℕ) (parts others : List (List ℕ)) → are_disjoint patterns ≡ true
    → i < length patterns → j < length patterns → HasPattern (get_or patterns i []) parts path → HasPattern (get_or patterns j []) others path
    → i ≡ j
place_is patterns path i j parts others are within inside has also = go (cases_lt i j) (cases_lt j i)
  where
    go : (i < j) ⊎ (j ≤ i) → (j < i) ⊎ (i ≤ j) → i ≡ j
    go (inl less) any =
        let far = apart_at patterns i j less inside are in
        absurd (one_pattern (get_or patterns i []) (get_or patterns j []) path parts others (pattern_at patterns i within are) (pattern_at patterns j inside are) far has also)
    go (inr low) (inl more) =
        let far = apart_at patterns j i more within are in
        absurd (one_pattern (get_or patterns j []) (get_or patterns i []) path others parts (pattern_at patterns j inside are) (pattern_at patterns i within are) far also has)
    go (inr low) (inr high) = omega (arith, low, high)

-- the pattern of a row
pub pattern_is : {V : Type 0} (rows : List (List Shape × V)) (i : ℕ) (pattern : List Shape) (value : V) → i < length rows
    → get_or rows i (pattern, value) ≡ (pattern, value) → get_or (patterns_of rows) i [] ≡ pattern
pattern_is {V} rows i pattern value within is =
    get_or-map (λ (row : List Shape × V). row.0) rows i (pattern, value) [] within ∙ ap (λ (row : List Shape × V). row.0) is

pub patterns_length : {V : Type 0} (rows : List (List Shape × V)) → length (patterns_of rows) ≡ length rows
patterns_length {V} rows = length-map rows (λ (row : List Shape × V). row.0)

-- a table of disjoint patterns leads a path to one value, with one list of parts
pub leads_only : {V : Type 0} (rows : List (List Shape × V)) (path : List ℕ) (value : V) (parts : List (List ℕ))
    → are_disjoint (patterns_of rows) ≡ true → Leads rows path value parts → LeadsOnly rows path value parts
leads_only {V} rows path value parts are leads other more also =
    let one = leads.row in
    let two = also.row in
    let size = patterns_length rows in
    let first = pattern_is rows one.0 leads.pattern value one.1 one.2 in
    let second = pattern_is rows two.0 also.pattern other two.1 two.2 in
    let here = subst (λ (p : List Shape). HasPattern p parts path) (sym first) leads.has in
    let there = subst (λ (p : List Shape). HasPattern p more path) (sym second) also.has in
    let within : one.0 < length (patterns_of rows) = omega (arith, size, one.1) in
    let inside : two.0 < length (patterns_of rows) = omega (arith, size, two.1) in
    let place : one.0 ≡ two.0 = place_is (patterns_of rows) path one.0 two.0 parts more are within inside here there in
    let row : (also.pattern, other) ≡ (leads.pattern, value) =
    sym two.2 ∙ ap (λ (i : ℕ). get_or rows i (also.pattern, other)) (sym place)
    ∙ get_or_default rows one.0 (also.pattern, other) (leads.pattern, value) one.1 ∙ one.2 in (
      ap (λ (r : List Shape × V). r.1) row,
      one_list (get_or (patterns_of rows) one.0 []) path more parts (pattern_at (patterns_of rows) one.0 within are)
          (subst (λ (i : ℕ). HasPattern (get_or (patterns_of rows) i []) more path) (sym place) there) here,
    )
