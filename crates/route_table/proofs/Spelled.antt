-- A pattern's text reads as the pattern's tokens.
use Rattle.std.proofs.Common.{◌≡◌, ℕ, ◌+◌, ◌<◌, ◌≤◌, Bool, true, false, cond, ◌==◌, List, [], ◌∷◌, ◌++◌, length}
use Rattle.std.proofs.Common.{refl, sym, ap, ◌∙◌, arith, ltb, append-nil, append_assoc, length-append, Option, Some, None, Result, Ok, Err}
use Rattle.std.specs.List.{list_all}
use Rattle.std.proofs.lemmas.Bool.{lt-ltb, le-ltb, ne_eqb, false≢true}
use Rattle.matchit.specs.Rows.{param_token, catch_all_token}
use Rattle.matchit.specs.Seek.{segment}
use Rattle.matchit.specs.Route.{Scan, scan, parse_route, after_shape, shape_error, on_shape, has_wild}
use Rattle.matchit.specs.declared.error.InsertError.{InsertError}
use Rattle.matchit.specs.declared.error.InsertError.TheVariants.{InvalidParam, InvalidParamSegment}
use Rattle.route_table.specs.Patterns.{Shape, a_word, a_segment, a_remainder, is_word_byte, is_pattern}
use Rattle.route_table.specs.Routed.{pattern_text, tokens_of, param_count}
use Rattle.route_table.proofs.Pieces.{first_byte, first_word}

-- ---- a scan

-- between two pieces, and behind the name of a parameter
abbrev between : List ℕ → List ℕ → List (ℕ × ℕ) → ℕ → Bool → Scan
between pattern text names start catch = record { pattern = pattern; text = text; names = names; name_start = start; catch_all = catch; mode = 0 }

abbrev behind : List ℕ → List ℕ → List (ℕ × ℕ) → ℕ → Bool → Scan
behind pattern text names start catch = record { pattern = pattern; text = text; names = names; name_start = start; catch_all = catch; mode = 5 }

-- it ends with these tokens, and with this many names
pub record Ends (read : Result Scan InsertError) (tokens : List ℕ) (count : ℕ) : Type 0 where
  pub last : Scan
  pub is : read ≡ Ok last
  pub pattern : last.pattern ≡ tokens
  pub names : length last.names ≡ count

-- over a word
over_word : (word rest pattern text : List ℕ) (names : List (ℕ × ℕ)) (start : ℕ) (catch : Bool) → list_all is_word_byte word ≡ true
    → scan (between pattern text names start catch) (word ++ rest) ≡ scan (between (pattern ++ word) (text ++ word) names start catch) rest
unfolding scan
over_word [] rest pattern text names start catch fine = rw (append-nil pattern, append-nil text) refl
over_word (b ∷ word) rest pattern text names start catch fine =
    let both = first_byte b word fine in
    let step : scan (between pattern text names start catch) (b ∷ (word ++ rest))
    ≡ scan (between (pattern ++ b ∷ []) (text ++ b ∷ []) names start catch) (word ++ rest) = rw (both.0.no_open, both.0.no_close) refl in
    step ∙ over_word word rest (pattern ++ b ∷ []) (text ++ b ∷ []) names start catch both.1
    ∙ ap (λ (p : List ℕ). scan (between p ((text ++ b ∷ []) ++ word) names start catch) rest) (append_assoc pattern (b ∷ []) word)
    ∙ ap (λ (t : List ℕ). scan (between (pattern ++ b ∷ word) t names start catch) rest) (append_assoc text (b ∷ []) word)

-- the name of a parameter is closed by what follows
closes : (shapes : List Shape) (pattern text : List ℕ) (names : List (ℕ × ℕ)) (start : ℕ)
    → scan (behind pattern text names start false) (pattern_text shapes)
    ≡ scan (between (pattern ++ param_token ∷ []) (text ++ 125 ∷ []) (names ++ (start, length text) ∷ []) start false) (pattern_text shapes)
unfolding scan
closes [] pattern text names start = refl
closes (shape ∷ shapes) pattern text names start = refl

-- ---- counts

count_word : (word tokens : List ℕ) → list_all is_word_byte word ≡ true → param_count (word ++ tokens) ≡ param_count tokens
count_word [] tokens fine = refl
count_word (b ∷ word) tokens fine =
    let both = first_byte b word fine in
    let small : b < param_token = omega (arith, both.0.small) in
    ap (λ (v : Bool). cond v (param_count (word ++ tokens)) (param_count (word ++ tokens) + 1)) (lt-ltb b param_token small) ∙ count_word word tokens both.1

-- the text is at least as long as the tokens
pub longer : (shapes : List Shape) → length (tokens_of shapes) ≤ length (pattern_text shapes)
longer [] = omega arith
longer (a_word text ∷ shapes) =
    omega (arith, longer shapes, length-append text (tokens_of shapes), length-append text (pattern_text shapes))
longer (a_segment ∷ shapes) = omega (arith, longer shapes)
longer (a_remainder ∷ shapes) = omega (arith, longer shapes)

-- ---- all pieces

reads_on : (shapes : List Shape) (pattern text : List ℕ) (names : List (ℕ × ℕ)) (start : ℕ) (catch : Bool) → is_pattern shapes ≡ true
    → Ends (scan (between pattern text names start catch) (pattern_text shapes)) (pattern ++ tokens_of shapes) (length names + param_count (tokens_of shapes))
unfolding scan
reads_on [] pattern text names start catch fine = record {
  last = between pattern text names start catch;
  is = refl;
  pattern = sym (append-nil pattern);
  names = omega arith;
}
reads_on (a_word word ∷ shapes) pattern text names start catch fine =
    let both = first_word word shapes fine in
    let before = pattern ++ 47 ∷ [] in
    let later = reads_on shapes (before ++ word) ((text ++ 47 ∷ []) ++ word) names start catch both.1 in
    record {
      last = later.last;
      is = over_word word (pattern_text shapes) before (text ++ 47 ∷ []) names start catch both.0 ∙ later.is;
      pattern = later.pattern ∙ append_assoc before word (tokens_of shapes) ∙ append_assoc pattern (47 ∷ []) (word ++ tokens_of shapes);
      names = later.names ∙ ap (λ (n : ℕ). length names + n) (sym (count_word word (tokens_of shapes) both.0));
    }
reads_on (a_segment ∷ shapes) pattern text names start catch fine =
    let before = pattern ++ 47 ∷ [] in
    let opened = (text ++ 47 ∷ []) ++ 123 ∷ [] in
    let name : ℕ × ℕ = (length opened, length (opened ++ 112 ∷ [])) in
    let later = reads_on shapes (before ++ param_token ∷ []) ((opened ++ 112 ∷ []) ++ 125 ∷ []) (names ++ name ∷ []) (length opened) false fine in
    record {
      last = later.last;
      is = closes shapes before (opened ++ 112 ∷ []) names (length opened) ∙ later.is;
      pattern = later.pattern ∙ append_assoc before (param_token ∷ []) (tokens_of shapes) ∙ append_assoc pattern (47 ∷ []) (param_token ∷ tokens_of shapes);
      names = omega (arith, later.names, length-append names (name ∷ []));
    }
reads_on (a_remainder ∷ []) pattern text names start catch fine =
    let before = pattern ++ 47 ∷ [] in
    let opened = ((text ++ 47 ∷ []) ++ 123 ∷ []) ++ 42 ∷ [] in
    let name : ℕ × ℕ = (length opened, length (opened ++ 112 ∷ [])) in
    let last : Scan = between (before ++ catch_all_token ∷ []) ((opened ++ 112 ∷ []) ++ 125 ∷ []) (names ++ name ∷ []) (length opened) true in
    let some : (length (opened ++ 112 ∷ []) == length opened) ≡ false =
    ne_eqb (length (opened ++ 112 ∷ [])) (length opened) (λ e. omega (arith, e, length-append opened (112 ∷ []))) in
    record {
      last = last;
      is = ap (λ (v : Bool). cond {A = Result Scan InsertError} v (Err InvalidParam) (Ok last)) some;
      pattern = append_assoc pattern (47 ∷ []) (catch_all_token ∷ []);
      names = omega (arith, length-append names (name ∷ []));
    }
reads_on (a_remainder ∷ shape ∷ shapes) pattern text names start catch fine = absurd (false≢true fine)

-- ---- the order of its parts

shape_word : (word tokens : List ℕ) → list_all is_word_byte word ≡ true → shape_error tokens ≡ None → shape_error (word ++ tokens) ≡ None
shape_word [] tokens fine ok = ok
shape_word (b ∷ word) tokens fine ok =
    let both = first_byte b word fine in
    let small = both.0.small in
    let low : ltb catch_all_token b ≡ false = le-ltb catch_all_token b (omega (arith, small)) in
    let param : (b == param_token) ≡ false = ne_eqb b param_token (λ e. omega (arith, small, e)) in
    let rest : (b == catch_all_token) ≡ false = ne_eqb b catch_all_token (λ e. omega (arith, small, e)) in
    rw (low, param, rest) (shape_word word tokens both.1 ok)

no_wild : (shapes : List Shape) → has_wild (segment (tokens_of shapes)) ≡ false
no_wild [] = refl
no_wild (shape ∷ shapes) = refl

shape_none : (shapes : List Shape) → is_pattern shapes ≡ true → shape_error (tokens_of shapes) ≡ None
shape_none [] fine = refl
shape_none (a_word word ∷ shapes) fine =
    let both = first_word word shapes fine in shape_word word (tokens_of shapes) both.0 (shape_none shapes both.1)
shape_none (a_segment ∷ shapes) fine =
    ap (λ (v : Bool). cond v (Some InvalidParamSegment) (shape_error (tokens_of shapes))) (no_wild shapes) ∙ shape_none shapes fine
shape_none (a_remainder ∷ []) fine = refl
shape_none (a_remainder ∷ shape ∷ shapes) fine = absurd (false≢true fine)

-- a pattern's text reads as its tokens, with a name for each part
pub reads : (shapes : List Shape) → is_pattern shapes ≡ true → Ends (parse_route (pattern_text shapes)) (tokens_of shapes) (param_count (tokens_of shapes))
reads shapes fine =
    let all = reads_on shapes [] [] [] 0 false fine in
    record {
      last = all.last;
      is = ap after_shape all.is ∙ ap (λ (p : List ℕ). on_shape (shape_error p) all.last) all.pattern
          ∙ ap (λ (e : Option InsertError). on_shape e all.last) (shape_none shapes fine);
      pattern = all.pattern;
      names = omega (arith, all.names);
    }
