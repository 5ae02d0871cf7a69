-- What the router of a table holds, in matchit's words.
use Rattle.std.specs.Prelude.{◌≡◌, ◌⊎◌, ℕ, ◌+◌, ◌^◌, ◌<◌, true, cond, ltb, List, [], ◌∷◌, codes, length, flat_map, get_or}
use Rattle.std.specs.Str.{IsUtf8}
use Rattle.matchit.specs.Rows.{RowsOf, param_token, catch_all_token}
use Rattle.matchit.specs.Router.{RouteOf}
use Rattle.matchit.specs.Order.{placed}
use Rattle.matchit.specs.declared.params.Params.{Params}
use Rattle.matchit.specs.Params.{walk}
use Rattle.route_table.specs.Patterns.{Shape, a_word, a_segment, a_remainder, are_disjoint}

-- the text of a pattern, as matchit reads it; all parameters have the same name, because no name is looked up
abbrev pub text_in : Shape → List ℕ
text_in (a_word text) = text
text_in a_segment = codes "{p}"
text_in a_remainder = codes "{*p}"

-- the text of a whole pattern, with a slash before each shape
abbrev pub pattern_text : List Shape → List ℕ
pattern_text pattern = flat_map (λ shape. 47 ∷ text_in shape) pattern

-- its tokens: the bytes of a word, or the one token for a segment or for a remainder
abbrev pub tokens_in : Shape → List ℕ
tokens_in (a_word text) = text
tokens_in a_segment = param_token ∷ []
tokens_in a_remainder = catch_all_token ∷ []

-- the tokens of a whole pattern, with a slash before those of each shape
abbrev pub tokens_of : List Shape → List ℕ
tokens_of pattern = flat_map (λ shape. 47 ∷ tokens_in shape) pattern

-- how many parts a pattern has
abbrev pub param_count : List ℕ → ℕ
param_count [] = 0
param_count (x ∷ pattern) = cond (ltb x param_token) (param_count pattern) (param_count pattern + 1)

-- one of the rows has these tokens and this value
abbrev pub Among : {K : Type 0} → RowsOf K → List ℕ → K → Type 0
Among [] tokens row = ⊥
Among ((t, r) ∷ rows) tokens row = ((t ≡ tokens) × (r ≡ row)) ⊎ Among rows tokens row

-- what matchit keeps with these tokens: the tokens themselves, a name for each part, and the place of a pattern
pub record IsRoute (tokens : List ℕ) (row : RouteOf ℕ) : Type 0 where
  pub kept : row.pattern ≡ tokens
  pub names : length row.names ≡ param_count tokens
  pub short : length tokens < 2 ^ 64

-- a row of the router has the place of one of the first n patterns, and that pattern's tokens
pub record IsRow (patterns : List (List Shape)) (n : ℕ) (tokens : List ℕ) (row : RouteOf ℕ) : Type 0 where
  pub place : row.value < n
  pub is : tokens ≡ tokens_of (get_or patterns row.value [])
  pub route : IsRoute tokens row

-- each row of the router has the place of one of the first n patterns, and that pattern's tokens
abbrev pub AreRows : List (List Shape) → ℕ → RowsOf (RouteOf ℕ) → Type 0
AreRows patterns n [] = Unit {0}
AreRows patterns n ((tokens, row) ∷ rows) = IsRow patterns n tokens row × AreRows patterns n rows

-- there is a row with this place and these tokens
pub record HasPlace (tokens : List ℕ) (rows : RowsOf (RouteOf ℕ)) (place : ℕ) : Type 0 where
  pub row : RouteOf ℕ
  pub value : row.value ≡ place
  pub among : Among rows tokens row

-- one more row, with this place and these tokens
pub record AddsRow (tokens : List ℕ) (place : ℕ) (old new : RowsOf (RouteOf ℕ)) : Type 0 where
  pub row : RouteOf ℕ
  pub value : row.value ≡ place
  pub route : IsRoute tokens row
  pub added : new ≡ placed (tokens, row) old

-- the rows are those of the first n patterns, none missing
pub record HoldsRoutes (patterns : List (List Shape)) (n : ℕ) (rows : RowsOf (RouteOf ℕ)) : Type 0 where
  pub only : AreRows patterns n rows
  pub whole : (place : ℕ) → place < n → HasPlace (tokens_of (get_or patterns place [])) rows place

-- the rows are those of all patterns, which are disjoint
pub record IsRouted (patterns : List (List Shape)) (rows : RowsOf (RouteOf ℕ)) : Type 0 where
  pub disjoint : are_disjoint patterns ≡ true
  pub holds : HoldsRoutes patterns (length patterns) rows

-- the parts are UTF-8
abbrev pub AreTexts : List (List ℕ) → Type 0
AreTexts [] = Unit {0}
AreTexts (one ∷ parts) = IsUtf8 one × AreTexts parts

-- what the parameters of a match took, in order
abbrev pub taken : List (List ℕ × List ℕ) → List (List ℕ)
taken [] = []
taken (pair ∷ pairs) = pair.1 ∷ taken pairs

-- the same for a match that matchit found
abbrev pub taken_by : Params → List (List ℕ)
taken_by params = taken (walk params.pattern.now params.text.now params.path.now params.names.now 0 0)
