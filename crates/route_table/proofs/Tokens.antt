-- Which paths a pattern has, in matchit's tokens.
use Rattle.std.proofs.Common.{◌≡◌, ℕ, ◌<◌, false, List, [], ◌∷◌, ◌++◌, length}
use Rattle.std.specs.Prelude.{◌⊎◌}
use Rattle.matchit.specs.Rows.{RowsOf, param_token, catch_all_token}
use Rattle.matchit.specs.Seek.{has_slash}
use Rattle.route_table.specs.Routed.{Among}

-- what a parameter takes
pub record IsSegment (part : List ℕ) : Type 0 where
  pub some : 0 < length part
  pub plain : has_slash part ≡ false

-- the path has the pattern, with these parts in the places of its parameters
abbrev pub Takes : List ℕ → List ℕ → List (List ℕ) → Type 0
Takes [] path parts = (path ≡ []) × (parts ≡ [])
Takes (x ∷ pattern) path parts =
    ((x < param_token) × (rest : List ℕ) × (path ≡ x ∷ rest) × Takes pattern rest parts)
    ⊎ (((x ≡ param_token) × (part : List ℕ) × (rest : List ℕ) × (later : List (List ℕ))
    × IsSegment part × (path ≡ part ++ rest) × (parts ≡ part ∷ later) × Takes pattern rest later)
    ⊎ ((x ≡ catch_all_token) × (pattern ≡ []) × (0 < length path) × (parts ≡ path ∷ [])))

-- a row whose pattern the path has
abbrev pub HasRow : {K : Type 0} → RowsOf K → List ℕ → K → Type 0
HasRow rs path key = (pattern : List ℕ) × (parts : List (List ℕ)) × Among rs pattern key × Takes pattern path parts

-- the path's elements are bytes
abbrev pub AreBytes : List ℕ → Type 0
AreBytes [] = Unit {0}
AreBytes (b ∷ path) = (b < param_token) × AreBytes path

-- the list begins with a slash, or is empty
abbrev pub IsEndOrSlash : List ℕ → Type 0
IsEndOrSlash [] = Unit {0}
IsEndOrSlash (x ∷ rest) = x ≡ 47

-- a parameter is followed by a slash or by the end
abbrev pub IsPlain : List ℕ → Type 0
IsPlain [] = Unit {0}
IsPlain (x ∷ pattern) = (x ≡ param_token → IsEndOrSlash pattern) × IsPlain pattern

abbrev pub ArePlain : {K : Type 0} → RowsOf K → Type 0
ArePlain [] = Unit {0}
ArePlain ((t, k) ∷ rest) = IsPlain t × ArePlain rest

-- its bytes are ASCII
abbrev pub IsSpelled : List ℕ → Type 0
IsSpelled [] = Unit {0}
IsSpelled (x ∷ pattern) = (x < param_token → x < 128) × IsSpelled pattern
