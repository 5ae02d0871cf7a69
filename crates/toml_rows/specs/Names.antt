-- Names, one behind the other.
use Rattle.std.specs.Prelude.{◌≡◌, ℕ, zero, suc, ◌-◌, ◌≤◌, List, [], ◌∷◌, take, drop, get_or}
use Rattle.std.specs.Str.{IsUtf8}

-- the names with these ends, of which the first begins at `start`
unfoldable pub names_from : ℕ → List ℕ → List ℕ → List (List ℕ)
names_from start [] bytes = []
names_from start (end ∷ ends) bytes = take (end - start) (drop start bytes) ∷ names_from end ends bytes

-- the ends do not fall, and the last one is this number
abbrev pub Rise : ℕ → List ℕ → ℕ → Type 0
Rise start [] last = start ≡ last
Rise start (end ∷ ends) last = (start ≤ end) × Rise end ends last

-- the text from each of these ends on is text
abbrev pub AreCuts : List ℕ → List ℕ → Type 0
AreCuts [] text = Unit {0}
AreCuts (end ∷ ends) text = IsUtf8 (drop end text) × AreCuts ends text

-- where the name at an index begins
abbrev pub start_of : ℕ → List ℕ → ℕ → ℕ
start_of start ends zero = start
start_of start ends (suc i) = get_or ends i 0
