-- A tree in which a key is found by its bits: at each part the next bit says which part comes next.
use Rattle.std.specs.Prelude.{◌≡◌, ℕ, ◌+◌, ◌<◌, ◌≤◌, Bool, true}

-- no part
abbrev pub none : ℕ
none = 4_294_967_295

-- two keys have the same first bits
abbrev pub Agree : (ℕ → Bool) → (ℕ → Bool) → ℕ → Type 0
Agree f g n = (m : ℕ) → m < n → f m ≡ g m

module _ (n : ℕ) (bit : ℕ → ℕ → Bool) (on : ℕ → Bool) (link : ℕ → Bool → ℕ) (level : ℕ → ℕ) where
  -- a link from a part leads to a later one, whose key has the same first bits and the link's bit
  pub record IsLink (v : ℕ) (b : Bool) : Type 0 where
    pub later : v < link v b
    pub within : link v b < n
    pub on_it : on (link v b) ≡ true
    pub deeper : level (link v b) ≡ level v + 1
    pub agree : Agree (bit v) (bit (link v b)) (level v)
    pub side : bit (link v b) (level v) ≡ b

  -- Of n parts, those in the tree are found by their bits. The level is how many bits come before a part.
  pub record IsSearch : Type 0 where
    pub some : 0 < n
    pub root : on 0 ≡ true
    pub top : level 0 ≡ 0
    pub linked : (v : ℕ) (b : Bool) → v < n → on v ≡ true → ¬ (link v b ≡ none) → IsLink v b
    pub kept : (v j : ℕ) → v < j → j < n → on v ≡ true → on j ≡ true → Agree (bit v) (bit j) (level v)
        → (¬ (link v (bit j (level v)) ≡ none)) × (link v (bit j (level v)) ≤ j)
    pub first : (v w : ℕ) → v < n → w < n → on v ≡ true → on w ≡ true → level v ≤ level w → Agree (bit v) (bit w) (level v) → v ≤ w

  -- the search for a key has come to this part
  pub record IsAt (key : ℕ → Bool) (at turn : ℕ) : Type 0 where
    pub within : at < n
    pub on_it : on at ≡ true
    pub turns : level at ≡ turn
    pub agree : Agree (bit at) key turn
