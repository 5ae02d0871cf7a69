-- In which order the noncurrent versions of a key ceased to be current.
use Rattle.std.specs.Prelude.{ℕ, Bool, true, ◌&&◌, List, [], ◌∷◌, nat_le}
use Rattle.stacks.specs.declared.version.Version.{Version}

-- in these versions, newest first, none ceased to be current after the moment, nor after a newer one
abbrev pub cease_until : ℕ → List Version → Bool
cease_until last [] = true
cease_until last (version ∷ versions) = nat_le version.ceased last && cease_until version.ceased versions

-- the same for the noncurrent ones of these versions; the first version is the current one (S3 User Guide, "Lifecycle
-- configuration elements", how long an object has been noncurrent)
abbrev pub cease_in_order : ℕ → List Version → Bool
cease_in_order changed [] = true
cease_in_order changed (current ∷ noncurrent) = cease_until changed noncurrent
