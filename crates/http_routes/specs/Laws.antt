-- The law of routes.
use Rattle.std.specs.Prelude.{◌≡◌, ℕ, List}
use Rattle.http_routes.specs.Targets.{Resource, HasRoute}

-- a target names at most one resource, with one list of parts
abbrev pub HasOneRoute : Type 0
HasOneRoute =
    (target : List ℕ) (one other : Resource) → HasRoute target one → HasRoute target other → one ≡ other
