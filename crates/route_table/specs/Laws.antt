-- The law of tables.
use Rattle.std.specs.Prelude.{◌≡◌, true, ℕ, List}
use Rattle.route_table.specs.Patterns.{Shape, HasPattern, is_pattern, are_apart}

-- a path has only one list of parts for a pattern, and a path never has two patterns that are apart
pub record HasOneAnswer : Type 0 where
  pub one_list : (pattern : List Shape) (path : List ℕ) (parts others : List (List ℕ))
      → is_pattern pattern ≡ true → HasPattern pattern parts path → HasPattern pattern others path → parts ≡ others
  pub one_pattern : (pattern other : List Shape) (path : List ℕ) (parts others : List (List ℕ))
      → is_pattern pattern ≡ true → is_pattern other ≡ true → are_apart pattern other ≡ true
      → HasPattern pattern parts path → ¬ (HasPattern other others path)
