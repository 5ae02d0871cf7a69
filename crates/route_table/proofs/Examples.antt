-- Worked examples of patterns and paths.
use Rattle.std.proofs.Common.{◌≡◌, ℕ, true, false, List, [], ◌∷◌, codes, refl, arith}
use Rattle.route_table.specs.Paths.{word, segment, remainder}
use Rattle.route_table.specs.Patterns.{Shape, a_word, a_segment, a_remainder, HasPattern, is_pattern, are_apart, are_disjoint}
use Rattle.route_table.specs.Tables.{patterns_of, Leads, LeadsNowhere}
use Rattle.route_table.proofs.Computed.{in_range, nowhere}

-- a table of three rows
abbrev rows : List (List Shape × ℕ)
rows =
    (a_word (codes "a") ∷ [], 1)
    ∷ (a_word (codes "a") ∷ a_segment ∷ [], 2)
    ∷ (a_word (codes "b") ∷ a_segment ∷ a_remainder ∷ [], 3) ∷ []

are : are_disjoint (patterns_of rows) ≡ true
are = refl

-- ---- where it leads

a_part : Leads rows (codes "/a/x") 2 (codes "x" ∷ [])
a_part = record {
  pattern = a_word (codes "a") ∷ a_segment ∷ [];
  row = (1, omega arith, refl);
  has = record {
    pieces = word (codes "a") ∷ segment (codes "x") ∷ [];
    has_shapes = refl;
    has_parts = refl;
    spelled = refl;
    in_range = in_range (word (codes "a") ∷ segment (codes "x") ∷ []) refl;
  };
}

-- what is left has its slashes, and may begin with one
all_that_is_left : HasPattern (a_segment ∷ a_remainder ∷ []) (codes "x" ∷ codes "/y/" ∷ []) (codes "/x//y/")
all_that_is_left = record {
  pieces = segment (codes "x") ∷ remainder (codes "/y/") ∷ [];
  has_shapes = refl;
  has_parts = refl;
  spelled = refl;
  in_range = in_range (segment (codes "x") ∷ remainder (codes "/y/") ∷ []) refl;
}

-- a path leads nowhere with a slash at the end, with an empty part, or with another word
a_slash_at_the_end : LeadsNowhere rows (codes "/a/")
a_slash_at_the_end = nowhere rows (codes "/a/") refl refl

nothing_left : LeadsNowhere rows (codes "/b/x/")
nothing_left = nowhere rows (codes "/b/x/") refl refl

another_word : LeadsNowhere rows (codes "/c/x")
another_word = nowhere rows (codes "/c/x") refl refl

-- ---- what is a pattern, and which are apart

a_slash_in_a_word : is_pattern (a_word (codes "a/b") ∷ []) ≡ false
a_slash_in_a_word = refl

a_brace : is_pattern (a_word (codes "{a}") ∷ []) ≡ false
a_brace = refl

after_what_is_left : is_pattern (a_remainder ∷ a_segment ∷ []) ≡ false
after_what_is_left = refl

-- a later word tells them apart, whatever stands before it
a_later_word : are_apart (a_segment ∷ a_word (codes "x") ∷ []) (a_word (codes "b") ∷ a_word (codes "y") ∷ []) ≡ true
a_later_word = refl

-- a segment may be a word, and what is left may be anything
word_or_segment : are_apart (a_word (codes "a") ∷ []) (a_segment ∷ []) ≡ false
word_or_segment = refl

left_or_longer : are_apart (a_word (codes "a") ∷ a_remainder ∷ []) (a_word (codes "a") ∷ a_segment ∷ a_word (codes "x") ∷ []) ≡ false
left_or_longer = refl
