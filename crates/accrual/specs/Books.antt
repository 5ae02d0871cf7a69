-- What is booked for a bucket: stays, early quantities and moves.
use Rattle.std.specs.Prelude.{ℕ, ◌≤◌, List, [], ◌∷◌, ◌++◌, Option, Some, None}
use Rattle.std.specs.List.{AllByRecursion}
use Rattle.class_rules.specs.declared.class.Class.{Class}

-- an interval in which one version or part has its lines; its end is missing if it has not ended yet
pub record Stay : Type 0 where
  pub lines : List (Class × ℕ)
  pub from : ℕ
  pub to : Option ℕ

-- the charge for an object that left its class before the minimum storage duration, in byte-milliseconds, and when it
-- left (S3 User Guide, "Understanding and managing Amazon S3 storage classes": minimum storage durations)
pub record Early : Type 0 where
  pub class : Class
  pub amount : ℕ
  pub moment : ℕ

-- a lifecycle transition to a class, and when
pub record Move : Type 0 where
  pub class : Class
  pub moment : ℕ

-- all stays, early quantities and moves, in the order in which they were booked
pub record Book : Type 0 where
  pub stays : List Stay
  pub early : List Early
  pub moves : List Move

-- the book of a bucket for which nothing was booked yet
abbrev pub empty_book : Book
empty_book = record { stays = []; early = []; moves = [] }

-- a stay that has not ended
abbrev pub open_stay : List (Class × ℕ) → ℕ → Stay
open_stay lines from = record { lines = lines; from = from; to = None }

-- a stay that began at the first moment and ended at the second
abbrev pub ended_stay : List (Class × ℕ) → ℕ → ℕ → Stay
ended_stay lines from at = record { lines = lines; from = from; to = Some at }

-- the book with this stay at its end
abbrev pub book_with_stay : Stay → Book → Book
book_with_stay stay book = record book { stays = book.stays ++ stay ∷ [] }

-- the book with this early quantity at its end
abbrev pub book_with_early : Early → Book → Book
book_with_early early book = record book { early = book.early ++ early ∷ [] }

-- the book with this lifecycle transition at its end
abbrev pub with_move : Move → Book → Book
with_move move book = record book { moves = book.moves ++ move ∷ [] }

-- ---- everything booked has happened by a moment

-- the end of a stay, if it has one, is not after the moment
abbrev pub HasEndedBy : ℕ → Option ℕ → Type 0
HasEndedBy t None = Unit {0}
HasEndedBy t (Some to) = to ≤ t

-- the start of the stay, and its end if it has one, are not after the moment
abbrev pub IsStayBy : ℕ → Stay → Type 0
IsStayBy t stay = (stay.from ≤ t) × HasEndedBy t stay.to

-- no moment in the book is after this one
pub record IsBookedBy (t : ℕ) (book : Book) : Type 0 where
  pub stays : AllByRecursion (IsStayBy t) book.stays
  pub early : AllByRecursion (λ early. early.moment ≤ t) book.early
  pub moves : AllByRecursion (λ move. move.moment ≤ t) book.moves
