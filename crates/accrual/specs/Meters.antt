-- What a bucket used in a month, as sums over what is booked for it (S3 User Guide, "Understanding your AWS billing and
-- usage reports for Amazon S3": usage is bytes times time).
use Rattle.std.specs.Prelude.{ℕ, ◌-◌, ◌*◌, min, max, Bool, ◌&&◌, ◌==◌, List, length, sum_by, nat_le, nat_lt, unwrap_or, if◌then◌else◌}
use Rattle.std.specs.List.{filter}
use Rattle.moments.specs.Months.{month_start, month_end}
use Rattle.class_rules.specs.Classes.{rank_of}
use Rattle.class_rules.specs.declared.class.Class.{Class}
use Rattle.accrual.specs.Books.{Stay, Early, Move, Book}

-- two storage classes are the same: they have the same rank
abbrev pub same_class : Class → Class → Bool
same_class a b = rank_of a == rank_of b

-- the bytes of the lines of this class
abbrev pub bytes_in_class : Class → List (Class × ℕ) → ℕ
bytes_in_class class lines = sum_by (λ line. if same_class line.0 class then line.1 else 0) lines

-- the milliseconds of a stay inside a window, up to the moment t
abbrev pub overlap : ℕ → ℕ → ℕ → Stay → ℕ
overlap t start end stay = min (min (unwrap_or stay.to t) t) end - max stay.from start

-- the byte-milliseconds of a month and a class, as seen at the moment t: the sum over all stays of bytes times
-- milliseconds
unfoldable pub meter : ℕ → Class → ℕ → Book → ℕ
meter month class t book =
    sum_by (λ (stay : Stay). bytes_in_class class stay.lines * overlap t (month_start month) (month_end month) stay)
    book.stays

-- the moment is in the month: at its start or after it, and before its end
abbrev pub is_in_month : ℕ → ℕ → Bool
is_in_month month m = nat_le (month_start month) m && nat_lt m (month_end month)

-- the byte-milliseconds charged for objects that left a class too early, in the month in which they left
unfoldable pub early_quantity : ℕ → Class → Book → ℕ
early_quantity month class book =
    sum_by
    (λ (early : Early). if same_class early.class class && is_in_month month early.moment then early.amount else 0)
    book.early

-- the number of lifecycle transitions to a class in a month
unfoldable pub move_count : ℕ → Class → Book → ℕ
move_count month class book =
    length (filter (λ (move : Move). same_class move.class class && is_in_month month move.moment) book.moves)
