-- Where two lists of bills differ.
use Rattle.std.specs.Prelude.{Bool, ◌&&◌, ◌==◌, List, [], ◌∷◌, Option, Some, None, if◌then◌else◌}
use Rattle.std.specs.Str.{bytes_eq}
use Rattle.bill_book.specs.declared.bill.Bill.{Bill}

-- the bills are equal
abbrev pub is_same_bill : Bill → Bill → Bool
is_same_bill kept asked =
    bytes_eq kept.bucket asked.bucket && (kept.total == asked.total) && (kept.lines == asked.lines)

-- the first pair of bills at one place that differ, with none for a missing one; none if the lists are equal
abbrev pub first_difference : List Bill → List Bill → Option (Option Bill × Option Bill)
first_difference [] [] = None
first_difference (kept ∷ _) [] = Some (Some kept, None)
first_difference [] (asked ∷ _) = Some (None, Some asked)
first_difference (kept ∷ keeps) (asked ∷ asks) =
    if is_same_bill kept asked then first_difference keeps asks else Some (Some kept, Some asked)
