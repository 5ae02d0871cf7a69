-- Worked examples, computed: parts of an upload, and the ends of their ranges.
use Rattle.std.specs.Prelude.{◌≡◌, ℕ, zero, suc, ◌+◌, ◌*◌, ◌^◌, true, false, List, [], ◌∷◌, None, Some, Ok, Err, refl}
use Rattle.class_rules.specs.declared.class.Class.TheVariants.{Glacier}
use Rattle.uploads.specs.declared.part.Part.{Part}
use Rattle.uploads.specs.declared.refusal.UploadRefusal.TheVariants.{NoParts}
use Rattle.uploads.specs.Uploads.{UploadRecord, upload_of, new_upload, new_part, part_at, total_size, largest_part, is_part, are_parts, admits_part, after_part, whole_size}

-- the first moment of a day, counted from 2024-01-01 UTC
abbrev at : ℕ → ℕ
at day = 1_704_067_200_000 + day * 86_400_000

-- ---- an upload to GLACIER

abbrev started : UploadRecord
started = new_upload (97 ∷ []) Glacier [] (at 0)

as_it_starts : started ≡ upload_of (97 ∷ []) Glacier [] (at 0) (at 0) []
as_it_starts = refl

nothing_to_complete : whole_size started.parts ≡ Err NoParts
nothing_to_complete = refl

-- part 1 of 1,000 bytes on day 1, and again on day 2: the one before goes
abbrev once : UploadRecord
once = after_part 1 1_000 (at 1) started

abbrev twice : UploadRecord
twice = after_part 1 1_000 (at 2) once

put_again : twice ≡ upload_of (97 ∷ []) Glacier [] (at 0) (at 2) ((1, new_part 1_000 (at 2)) ∷ [])
put_again = refl

one_before : part_at 1 once.parts ≡ Some (new_part 1_000 (at 1))
one_before = refl

none_before : part_at 1 started.parts ≡ None
none_before = refl

-- the parts stand in the order of their numbers, and the object is all of them together
abbrev three : UploadRecord
three = after_part 3 7 (at 4) (after_part 10_000 5 (at 3) twice)

in_their_order : three.parts ≡ (1, new_part 1_000 (at 2)) ∷ (3, new_part 7 (at 4)) ∷ (10_000, new_part 5 (at 3)) ∷ []
in_their_order = refl

completed : whole_size three.parts ≡ Ok 1_012
completed = refl

-- ---- ranges

five_gib : largest_part ≡ 5_368_709_120
five_gib = refl

first_number : is_part 1 0 ≡ true
first_number = refl

no_number : is_part 0 0 ≡ false
no_number = refl

last_number : is_part 10_000 5_368_709_120 ≡ true
last_number = refl

number_above : is_part 10_001 1_000 ≡ false
number_above = refl

size_above : is_part 1 5_368_709_121 ≡ false
size_above = refl

-- this many parts of 5 GiB, with numbers from this one on
largest_parts : ℕ → ℕ → List (ℕ × Part)
largest_parts number zero = []
largest_parts number (suc count) = (number, new_part largest_part (at 1)) ∷ largest_parts (number + 1) count

-- 1,024 of them are the largest object: one byte more is too much, an empty part is not
five_tib : total_size (largest_parts 1 1_024) ≡ 5 * 2 ^ 40
unfolding largest_parts
five_tib = refl

sum_above : admits_part 1_025 (new_part 1 (at 2)) (largest_parts 1 1_024) ≡ false
unfolding largest_parts
sum_above = refl

empty_part : admits_part 1_025 (new_part 0 (at 2)) (largest_parts 1 1_024) ≡ true
unfolding largest_parts
empty_part = refl

-- what a part replaces does not count
in_place_of_one : admits_part 1_024 (new_part largest_part (at 2)) (largest_parts 1 1_024) ≡ true
unfolding largest_parts
in_place_of_one = refl

-- ---- what is no upload

an_upload : are_parts (at 0) (at 4) three.parts ≡ true
an_upload = refl

started_too_late : are_parts (at 5) (at 4) [] ≡ false
started_too_late = refl

put_too_late : are_parts (at 0) (at 3) three.parts ≡ false
put_too_late = refl
