-- How the coming and going of uploads and their parts is booked and counted, in meters that stand for a bucket's books.
use Rattle.std.specs.Prelude.{◌≡◌, ◌⊎◌, ℕ, ◌+◌, ◌-◌, ◌≤◌, true, false, List, [], ◌∷◌, filter, fold, length, Option, Some, None, is_some}
use Rattle.std.specs.Prelude.{if◌then◌else◌}
use Rattle.std.specs.List.{AllByRecursion}
use Rattle.office_base.specs.Sizes.{largest_size}
use Rattle.office_base.specs.Tags.{Tag}
use Rattle.class_rules.specs.Lines.{part_line}
use Rattle.class_rules.specs.declared.class.Class.{Class}
use Rattle.accrual.specs.Books.{open_stay}
use Rattle.accrual.specs.Totals.{Totals}
use Rattle.stacks.specs.declared.version.Kind.TheVariants.{Object}
use Rattle.stacks.specs.declared.version.Versioning.{Versioning}
use Rattle.uploads.specs.Uploads.{UploadRecord, new_part, part_at, admits_part, total_size}
use Rattle.uploads.specs.declared.part.Part.{Part}
use Rattle.plain_office.specs.Office.{Books, Item, of_part}
use Rattle.plain_office.specs.Books.{is_open_stay, with_stay, with_end}
use Rattle.plain_office.specs.Counts.{tag_bytes}
use Rattle.plain_office.specs.Orderly.{stay_of_part}
use Rattle.office_types.specs.declared.refusal.Refusal.{Refusal}
use Rattle.office_types.specs.declared.refusal.Refusal.TheVariants.{NoMemory, BadPart}
use Rattle.office_types.specs.declared.refusal.What.TheVariants.{Parts}
use Rattle.bucket_account.specs.declared.counts.Counts.{Counts}
use Rattle.bucket_account.specs.declared.incoming.Incoming.{Incoming}
use Rattle.bucket_account.specs.Booking.{HasRowsFrom}
use Rattle.bucket_account.specs.Counting.{IsFullOf}

-- the open stay of each of these parts is the one that its record asks for
abbrev pub HavePartStays : ℕ → UploadRecord → List (ℕ × Part) → Books → Type 0
HavePartStays number upload parts books = AllByRecursion (λ (part : ℕ × Part).
    filter (is_open_stay upload.key (of_part number part.0)) books.stays
    ≡ stay_of_part number upload part.0 part.1 ∷ []) parts

-- each of these parts was put no later than the moment, with rows for all months from when it was put
abbrev pub AreEndableAt : ℕ → Totals → List (ℕ × Part) → Type 0
AreEndableAt at meters parts =
    AllByRecursion (λ (part : ℕ × Part). (part.1.put ≤ at) × HasRowsFrom part.1.put at meters) parts

-- the books once the stays of these parts have ended
abbrev pub parts_ended : List ℕ → ℕ → ℕ → List (ℕ × Part) → Books → Books
parts_ended key number at parts books = fold (λ books part. with_end key (of_part number part.0) at books) books parts

-- the counts once the upload has gone
abbrev pub counts_without : UploadRecord → Counts → Counts
counts_without upload counts = record counts {
  uploads = counts.uploads - 1;
  parts = counts.parts - length upload.parts;
  names = counts.names - (length upload.key + tag_bytes upload.tags);
}

-- the counts once an upload with this key and these tags has started
abbrev pub counts_started : List ℕ → List Tag → Counts → Counts
counts_started key tags counts = record counts {
  uploads = counts.uploads + 1;
  names = counts.names + (length key + tag_bytes tags);
}

-- ---- a part that is put

-- the part with this number has exactly the open stay that its record asks for; if there is no part, there is no open
-- stay
abbrev pub HasPartStay : List ℕ → Item → Class → Option Part → Books → Type 0
HasPartStay key item class None books = filter (is_open_stay key item) books.stays ≡ []
HasPartStay key item class (Some part) books =
    filter (is_open_stay key item) books.stays
    ≡ (record { key = key; item = item }, open_stay (part_line class part.size) part.put) ∷ []

-- if there is a part, its stay may end at the moment, and it is small enough to be billed
abbrev pub MayEndAt : ℕ → Totals → Option Part → Type 0
MayEndAt at meters None = Unit {0}
MayEndAt at meters (Some part) =
    (part.put ≤ at) × HasRowsFrom part.put at meters × (part.size ≤ largest_size)

-- since when the part is stored; the moment if there is none
abbrev pub put_since : ℕ → Option Part → ℕ
put_since at None = at
put_since at (Some part) = part.put

-- the books once a part of this size came in the place of the one with this number
abbrev pub books_with_part : ℕ → UploadRecord → ℕ → ℕ → ℕ → Books → Books
books_with_part number upload place size at books =
    with_stay upload.key (of_part number place) (part_line upload.class size) at
    (with_end upload.key (of_part number place) at books)

-- the counts once a part with this number came
abbrev pub counts_with_part : ℕ → UploadRecord → Counts → Counts
counts_with_part place upload counts =
    record counts { parts = counts.parts + (if is_some (part_at place upload.parts) then 0 else 1) }

-- why a part is not put
abbrev pub IsPartRefused : ℕ → ℕ → ℕ → UploadRecord → Counts → Refusal → Type 0
IsPartRefused place size at upload counts refusal =
    (refusal ≡ NoMemory)
    ⊎ ((refusal ≡ BadPart) × (admits_part place (new_part size at) upload.parts ≡ false))
    ⊎ (IsFullOf (Parts ∷ []) (counts_with_part place upload counts) refusal
    × (admits_part place (new_part size at) upload.parts ≡ true))

-- ---- an upload that is completed

-- the object that its parts make, as it comes at the moment with this number
abbrev pub whole_of : UploadRecord → Versioning → ℕ → ℕ → Incoming
whole_of upload versioning number at = record {
  versioning = versioning;
  number = number;
  kind = Object (total_size upload.parts) upload.class upload.tags at;
  at = at;
}
