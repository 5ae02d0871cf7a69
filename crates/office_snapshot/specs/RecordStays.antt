-- The stays that have not ended, as they follow from the records of a bucket.
use Rattle.std.specs.Prelude.{ℕ, List, ◌++◌, map}
use Rattle.std.specs.List.{flat_map}
use Rattle.stacks.specs.Stacks.{StackRecord}
use Rattle.uploads.specs.Uploads.{UploadRecord}
use Rattle.uploads.specs.declared.part.Part.{Part}
use Rattle.due_core.specs.Buckets.{BucketRecord}
use Rattle.accrual.specs.Books.{Book}
use Rattle.accrual.specs.Totals.{Totals, AreTotalsOf}
use Rattle.accrual.specs.Sums.{AreSumsOf, HasAllEnded}
use Rattle.plain_office.specs.Office.{Booked, stay_in}
use Rattle.plain_office.specs.Orderly.{stay_of_version, stay_of_part}
use Rattle.office_snapshot.specs.Snapshots.{BucketPartRecord}

-- a stay for each version of a key, in the order of the stack
abbrev pub stack_stays : List ℕ × StackRecord → List Booked
stack_stays stack = map (stay_of_version stack.0) stack.1.versions

-- the stay for a part of an upload
abbrev pub part_stay : ℕ × UploadRecord → ℕ × Part → Booked
part_stay upload part = stay_of_part upload.0 upload.1 part.0 part.1

-- a stay for each part of an upload, in the order of their numbers
abbrev pub upload_stays : ℕ × UploadRecord → List Booked
upload_stays upload = map (part_stay upload) upload.1.parts

-- the stays for all stacks, then those for all uploads
abbrev pub record_stays : BucketRecord → List Booked
record_stays bucket = flat_map stack_stays bucket.stacks ++ flat_map upload_stays bucket.uploads

-- the book with these stays at its end
abbrev pub book_with_stays : List Booked → Book → Book
book_with_stays stays book = record book { stays = book.stays ++ map stay_in stays }

-- the totals are those of the bucket's sums and of the open stays that its records give. For every book that has these
-- sums and no open stay, the totals agree with that book plus these stays.
abbrev pub AreTotalsBy : Totals → BucketPartRecord → Type 0
AreTotalsBy totals part =
    (book : Book) → HasAllEnded book → AreSumsOf book part.sums
    → AreTotalsOf totals (book_with_stays (record_stays part.bucket) book)
