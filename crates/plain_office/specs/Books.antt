-- How the books record versions and parts that are put or removed.
use Rattle.std.specs.Prelude.{ℕ, ◌+◌, ◌-◌, ◌*◌, Bool, false, ◌&&◌, List, [], ◌∷◌, ◌++◌, map, length, nat_lt, ◌==◌, Option, Some, None}
use Rattle.std.specs.Prelude.{is_none, if◌then◌else◌}
use Rattle.std.specs.Str.{bytes_eq}
use Rattle.class_rules.specs.Classes.{least_stay}
use Rattle.class_rules.specs.Lines.{own_bytes, object_lines, marker_line}
use Rattle.class_rules.specs.declared.class.Class.{Class}
use Rattle.stacks.specs.Stacks.{same_id}
use Rattle.stacks.specs.declared.version.Kind.{Kind}
use Rattle.stacks.specs.declared.version.Kind.TheVariants.{Object, Marker}
use Rattle.stacks.specs.declared.version.Version.{Version}
use Rattle.accrual.specs.Books.{open_stay}
use Rattle.plain_office.specs.Office.{Item, of_version, of_part, Booked, Books}

-- ---- stays

-- two items are the same: the same version, or the same part of the same upload
abbrev pub same_item : Item → Item → Bool
same_item (of_version a) (of_version b) = same_id a b
same_item (of_part upload part) (of_part other_upload other_part) = (upload == other_upload) && (part == other_part)
same_item (of_version a) (of_part upload part) = false
same_item (of_part upload part) (of_version a) = false

-- the stay is that of this item under the key, and has not ended
abbrev pub is_open_stay : List ℕ → Item → Booked → Bool
is_open_stay key item stay = is_none stay.1.to && bytes_eq key stay.0.key && same_item item stay.0.item

-- the books after an item with these lines is put at the moment: with one more stay, which is open
abbrev pub with_stay : List ℕ → Item → List (Class × ℕ) → ℕ → Books → Books
with_stay key item lines from books =
    record books { stays = books.stays ++ (record { key = key; item = item }, open_stay lines from) ∷ [] }

-- the books after the item is removed at the moment: its open stay has ended
abbrev pub with_end : List ℕ → Item → ℕ → Books → Books
with_end key item at books = record books {
  stays = map (λ (stay : Booked). if is_open_stay key item stay then (stay.0, record stay.1 { to = Some at }) else stay)
      books.stays;
}

-- ---- versions

-- the books, with an early quantity if an object leaves its class before the minimum storage duration is over (S3 User
-- Guide, "Understanding and managing Amazon S3 storage classes": minimum storage durations). Own: it is the bytes of
-- the own line times the missing milliseconds. A marker has none.
abbrev pub with_early : Kind → ℕ → Books → Books
with_early Marker at books = books
with_early (Object size class tags entered) at books =
    let until = entered + least_stay class in
    if nat_lt at until
    then record books {
      early = books.early ++ record { class = class; amount = own_bytes class size * (until - at); moment = at } ∷ [];
    }
    else books

-- the billed lines of an object or a marker under a key
abbrev pub lines_of_kind : List ℕ → Kind → List (Class × ℕ)
lines_of_kind key (Object size class tags entered) = object_lines class size
lines_of_kind key Marker = marker_line (length key)

-- the books after a version is put at the moment
abbrev pub with_version : List ℕ → Version → ℕ → Books → Books
with_version key version at books = with_stay key (of_version version.id) (lines_of_kind key version.kind) at books

-- the books after a version is removed at the moment: its open stay has ended, and there is an early quantity if it is
-- an object that left its class too early
abbrev pub without_version : List ℕ → Version → ℕ → Books → Books
without_version key version at books = with_early version.kind at (with_end key (of_version version.id) at books)

-- the same if there is a version; else the books are unchanged
abbrev pub without_option : List ℕ → Option Version → ℕ → Books → Books
without_option key None at books = books
without_option key (Some version) at books = without_version key version at books
