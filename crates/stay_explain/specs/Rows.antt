-- What the rows of the program stand for in the plain office.
use Rattle.std.specs.Prelude.{◌≡◌, ℕ, List, Option, Some, None, slice_get}
use Rattle.class_rules.specs.Lines.{lines_of}
use Rattle.office_base.specs.declared.version_id.VersionId.TheVariants as id
use Rattle.plain_office.specs.Office.{Item, of_version, of_part, Label, Booked}
use Rattle.stay_explain.specs.declared.row.Item.{Item as Spot}
use Rattle.stay_explain.specs.declared.row.Item.TheVariants as spot
use Rattle.stay_explain.specs.declared.row.Owner.{Owner}
use Rattle.stay_explain.specs.declared.row.Row.{Row}

-- the item of a row: a version by its id, or a part of an upload by both numbers
abbrev pub item_of : Spot → Item
item_of spot.Null = of_version id.Null
item_of (spot.Number n) = of_version (id.Number n)
item_of (spot.Part upload part) = of_part upload part

-- the key and the item whose stay a row is
abbrev pub label_of : Owner → Label
label_of owner = record { key = owner.key; item = item_of owner.item }

-- the stay of a row, with whose it is
abbrev pub booked_of : Row → Booked
booked_of row = (label_of row.owner, record { lines = lines_of row.lines; from = row.from; to = row.to })

-- this owner's stay at this place has no end yet
pub record IsOpenAt (owner : Owner) (place : ℕ) (rows : List Row) : Type 0 where
  pub row : Row
  pub there : slice_get rows place ≡ Some row
  pub owns : row.owner ≡ owner
  pub open_yet : row.to ≡ None

-- each owner with an open stay is found, with the place of the stay, and no other owner is found
pub record IsIndex (rows : List Row) (find : Owner → Option ℕ) : Type 0 where
  pub found : (owner : Owner) (place : ℕ) → find owner ≡ Some place → IsOpenAt owner place rows
  pub kept : (owner : Owner) (place : ℕ) → IsOpenAt owner place rows → find owner ≡ Some place
