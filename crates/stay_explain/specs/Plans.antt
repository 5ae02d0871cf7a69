-- Which stays of its bucket a command ends and begins: under one key, at one moment.
use Rattle.std.specs.Prelude.{◌≡◌, ℕ, List, [], ◌∷◌, ◌++◌, map, filter, fold, length, Option, Some, None, if◌then◌else◌}
use Rattle.class_rules.specs.Lines.{object_lines, marker_line, part_line}
use Rattle.class_rules.specs.declared.class.Class.{Class}
use Rattle.office_base.specs.Maps.{at_number}
use Rattle.office_base.specs.declared.version_id.VersionId.{VersionId}
use Rattle.office_base.specs.declared.version_id.VersionId.TheVariants.{Null}
use Rattle.rules_core.specs.Matching.{is_empty}
use Rattle.stacks.specs.Stacks.{version_at, kind_with_class}
use Rattle.stacks.specs.declared.version.Versioning.{Versioning}
use Rattle.stacks.specs.declared.version.Versioning.TheVariants.{Unversioned, Enabled, Suspended}
use Rattle.stacks.specs.declared.version.Version.{Version}
use Rattle.uploads.specs.Uploads.{UploadRecord, total_size}
use Rattle.uploads.specs.declared.part.Part.{Part}
use Rattle.due_core.specs.Buckets.{BucketRecord}
use Rattle.due_core.specs.Choice.{choice}
use Rattle.due_core.specs.declared.action.ActionKind.{ActionKind}
use Rattle.due_core.specs.declared.action.ActionKind.TheVariants as action
use Rattle.due_core.specs.declared.action.Target.{Target}
use Rattle.due_core.specs.declared.action.Target.TheVariants as target
use Rattle.due_core.specs.declared.action.Action.{Action}
use Rattle.office_types.specs.declared.command.Command.{Command}
use Rattle.office_types.specs.declared.command.Command.TheVariants as command
use Rattle.accrual.specs.Books.{open_stay}
use Rattle.plain_office.specs.Office.{Item, of_version, of_part, Booked}
use Rattle.plain_office.specs.Books.{is_open_stay, lines_of_kind}
use Rattle.plain_office.specs.Changes.{next_id, versions_of}

-- the stays of these items under a key end at a moment, and then one may begin with its lines
pub record Plan : Type 0 where
  pub key : List ℕ
  pub ends : List Item
  pub begins : Option (Item × List (Class × ℕ))
  pub at : ℕ

-- ---- what is done by a plan

-- a stay ends at the moment, if it is the item's open stay under the key
abbrev pub end_stay : List ℕ → Item → ℕ → Booked → Booked
end_stay key item at stay = if is_open_stay key item stay then (stay.0, record stay.1 { to = Some at }) else stay

-- the open stay of the item under the key ends at the moment; all others stay as they are
abbrev pub end_stays : List ℕ → Item → ℕ → List Booked → List Booked
end_stays key item at stays = map (end_stay key item at) stays

-- a stay of the item under the key begins at the moment with its lines, after all others
abbrev pub begin_stay : List ℕ → Item → List (Class × ℕ) → ℕ → List Booked → List Booked
begin_stay key item lines at stays = stays ++ (record { key = key; item = item }, open_stay lines at) ∷ []

-- the stays after those of these items under the key ended at the moment
abbrev pub after_ends : List ℕ → List Item → ℕ → List Booked → List Booked
after_ends key items at stays = fold (λ others item. end_stays key item at others) stays items

-- the stays after the one that may begin has begun
abbrev pub after_begin : List ℕ → Option (Item × List (Class × ℕ)) → ℕ → List Booked → List Booked
after_begin key None at stays = stays
after_begin key (Some begun) at stays = begin_stay key begun.0 begun.1 at stays

-- the stays of a bucket after the plan is booked: first its ends, then what begins
abbrev pub stays_by : Plan → List Booked → List Booked
stays_by plan stays = after_begin plan.key plan.begins plan.at (after_ends plan.key plan.ends plan.at stays)

-- what begins has no open stay among these
abbrev pub HasNoOpenStay : List ℕ → Option (Item × List (Class × ℕ)) → List Booked → Type 0
HasNoOpenStay key None stays = Unit {0}
HasNoOpenStay key (Some begun) stays = filter (is_open_stay key begun.0) stays ≡ []

-- what the plan begins has no open stay once its ends are booked
abbrev pub BeginsFree : Plan → List Booked → Type 0
BeginsFree plan stays = HasNoOpenStay plan.key plan.begins (after_ends plan.key plan.ends plan.at stays)

-- the stays of a bucket after a plan, if there is one
abbrev pub stays_after : Option Plan → List Booked → List Booked
stays_after None stays = stays
stays_after (Some plan) stays = stays_by plan stays

-- ---- the plans

-- an item goes, and none comes
abbrev pub goes : List ℕ → Item → ℕ → Plan
goes key item at = record { key = key; ends = item ∷ []; begins = None; at = at }

-- the null version, which goes when a version comes; in an Enabled bucket it stays
abbrev pub null_ends : Versioning → List Item
null_ends Unversioned = of_version Null ∷ []
null_ends Enabled = []
null_ends Suspended = of_version Null ∷ []

-- a new version comes with its lines, these items go, and so does the null version that it replaces
abbrev pub comes : BucketRecord → List ℕ → List Item → List (Class × ℕ) → ℕ → Plan
comes bucket key ends lines at = record {
  key = key;
  ends = ends ++ null_ends bucket.versioning;
  begins = Some (of_version (next_id bucket), lines);
  at = at;
}

-- a delete marker comes
abbrev pub marked : BucketRecord → List ℕ → ℕ → Plan
marked bucket key at = comes bucket key [] (marker_line (length key)) at

-- an object is deleted: in an Unversioned bucket the null version goes, else a delete marker comes
abbrev pub deleted : Versioning → BucketRecord → List ℕ → ℕ → Plan
deleted Unversioned bucket key at = goes key (of_version Null) at
deleted kept bucket key at = marked bucket key at

-- a version moves to a class: its stay ends, and one with the lines of that class begins
abbrev pub moves : List ℕ → VersionId → Class → ℕ → Option Version → Option Plan
moves key id to at None = None
moves key id to at (Some version) = Some (record {
  key = key;
  ends = of_version id ∷ [];
  begins = Some (of_version id, lines_of_kind key (kind_with_class to at version.kind));
  at = at;
})

-- a part of an upload comes, and the one with its number goes
abbrev pub part_put : ℕ → ℕ → ℕ → ℕ → Option UploadRecord → Option Plan
part_put number part size at None = None
part_put number part size at (Some upload) = Some (record {
  key = upload.key;
  ends = of_part number part ∷ [];
  begins = Some (of_part number part, part_line upload.class size);
  at = at;
})

-- the items that the parts of an upload are
abbrev pub part_items : ℕ → List (ℕ × Part) → List Item
part_items number parts = map (λ part. of_part number part.0) parts

-- an upload goes with all its parts
abbrev pub dropped : ℕ → ℕ → Option UploadRecord → Option Plan
dropped number at None = None
dropped number at (Some upload) =
    Some (record { key = upload.key; ends = part_items number upload.parts; begins = None; at = at })

-- all parts of an upload go, and an object of all their bytes comes
abbrev pub made_whole : BucketRecord → ℕ → ℕ → UploadRecord → Plan
made_whole bucket number at upload =
    comes bucket upload.key (part_items number upload.parts) (object_lines upload.class (total_size upload.parts)) at

-- the same if there is such an upload and it has parts; else nothing
abbrev pub completed : BucketRecord → ℕ → ℕ → Option UploadRecord → Option Plan
completed bucket number at None = None
completed bucket number at (Some upload) =
    if is_empty upload.parts then None else Some (made_whole bucket number at upload)

-- what a lifecycle action does under its key, at the moment at which it stands
abbrev pub action_done : BucketRecord → List ℕ → ℕ → ActionKind → Target → Option Plan
action_done bucket key since action.Remove (target.Version id) = Some (goes key (of_version id) since)
action_done bucket key since (action.Transition to) (target.Version id) =
    moves key id to since (version_at id (versions_of key bucket))
action_done bucket key since action.Marker (target.Version id) = Some (marked bucket key since)
action_done bucket key since action.Abort (target.Upload number) =
    dropped number since (at_number number bucket.uploads)
action_done bucket key since other_kind other_target = None

-- what the chosen action does, if any is due
abbrev pub acted : BucketRecord → Option Action → Option Plan
acted bucket None = None
acted bucket (Some action) = action_done bucket action.key action.since action.kind action.target

-- what a command that is accepted at a moment plans in its bucket
unfoldable pub plan_of : ℕ → Command → BucketRecord → Option Plan
plan_of t (command.Put name key size class tags) bucket = Some (comes bucket key [] (object_lines class size) t)
plan_of t (command.Delete name key) bucket = Some (deleted bucket.versioning bucket key t)
plan_of t (command.DeleteVersion name key id) bucket = Some (goes key (of_version id) t)
plan_of t (command.PutPart name upload part size) bucket =
    part_put upload part size t (at_number upload bucket.uploads)
plan_of t (command.Complete name upload) bucket = completed bucket upload t (at_number upload bucket.uploads)
plan_of t (command.Abort name upload) bucket = dropped upload t (at_number upload bucket.uploads)
plan_of t (command.Act name) bucket = acted bucket (choice bucket t)
plan_of t other bucket = None
