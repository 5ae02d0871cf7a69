-- The changes that commands and lifecycle actions make to a bucket's records and books, at a moment.
use Rattle.std.specs.Prelude.{ℕ, ◌+◌, List, [], ◌∷◌, ◌++◌, fold, Option, Some, None, unwrap_or, if◌then◌else◌}
use Rattle.office_base.specs.Maps.{at_name, with_name, without_name, at_number, with_number, without_number}
use Rattle.office_base.specs.declared.version_id.VersionId.{VersionId}
use Rattle.class_rules.specs.Lines.{part_line}
use Rattle.class_rules.specs.declared.class.Class.{Class}
use Rattle.rules_core.specs.Matching.{is_empty}
use Rattle.stacks.specs.Stacks.{StackRecord, new_stack, version_at, new_id, new_version, replaced, after_adding, after_removal, after_move}
use Rattle.stacks.specs.Stacks.{with_class}
use Rattle.stacks.specs.declared.version.Versioning.{Versioning}
use Rattle.stacks.specs.declared.version.Versioning.TheVariants.{Unversioned, Enabled, Suspended}
use Rattle.stacks.specs.declared.version.Kind.{Kind}
use Rattle.stacks.specs.declared.version.Kind.TheVariants as kind
use Rattle.stacks.specs.declared.version.Version.{Version}
use Rattle.uploads.specs.Uploads.{UploadRecord, after_part}
use Rattle.due_core.specs.Buckets.{BucketRecord}
use Rattle.due_core.specs.declared.action.ActionKind.{ActionKind}
use Rattle.due_core.specs.declared.action.ActionKind.TheVariants as action
use Rattle.due_core.specs.declared.action.Target.{Target}
use Rattle.due_core.specs.declared.action.Target.TheVariants as target
use Rattle.due_core.specs.declared.action.Action.{Action}
use Rattle.plain_office.specs.Office.{Account, Books, of_part}
use Rattle.plain_office.specs.Books.{with_stay, with_end, with_version, without_version, without_option}

-- ---- stacks

-- the stack of a key; if there is none, a stack without versions, whose moment has no meaning
abbrev pub stack_at : List ℕ → BucketRecord → StackRecord
stack_at key bucket = unwrap_or (at_name key bucket.stacks) (new_stack 0)

-- the versions of a key, newest first; none if it has no stack
abbrev pub versions_of : List ℕ → BucketRecord → List Version
versions_of key bucket = (stack_at key bucket).versions

-- the stacks in which the key has this stack; a stack without versions is removed
abbrev pub stacks_with : List ℕ → StackRecord → List (List ℕ × StackRecord) → List (List ℕ × StackRecord)
stacks_with key stack stacks = if is_empty stack.versions then without_name key stacks else with_name key stack stacks

-- the bucket in which the key has this stack; a stack without versions is removed
abbrev pub with_stack : List ℕ → StackRecord → BucketRecord → BucketRecord
with_stack key stack bucket = record bucket { stacks = stacks_with key stack bucket.stacks }

-- the id of the bucket's next version
abbrev pub next_id : BucketRecord → VersionId
next_id bucket = new_id bucket.versioning bucket.next_version

-- the next number after a version was put; only in an Enabled bucket a version takes a number
abbrev pub number_after : Versioning → ℕ → ℕ
number_after Unversioned number = number
number_after Enabled number = number + 1
number_after Suspended number = number

-- a new version is put on top of the key's stack, and the null version that it replaces is removed (S3 User Guide,
-- "Adding objects to versioning-enabled buckets", "Adding objects to versioning-suspended buckets")
abbrev pub add_version : List ℕ → Kind → ℕ → Account → Account
add_version key kind at account =
    let bucket = account.bucket in
    let stack = stack_at key bucket in
    let id = next_id bucket in
    record {
      bucket = record (with_stack key (after_adding id kind at stack) bucket) {
        next_version = number_after bucket.versioning bucket.next_version;
      };
      books = with_version key (new_version id kind at) at
          (without_option key (replaced bucket.versioning stack.versions) at account.books);
    }

-- the version with this id is removed (S3 User Guide, "Deleting object versions from a versioning-enabled bucket")
abbrev pub remove_version : List ℕ → VersionId → ℕ → Account → Account
remove_version key id at account =
    let stack = stack_at key account.bucket in
    record {
      bucket = with_stack key (after_removal id at stack) account.bucket;
      books = without_option key (version_at id stack.versions) at account.books;
    }

-- the books after a version moves: its stay in the old class ends, one in the new class begins, and the move is counted
abbrev pub books_moved : List ℕ → Option Version → Class → ℕ → Books → Books
books_moved key None to at books = books
books_moved key (Some version) to at books =
    let moved = with_version key (with_class to at version) at (without_version key version at books) in
    record moved { moves = moved.moves ++ record { class = to; moment = at } ∷ [] }

-- an object moves to another class (S3 User Guide, "Transitioning objects using Amazon S3 Lifecycle")
abbrev pub move_version : List ℕ → VersionId → Class → ℕ → Account → Account
move_version key id to at account =
    let stack = stack_at key account.bucket in
    record {
      bucket = with_stack key (after_move id to at stack) account.bucket;
      books = books_moved key (version_at id stack.versions) to at account.books;
    }

-- ---- uploads

-- the bucket with this upload under the number
abbrev pub with_upload : ℕ → UploadRecord → BucketRecord → BucketRecord
with_upload number upload bucket = record bucket { uploads = with_number number upload bucket.uploads }

-- a part is put, and replaces the one with the same number (S3 User Guide, "Uploading and copying objects using
-- multipart upload")
abbrev pub add_part : ℕ → UploadRecord → ℕ → ℕ → ℕ → Account → Account
add_part number upload part size at account =
    record {
      bucket = with_upload number (after_part part size at upload) account.bucket;
      books = with_stay upload.key (of_part number part) (part_line upload.class size) at
          (with_end upload.key (of_part number part) at account.books);
    }

-- an upload is removed with all its parts (S3 User Guide, "Aborting a multipart upload")
abbrev pub remove_upload : ℕ → UploadRecord → ℕ → Account → Account
remove_upload number upload at account =
    record {
      bucket = record account.bucket { uploads = without_number number account.bucket.uploads };
      books = fold (λ books part. with_end upload.key (of_part number part.0) at books) account.books upload.parts;
    }

-- the upload with this number is removed, if there is one
abbrev pub remove_upload_at : ℕ → ℕ → Account → Account
remove_upload_at number at account = gone (at_number number account.bucket.uploads) where
  gone : Option UploadRecord → Account
  gone None = account
  gone (Some upload) = remove_upload number upload at account

-- ---- lifecycle actions

-- what a lifecycle action does, at the moment at which it takes effect (S3 User Guide, "Managing the lifecycle of
-- objects"). Own: that moment is the same whenever the action is done. Every action has one of these pairs of a kind
-- and a target.
unfoldable pub effect : Action → Account → Account
effect chosen account = done chosen.kind chosen.target where
  done : ActionKind → Target → Account
  done action.Remove (target.Version id) = remove_version chosen.key id chosen.since account
  done (action.Transition to) (target.Version id) = move_version chosen.key id to chosen.since account
  done action.Marker (target.Version id) = add_version chosen.key kind.Marker chosen.since account
  done action.Abort (target.Upload number) = remove_upload_at number chosen.since account
  done other_kind other_target = account
