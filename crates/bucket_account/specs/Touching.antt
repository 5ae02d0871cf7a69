-- What a command changes in a bucket's records, as far as the lifecycle rules read them.
use Rattle.std.specs.Prelude.{ℕ, List, Option, Some, None}
use Rattle.office_base.specs.declared.version_id.VersionId.{VersionId}
use Rattle.due_core.specs.Buckets.{BucketRecord}
use Rattle.due_core.specs.declared.action.Target.{Target}
use Rattle.due_core.specs.declared.action.Target.TheVariants as target
use Rattle.due_index.specs.Index.{IndexRecord, StandsButKey, StandsButUpload}
use Rattle.office_types.specs.declared.command.Command.{Command}
use Rattle.office_types.specs.declared.command.Command.TheVariants as command

-- the versions of one key, one upload, or all; of the key's noncurrent versions only the newest and the one with the id
-- may be other than before or new
pub data Touch : Type 0 where
  of_key : List ℕ → Option VersionId → Touch
  of_upload : ℕ → Touch
  of_all : Touch

-- what a command changes in a bucket whose next upload has this number
abbrev pub touched : ℕ → Command → Touch
touched next (command.Put name key size class tags) = of_key key None
touched next (command.Delete name key) = of_key key None
touched next (command.DeleteVersion name key id) = of_key key None
touched next (command.SetTags name key id tags) = of_key key (Some id)
touched next (command.StartUpload name key class tags) = of_upload next
touched next (command.PutPart name upload part size) = of_upload upload
touched next (command.Abort name upload) = of_upload upload
touched next other = of_all

-- what a lifecycle action changes
abbrev pub touched_at : List ℕ → Target → Touch
touched_at key (target.Version id) = of_key key (Some id)
touched_at key (target.Upload number) = of_upload number

-- the index stands for the bucket, except for what was touched
abbrev pub StandsBut : Touch → IndexRecord → BucketRecord → Type 0
StandsBut (of_key key touched) index bucket = StandsButKey index bucket key touched
StandsBut (of_upload number) index bucket = StandsButUpload index bucket number
StandsBut of_all index bucket = Unit {0}
