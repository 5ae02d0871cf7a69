-- The reply to an accepted command, and what the office keeps of it.
use Rattle.std.specs.Prelude.{ℕ, Bool, true, false, ◌==◌, length, Some, None, if◌then◌else◌}
use Rattle.office_base.specs.declared.version_id.VersionId.{VersionId}
use Rattle.office_base.specs.declared.version_id.VersionId.TheVariants.{Null, Number}
use Rattle.stacks.specs.declared.version.Versioning.TheVariants.{Enabled, Suspended}
use Rattle.office_types.specs.declared.command.Command.{Command}
use Rattle.office_types.specs.declared.command.Command.TheVariants as command
use Rattle.office_types.specs.declared.kept.Kept.{Kept}
use Rattle.office_types.specs.declared.reply.Reply.{Reply}
use Rattle.office_types.specs.declared.reply.Reply.TheVariants.{BucketMade, VersioningSet, RulesSet, Stored, Deleted, VersionDeleted}
use Rattle.office_types.specs.declared.reply.Reply.TheVariants.{TagsSet, UploadStarted, PartStored, Aborted, NothingDue}
use Rattle.office_types.specs.declared.reply.Reply.TheVariants.{Closed}

-- ---- ids as numbers

-- the number of an id; 0 for the null version
abbrev pub number_of_id : VersionId → ℕ
number_of_id Null = 0
number_of_id (Number n) = n

-- the id of such a number
abbrev pub id_of_number : ℕ → VersionId
id_of_number n = if n == 0 then Null else Number n

-- ---- the parts of a reply that do not follow from its command

-- whether the reply has a delete marker
abbrev pub tells_marker : Reply → Bool
tells_marker (Deleted (Some version)) = true
tells_marker other = false

-- the number of the version, delete marker or upload that the reply has; 0 if it has none
abbrev pub number_told : Reply → ℕ
number_told (Stored moment version) = number_of_id version
number_told (Deleted (Some version)) = number_of_id version
number_told (VersionDeleted removed) = number_of_id removed
number_told (UploadStarted upload) = upload
number_told (Aborted upload) = upload
number_told other = 0

-- ---- the reply

-- the reply to a command that was accepted at moment t, given the two parts above; it is only used for commands that
-- may carry a token
unfoldable pub reply_told : ℕ → Bool → ℕ → Command → Reply
reply_told t marker told (command.CreateBucket bucket) = BucketMade bucket
reply_told t marker told (command.SetVersioning bucket enabled) =
    VersioningSet (if enabled then Enabled else Suspended)
reply_told t marker told (command.DropRules bucket) = RulesSet 0
reply_told t marker told (command.Put bucket key size class tags) = Stored t (id_of_number told)
reply_told t marker told (command.Delete bucket key) =
    Deleted (if marker then Some (id_of_number told) else None)
reply_told t marker told (command.DeleteVersion bucket key id) = VersionDeleted id
reply_told t marker told (command.SetTags bucket key id tags) = TagsSet (length tags)
reply_told t marker told (command.StartUpload bucket key class tags) = UploadStarted told
reply_told t marker told (command.PutPart bucket upload part size) = PartStored part
reply_told t marker told (command.Complete bucket upload) = Stored t (id_of_number told)
reply_told t marker told (command.Abort bucket upload) = Aborted upload
reply_told t marker told (command.Close month) = Closed month
reply_told t marker told other = NothingDue

-- the reply to a kept command
abbrev pub reply_of : Kept → Reply
reply_of kept = reply_told kept.moment kept.marker kept.told kept.command
