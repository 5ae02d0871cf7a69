-- What is known of an object before it moves to another class.
use Rattle.std.specs.Prelude.{ℕ, ◌≤◌, IsTrue, Option, Some, None}
use Rattle.office_base.specs.declared.version_id.VersionId.{VersionId}
use Rattle.stacks.specs.declared.version.Version.{Version}
use Rattle.stacks.specs.Stacks.{StackRecord, version_at}
use Rattle.plain_office.specs.Orderly.{is_object}
use Rattle.bucket_account.specs.Booking.{IsSinceBy}

-- the version is there, and it is an object
abbrev pub IsAnObject : Option Version → Type 0
IsAnObject None = ⊥
IsAnObject (Some version) = IsTrue (is_object version.kind)

-- the object with this id may move at the moment: neither its stack's last change nor its lines are later
pub record IsMovable (id : VersionId) (at : ℕ) (stack : StackRecord) : Type 0 where
  pub there : IsAnObject (version_at id stack.versions)
  pub later : stack.changed ≤ at
  pub since : IsSinceBy at (version_at id stack.versions)
