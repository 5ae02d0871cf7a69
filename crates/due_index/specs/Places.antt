-- An action without its key.
use Rattle.std.specs.Prelude.{◌≡◌, ℕ, List}
use Rattle.office_base.specs.declared.version_id.VersionId.{VersionId}
use Rattle.due_core.specs.declared.action.Target.TheVariants.{Version}
use Rattle.due_core.specs.declared.action.Candidate.{Candidate}
use Rattle.due_index.specs.declared.place.Place.{Place}

-- the candidate that an action without its key makes on this key
abbrev pub candidate_of : List ℕ → Place → Candidate
candidate_of key place = record {
  action = record { kind = place.kind; key = key; target = place.target; rule = place.rule; since = place.since };
  age = place.age;
}

-- the action is on a version
pub record IsOnVersion (place : Place) : Type 0 where
  pub version : VersionId
  pub target : place.target ≡ Version version
