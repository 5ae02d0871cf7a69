-- A bound on the number of actions of a sweep.
use Rattle.std.specs.Prelude.{ℕ, ◌+◌, ◌*◌, ◌≤◌, List, length}
use Rattle.due_core.specs.Buckets.{BucketRecord}
use Rattle.due_core.specs.declared.action.Action.{Action}
use Rattle.plain_office.specs.Office.{Account}
use Rattle.plain_office.specs.Counts.{version_count}
use Rattle.plain_office.specs.Sweep.{IsSwept}

-- the most actions: for each version at most five transitions, its removal, a marker on its key and the removal of that
-- marker; for each upload an abort
abbrev pub most_actions : BucketRecord → ℕ
most_actions bucket = 8 * version_count bucket + length bucket.uploads

-- the account has a sweep at the moment u, with at most this many actions
abbrev pub HasSweepWithin : ℕ → Account → ℕ → Type 0
HasSweepWithin u account most =
    (actions : List Action) × (after : Account) × IsSwept u actions account after × (length actions ≤ most)
