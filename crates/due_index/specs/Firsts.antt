-- The action that comes first on each key and on each upload of a bucket.
use Rattle.std.specs.Prelude.{ℕ, ◌+◌, List, [], length, filter, Option, Some, None, is_some}
use Rattle.std.specs.Map.{keys_of}
use Rattle.office_base.specs.Maps.{at_name, at_number}
use Rattle.rules_core.specs.Configurations.{Configuration}
use Rattle.stacks.specs.Stacks.{StackRecord}
use Rattle.uploads.specs.Uploads.{UploadRecord}
use Rattle.due_core.specs.Buckets.{BucketRecord}
use Rattle.due_core.specs.Candidates.{stack_candidates, upload_candidates}
use Rattle.due_core.specs.Choice.{comes_before, least}
use Rattle.due_core.specs.declared.action.Candidate.{Candidate}

-- what the rules ask for the versions of a key: nothing if there are no rules or no versions
abbrev pub asked_of_key : BucketRecord → List ℕ → Option Configuration → Option StackRecord → List Candidate
asked_of_key bucket key None stack = []
asked_of_key bucket key (Some rules) None = []
asked_of_key bucket key (Some rules) (Some stack) = stack_candidates bucket rules (key, stack)

-- what the rules ask for an upload: nothing if there are no rules or no such upload
abbrev pub asked_of_upload : BucketRecord → ℕ → Option Configuration → Option UploadRecord → List Candidate
asked_of_upload bucket number None upload = []
asked_of_upload bucket number (Some rules) None = []
asked_of_upload bucket number (Some rules) (Some upload) = upload_candidates bucket rules (number, upload)

-- the first of the eligible actions on a key, due now or later
unfoldable pub first_on_key : BucketRecord → List ℕ → Option Candidate
first_on_key bucket key = least comes_before (asked_of_key bucket key bucket.rules (at_name key bucket.stacks))

-- the first of the eligible actions on an upload, due now or later
unfoldable pub first_on_upload : BucketRecord → ℕ → Option Candidate
first_on_upload bucket number =
    least comes_before (asked_of_upload bucket number bucket.rules (at_number number bucket.uploads))

-- how many keys and uploads have an eligible action
abbrev pub entry_count : BucketRecord → ℕ
entry_count bucket =
    length (filter (λ key. is_some (first_on_key bucket key)) (keys_of bucket.stacks))
    + length (filter (λ number. is_some (first_on_upload bucket number)) (keys_of bucket.uploads))
