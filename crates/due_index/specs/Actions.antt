-- What an index of the next actions means.
use Rattle.std.specs.Prelude.{◌≡◌, ℕ, List, Contains, false, Option, Some, None, option_map, nat_le, if◌then◌else◌}
use Rattle.office_base.specs.Maps.{bytes_cmp, at_name, at_number, Rises}
use Rattle.std.specs.Ordering.{nat_cmp}
use Rattle.office_base.specs.declared.version_id.VersionId.{VersionId}
use Rattle.due_core.specs.Buckets.{BucketRecord}
use Rattle.due_core.specs.Candidates.{candidates}
use Rattle.due_core.specs.Choice.{comes_before, IsLeast}
use Rattle.due_core.specs.declared.action.Action.{Action}
use Rattle.due_core.specs.declared.action.Target.{Target}
use Rattle.due_core.specs.declared.action.Target.TheVariants.{Version, Upload}
use Rattle.due_core.specs.declared.action.Candidate.{Candidate}
use Rattle.due_index.specs.Firsts.{first_on_key, first_on_upload}
use Rattle.due_index.specs.Queue.{slot_at}
use Rattle.due_index.specs.Table.{TableRecord, IsTable, rules_of}

-- the content of the slot that a map has, if it has one
abbrev pub slot_of : Option ℕ → List (Option Candidate) → Option Candidate
slot_of None slots = None
slot_of (Some slot) slots = slot_at slot slots

-- an index as contracts see it: the slot of each key and each upload that has an action, the enabled rules by their
-- prefix, and the content of each slot
pub record ActionsRecord : Type 0 where
  pub keys : List (List ℕ × ℕ)
  pub uploads : List (ℕ × ℕ)
  pub table : TableRecord
  pub slots : List (Option Candidate)

-- the index's next action on a key
abbrev pub next_on_key : ActionsRecord → List ℕ → Option Candidate
next_on_key index key = slot_of (at_name key index.keys) index.slots

-- the index's next action on an upload
abbrev pub next_on_upload : ActionsRecord → ℕ → Option Candidate
next_on_upload index number = slot_of (at_number number index.uploads) index.slots

-- the slot of an action is that of its key if it is on a version, and that of its upload if it is on an upload
abbrev pub IsOwned : ActionsRecord → ℕ → Candidate → Target → Type 0
IsOwned index slot candidate (Version id) = at_name candidate.action.key index.keys ≡ Some slot
IsOwned index slot candidate (Upload number) = at_number number index.uploads ≡ Some slot

-- the action is on a version of this key
pub record IsOfKey (key : List ℕ) (candidate : Candidate) : Type 0 where
  pub own : candidate.action.key ≡ key
  pub version : VersionId
  pub target : candidate.action.target ≡ Version version

-- the slot has a candidate, and P holds for it
pub record Stands (index : ActionsRecord) (slot : ℕ) (P : Candidate → Type 0) : Type 0 where
  pub candidate : Candidate
  pub there : slot_at slot index.slots ≡ Some candidate
  pub is : P candidate

-- each slot of a key or upload has an action on it, and each action is in the slot of its key or upload
pub record IsTied (index : ActionsRecord) : Type 0 where
  pub keys : (key : List ℕ) (slot : ℕ) → at_name key index.keys ≡ Some slot → Stands index slot (IsOfKey key)
  pub uploads : (number slot : ℕ) → at_number number index.uploads ≡ Some slot
      → Stands index slot (λ candidate. candidate.action.target ≡ Upload number)
  pub owned : (slot : ℕ) (candidate : Candidate) → slot_at slot index.slots ≡ Some candidate
      → IsOwned index slot candidate candidate.action.target

-- the index is right for a bucket: its table is that of the bucket's rules, and its next action on each key and each
-- upload is the first one that the rules ask for
pub record ActionsStand (index : ActionsRecord) (bucket : BucketRecord) : Type 0 where
  pub table : IsTable index.table (rules_of bucket.rules)
  pub keys : (key : List ℕ) → next_on_key index key ≡ first_on_key bucket key
  pub uploads : (number : ℕ) → next_on_upload index number ≡ first_on_upload bucket number

-- the keys of the stacks and the numbers of the uploads are in ascending order, as in every bucket
pub record IsBucket (bucket : BucketRecord) : Type 0 where
  pub stacks : Rises bytes_cmp bucket.stacks
  pub uploads : Rises nat_cmp bucket.uploads

-- the first of all actions, if it has come at the moment
abbrev pub due_by : ℕ → Option Action → Option Action
due_by t None = None
due_by t (Some first) = if nat_le first.since t then Some first else None

-- of these candidates, any two of which neither comes before the other are equal
abbrev pub IsTotalOn : List Candidate → Type 0
IsTotalOn asked = (c d : Candidate) → Contains asked c → Contains asked d
    → comes_before c d ≡ false → comes_before d c ≡ false → c ≡ d

-- action is that of a candidate at this moment, and no candidate comes before that one; None: there is no candidate
abbrev pub IsLeastAction : BucketRecord → ℕ → Option Action → Type 0
IsLeastAction bucket t action = (first : Option Candidate) × IsLeast comes_before (candidates bucket t) first
    × (option_map (λ candidate. candidate.action) first ≡ action)

-- the table and the next action on each key and each upload are unchanged
pub record KeepsNext (old new : ActionsRecord) : Type 0 where
  pub table : new.table ≡ old.table
  pub keys : (key : List ℕ) → next_on_key new key ≡ next_on_key old key
  pub uploads : (number : ℕ) → next_on_upload new number ≡ next_on_upload old number

-- the next action on this key is this one; on all other keys and all uploads it is unchanged
pub record SetsNextOnKey (old new : ActionsRecord) (key : List ℕ) (next : Option Candidate) : Type 0 where
  pub here : next_on_key new key ≡ next
  pub table : new.table ≡ old.table
  pub others : (k : List ℕ) → (k ≡ key → ⊥) → next_on_key new k ≡ next_on_key old k
  pub uploads : (number : ℕ) → next_on_upload new number ≡ next_on_upload old number

-- the index is right for a bucket, except for one key
pub record ActionsStandButKey (index : ActionsRecord) (bucket : BucketRecord) (key : List ℕ) : Type 0 where
  pub table : IsTable index.table (rules_of bucket.rules)
  pub keys : (k : List ℕ) → (k ≡ key → ⊥) → next_on_key index k ≡ first_on_key bucket k
  pub uploads : (number : ℕ) → next_on_upload index number ≡ first_on_upload bucket number

-- the next action on this upload is this one; on all other uploads and all keys it is unchanged
pub record SetsNextOnUpload (old new : ActionsRecord) (number : ℕ) (next : Option Candidate) : Type 0 where
  pub here : next_on_upload new number ≡ next
  pub table : new.table ≡ old.table
  pub others : (n : ℕ) → (n ≡ number → ⊥) → next_on_upload new n ≡ next_on_upload old n
  pub keys : (key : List ℕ) → next_on_key new key ≡ next_on_key old key

-- the index is right for a bucket, except for one upload
pub record ActionsStandButUpload (index : ActionsRecord) (bucket : BucketRecord) (number : ℕ) : Type 0 where
  pub table : IsTable index.table (rules_of bucket.rules)
  pub keys : (key : List ℕ) → next_on_key index key ≡ first_on_key bucket key
  pub uploads : (n : ℕ) → (n ≡ number → ⊥) → next_on_upload index n ≡ first_on_upload bucket n

-- the action is on this upload
abbrev pub IsOnUpload : ℕ → Candidate → Type 0
IsOnUpload number candidate = candidate.action.target ≡ Upload number

-- the index has no next action on any key, or on any upload
abbrev pub HasNoKeys : ActionsRecord → Type 0
HasNoKeys index = (key : List ℕ) → next_on_key index key ≡ None

abbrev pub HasNoUploads : ActionsRecord → Type 0
HasNoUploads index = (number : ℕ) → next_on_upload index number ≡ None

-- the index's next action on each key, or on each upload, is the first one that the rules ask for
abbrev pub StandsOnKeys : ActionsRecord → BucketRecord → Type 0
StandsOnKeys index bucket = (key : List ℕ) → next_on_key index key ≡ first_on_key bucket key

abbrev pub StandsOnUploads : ActionsRecord → BucketRecord → Type 0
StandsOnUploads index bucket = (number : ℕ) → next_on_upload index number ≡ first_on_upload bucket number

-- the index has the table of these rules
abbrev pub HasTable : ActionsRecord → BucketRecord → Type 0
HasTable index bucket = IsTable index.table (rules_of bucket.rules)

-- the next action on each key, or on each upload, is unchanged
abbrev pub KeepsKeys : ActionsRecord → ActionsRecord → Type 0
KeepsKeys old new = (key : List ℕ) → next_on_key new key ≡ next_on_key old key

abbrev pub KeepsUploads : ActionsRecord → ActionsRecord → Type 0
KeepsUploads old new = (number : ℕ) → next_on_upload new number ≡ next_on_upload old number
