-- How many lifecycle actions a bucket can still have, as a measure that each action decreases.
use Rattle.std.specs.Prelude.{◌≡◌, ℕ, ◌+◌, ◌-◌, true, List, [], ◌∷◌, length, sum_by}
use Rattle.std.specs.List.{AllByRecursion}
use Rattle.std.specs.Ordering.{nat_cmp}
use Rattle.office_base.specs.Maps.{bytes_cmp, Rises}
use Rattle.class_rules.specs.Classes.{rank_of}
use Rattle.stacks.specs.Stacks.{StackRecord, ids_differ}
use Rattle.stacks.specs.declared.version.Kind.{Kind}
use Rattle.stacks.specs.declared.version.Kind.TheVariants.{Object, Marker}
use Rattle.stacks.specs.declared.version.Version.{Version}
use Rattle.due_core.specs.Buckets.{BucketRecord}
use Rattle.plain_office.specs.Office.{Account}

-- the removal of a version, and a transition for each colder class
abbrev pub version_work : Version → ℕ
version_work version = left version.kind where
  left : Kind → ℕ
  left (Object size class tags entered) = 6 - rank_of class
  left Marker = 1

-- where the current version is an object, a marker may come and go
abbrev pub marker_work : List Version → ℕ
marker_work [] = 0
marker_work (current ∷ others) = left current.kind where
  left : Kind → ℕ
  left (Object size class tags entered) = 2
  left Marker = 0

abbrev pub stack_work : StackRecord → ℕ
stack_work stack = sum_by version_work stack.versions + marker_work stack.versions

abbrev pub bucket_work : BucketRecord → ℕ
bucket_work bucket = sum_by (λ (stack : List ℕ × StackRecord). stack_work stack.1) bucket.stacks + length bucket.uploads

-- the measure: it falls with each action that is chosen
abbrev pub work_left : Account → ℕ
work_left account = bucket_work account.bucket

-- what the end of a sweep needs of the order of a bucket: keys and numbers rise, and the ids in a stack differ
pub record IsTidy (bucket : BucketRecord) : Type 0 where
  pub keys : Rises bytes_cmp bucket.stacks
  pub numbers : Rises nat_cmp bucket.uploads
  pub ids : AllByRecursion (λ entry. ids_differ entry.1.versions ≡ true) bucket.stacks
