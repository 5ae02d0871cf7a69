-- The running counts of what has a limit, as a change of one bucket moves them.
use Rattle.std.specs.Prelude.{◌≡◌, ℕ, ◌+◌, ◌*◌, ◌^◌, ◌≤◌, List, length, nat_lt, Option, Some}
use Rattle.std.specs.List.{find}
use Rattle.accrual.specs.Totals.{Totals}
use Rattle.due_core.specs.Buckets.{BucketRecord}
use Rattle.plain_office.specs.Counts.{limit_of, version_count, part_count, name_bytes, rules_bytes}
use Rattle.office_types.specs.declared.refusal.Refusal.{Refusal}
use Rattle.office_types.specs.declared.refusal.Refusal.TheVariants.{Full}
use Rattle.office_types.specs.declared.refusal.What.{What}
use Rattle.office_types.specs.declared.refusal.What.TheVariants.{Buckets, Versions, Uploads, Parts, Names, Rules, Tariffs}
use Rattle.bucket_account.specs.declared.change.Done.{Done}
use Rattle.bucket_account.specs.declared.counts.Counts.{Counts}

-- what contracts see of a bucket: its records and its meters
pub record AccountRecord : Type 0 where
  pub bucket : BucketRecord
  pub meters : Totals

-- the account of these records and meters
abbrev pub account_of : BucketRecord → Totals → AccountRecord
account_of bucket meters = record { bucket = bucket; meters = meters }

-- how much there is of a kind, by the counts
abbrev pub amount : What → Counts → ℕ
amount Buckets counts = counts.buckets
amount Versions counts = counts.versions
amount Uploads counts = counts.uploads
amount Parts counts = counts.parts
amount Names counts = counts.names
amount Rules counts = counts.rules
amount Tariffs counts = counts.tariffs

-- how much of a kind one bucket has
abbrev pub in_bucket : What → BucketRecord → ℕ
in_bucket Buckets bucket = 1
in_bucket Versions bucket = version_count bucket
in_bucket Uploads bucket = length bucket.uploads
in_bucket Parts bucket = part_count bucket
in_bucket Names bucket = name_bytes bucket
in_bucket Rules bucket = rules_bytes bucket.rules
in_bucket Tariffs bucket = 0

-- the counts include this bucket, and are at most twice their limits
abbrev pub AreCountsOver : BucketRecord → Counts → Type 0
AreCountsOver bucket counts =
    (what : What) → (in_bucket what bucket ≤ amount what counts) × (amount what counts ≤ 2 * limit_of what)

-- the counts have moved as one bucket did
abbrev pub HaveMoved : BucketRecord → BucketRecord → Counts → Counts → Type 0
HaveMoved before after counts moved =
    (what : What) → amount what moved + in_bucket what before ≡ amount what counts + in_bucket what after

-- the first of these that is above its limit, if any is
abbrev pub first_over : List What → Counts → Option What
first_over whats counts = find (λ what. nat_lt (limit_of what) (amount what counts)) whats

-- refused for the counts: this is the first of them above its limit
abbrev pub IsFullOf : List What → Counts → Refusal → Type 0
IsFullOf whats counts refusal =
    (what : What) × (first_over whats counts ≡ Some what) × (refusal ≡ Full what (limit_of what))

-- what an account has at most after this many accepted commands: a command books at most three times in a bucket's
-- meters and gives at most one number of each kind; a restored office begins with at most 2^20 bookings and numbers up
-- to 2^62 (own)
pub record IsWithinBy (accepted : ℕ) (account : AccountRecord) : Type 0 where
  pub booked : account.meters.booked ≤ 2 ^ 20 + 3 * accepted
  pub next_version : account.bucket.next_version ≤ 2 ^ 62 + accepted
  pub next_upload : account.bucket.next_upload ≤ 2 ^ 62 + accepted

-- at most this many bookings, and this many numbers of each kind, were added
pub record HasGrownBy (bookings numbers : ℕ) (old new : AccountRecord) : Type 0 where
  pub booked : new.meters.booked ≤ old.meters.booked + bookings
  pub next_version : new.bucket.next_version ≤ old.bucket.next_version + numbers
  pub next_upload : new.bucket.next_upload ≤ old.bucket.next_upload + numbers

-- at most one version more, and the bytes of one text of a configuration
pub record IsFewMore (counts : Counts) (done : Done) : Type 0 where
  pub versions : done.counts.versions ≤ counts.versions + 1
  pub rules : done.counts.rules ≤ counts.rules + 2 ^ 32
