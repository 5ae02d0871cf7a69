-- Moments and midnights. A moment is a number of milliseconds since 1970-01-01 00:00 UTC.
use Rattle.std.specs.Prelude.{◌≡◌, ℕ, ◌+◌, ◌-◌, ◌*◌, ◌/◌, ◌%◌, ◌<◌, ◌≤◌}

-- the milliseconds of a day
abbrev pub day : ℕ
day = 86_400_000

-- 2100-01-01; all moments are before it
abbrev pub end_of_time : ℕ
end_of_time = 4_102_444_800_000

-- the last moment
abbrev pub last_moment : ℕ
last_moment = 4_102_444_799_999

-- the least midnight that is not before the moment
abbrev pub next_midnight : ℕ → ℕ
next_midnight m = (m + (day - 1)) / day * day

-- midnight is the least midnight that is not before m
pub record IsNextMidnight (m midnight : ℕ) : Type 0 where
  pub whole_days : midnight % day ≡ 0
  pub not_before : m ≤ midnight
  pub least : midnight < m + day

-- the midnight at which an action by days is due: the time is rounded up to the next midnight UTC (S3 User Guide,
-- "Lifecycle configuration elements": lifecycle rules based on an object's age). Own: a sum that is a midnight stays.
abbrev pub due : ℕ → ℕ → ℕ
due m days = next_midnight (m + days * day)
