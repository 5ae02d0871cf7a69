-- Moments and months computed on examples.
use Rattle.std.specs.Prelude.{◌≡◌, ◌*◌, refl, codes, true, false}
use Rattle.moments.specs.Time.{due}
use Rattle.moments.specs.Months.{days_of_months, first_day, month_start, month_length, months_over, month_at}
use Rattle.moments.specs.Texts.{moment_text}
use Rattle.moments.specs.Dates.{begins_with_month, is_month, begins_with_date, begins_with_clock, is_time, is_date, is_at_midnight, midnight_of}

-- 2014-01-15 10:30 and three days
due_after_three_days : due 1_389_781_800_000 3 ≡ 1_390_089_600_000
due_after_three_days = refl

-- a sum that falls on a midnight stays there
due_at_a_midnight : due 1_389_744_000_000 3 ≡ 1_390_003_200_000
due_at_a_midnight = refl

january_2024 : month_start 648 ≡ 1_704_067_200_000
unfolding first_day days_of_months
january_2024 = refl

-- the last month ends where moments end
december_2099 : month_start 1_560 ≡ 4_102_444_800_000
unfolding first_day days_of_months
december_2099 = refl

first_month : month_start 0 ≡ 0
unfolding first_day days_of_months
first_month = refl

february_2024 : month_length 649 ≡ 29 * 86_400_000
unfolding first_day days_of_months
february_2024 = refl

month_of_a_moment : month_at 1_706_745_599_999 ≡ 648
unfolding months_over first_day days_of_months
month_of_a_moment = refl

last_moment_text : moment_text 4_102_444_799_999 ≡ codes "2099-12-31T23:59:59.999Z"
unfolding moment_text months_over first_day days_of_months
last_moment_text = refl

guide_moment_text : moment_text 1_390_089_600_000 ≡ codes "2014-01-19T00:00:00.000Z"
unfolding moment_text months_over first_day days_of_months
guide_moment_text = refl

alone : is_date (codes "2014-01-19") ≡ true
unfolding is_date begins_with_date begins_with_month is_time begins_with_clock
alone = refl

alone_begins : midnight_of (codes "2014-01-19") ≡ 1_390_089_600_000
unfolding first_day days_of_months
alone_begins = refl

with_nine_digits : is_date (codes "2099-12-31T00:00:00.000000000-00:00") ≡ true
unfolding is_date begins_with_date begins_with_month is_time begins_with_clock
with_nine_digits = refl

late_in_the_day : is_at_midnight (codes "2099-12-31T23:59:59Z") ≡ false
unfolding is_at_midnight
late_in_the_day = refl

second_sixty : is_date (codes "2014-01-19T00:00:60Z") ≡ false
unfolding is_date begins_with_date begins_with_month is_time begins_with_clock
second_sixty = refl

lower_case : is_date (codes "2014-01-19t00:00:00Z") ≡ false
unfolding is_date begins_with_date begins_with_month is_time begins_with_clock
lower_case = refl

no_leap_day : is_date (codes "2023-02-29") ≡ false
unfolding is_date begins_with_date begins_with_month is_time begins_with_clock
no_leap_day = refl

december : is_month (codes "2099-12") ≡ true
unfolding is_month begins_with_month
december = refl

thirteenth_month : is_month (codes "2014-13") ≡ false
unfolding is_month begins_with_month
thirteenth_month = refl
