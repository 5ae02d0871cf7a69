-- Where the generator is between two commands: how many there were, the moment of the last one, and the state of the
-- draws.
use Rattle.std.specs.Prelude.{ℕ, zero, suc, ◌+◌, ◌%◌, min, nat_lt, ◌==◌, get_or, if◌then◌else◌}
use Rattle.moments.specs.Time.{last_moment}
use Rattle.class_rules.specs.Classes.{all_classes}
use Rattle.class_rules.specs.declared.class.Class.{Class}
use Rattle.class_rules.specs.declared.class.Class.TheVariants.{DeepArchive}
use Rattle.generator.specs.Draws.{draw, state_after}
use Rattle.generator.specs.declared.draft.Draft.{Draft}
use Rattle.generator.specs.declared.draft.Draft.TheVariants.{CreateBucket, Enable, SetRules, SetTariff, Put, Delete, DeleteVersion}
use Rattle.generator.specs.declared.draft.Draft.TheVariants.{StartUpload, PutPart, Complete, Act}
use Rattle.generator.specs.declared.place.Place.{Place}

-- before the first command: no draw was made of the number, and it is 2024-01-01 00:00 UTC
abbrev pub place_before : ℕ → Place
place_before number = record { made = 0; moment = 1_704_067_200_000; state = number }

-- ---- the first eight commands

-- four buckets, versioning in one, rules in two, and prices
abbrev pub first_draft : ℕ → Draft
first_draft made =
    if made == 4 then Enable 1 else if made == 5 then SetRules 0 else if made == 6 then SetRules 1
    else if made == 7 then SetTariff else CreateBucket made

-- ---- the commands after them

-- the class of this rank
abbrev pub class_ranked : ℕ → Class
class_ranked rank = get_or all_classes rank DeepArchive

-- A command of this kind, one of 16: seven kinds are puts, four are acts, and five are one other command each. Further
-- draws begin at the state x.
abbrev pub draft_of : ℕ → ℕ → ℕ → ℕ → Draft
draft_of kind bucket key x =
    if nat_lt kind 7 then Put bucket key (draw 0 x % 1_048_576) (class_ranked (draw 1 x % 6))
    else if kind == 7 then Delete bucket key
    else if kind == 8 then DeleteVersion bucket key (draw 0 x % 8)
    else if kind == 9 then StartUpload bucket key
    else if kind == 10 then PutPart bucket (1 + draw 0 x % 8) (1 + draw 1 x % 4) (draw 2 x % 1_048_576)
    else if kind == 11 then Complete bucket (1 + draw 0 x % 8)
    else Act bucket

-- how many draws a command of this kind makes besides those of its moment, bucket, kind and key
abbrev pub draws_of : ℕ → ℕ
draws_of kind =
    if nat_lt kind 7 then 2 else if kind == 8 then 1 else if kind == 10 then 3 else if kind == 11 then 1 else 0

-- The draws of a command begin with its moment, its bucket, its kind and its key.
abbrev pub kind_drawn : ℕ → ℕ
kind_drawn x = draw 2 x % 16

-- the command whose draws begin at the state x: in one of 4 buckets, under one of 500 keys
abbrev pub drawn : ℕ → Draft
drawn x = draft_of (kind_drawn x) (draw 1 x % 4) (draw 3 x % 500) (state_after 4 x)

-- ---- from place to place

-- the command after a place: one of the first eight, or one that is drawn
abbrev pub draft_at : Place → Draft
draft_at place = if nat_lt place.made 8 then first_draft place.made else drawn place.state

-- the place after the next command; the clock goes on by less than 6 hours, and stays below the end of time
abbrev pub next_place : Place → Place
next_place place =
    if nat_lt place.made 8 then record place { made = place.made + 1 }
    else record {
      made = place.made + 1;
      moment = min (place.moment + draw 0 place.state % 21_600_000) last_moment;
      state = state_after (draws_of (kind_drawn place.state)) (state_after 4 place.state);
    }

-- the place after this many commands
unfoldable pub place_after : ℕ → ℕ → Place
place_after number zero = place_before number
place_after number (suc n) = next_place (place_after number n)
