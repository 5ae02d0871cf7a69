-- Worked examples, computed: the conditions of small configurations, and what filters match.
use Rattle.std.specs.Prelude.{◌≡◌, ℕ, true, false, List, [], ◌∷◌, None, Some, Ok, Err, codes, replicate, refl}
use Rattle.std.specs.Fmt.{digits}
use Rattle.std.specs.Str.{is_utf8, chars}
use Rattle.office_base.specs.Tags.{is_tag, are_tags}
use Rattle.class_rules.specs.declared.class.Class.{Class}
use Rattle.class_rules.specs.declared.class.Class.TheVariants.{Standard, StandardIa, Glacier, DeepArchive, GlacierIr}
use Rattle.rules_core.specs.declared.rule.Rule.{Rule}
use Rattle.rules_core.specs.declared.rule.Filter.{Filter}
use Rattle.rules_core.specs.declared.rule.When.TheVariants.{Days, Date}
use Rattle.rules_core.specs.declared.rule.SizeMode.TheVariants.{All128K, Varies}
use Rattle.rules_core.specs.declared.rule.Transition.{Transition}
use Rattle.rules_core.specs.declared.flaw.RuleFlaw.TheVariants.{TooManyRules, LongId, DoubleId, NoAction, BadFilter, BadSizeRange, BadDays, BadNewer, EarlyInfrequent, ExpiresTooSoon, MixedDates}
use Rattle.rules_core.specs.declared.flaw.RuleFlaw.TheVariants.{BadOrder, MarkerRule, AbortFilter, BadExpiration}
use Rattle.rules_core.specs.Matching.{matches_object, matches_marker, matches_upload, size_admits}
use Rattle.rules_core.specs.Conditions.{breaks, flaw_of, first_flaw}
use Rattle.rules_core.specs.Configurations.{with_id, checked}

-- ---- conditions

-- every object
abbrev any : Filter
any = record { prefix = []; tags = []; greater = None; less = None }

-- a rule for every object that does nothing yet
abbrev no_action : List ℕ → Rule
no_action id = record {
  id = id;
  enabled = true;
  filter = any;
  expiration = None;
  transitions = [];
  noncurrent_expiration = None;
  noncurrent_moves = [];
  abort_days = None;
}

abbrev after_days : ℕ → Class → Transition
after_days days to = record { when = Days days; to = to }

abbrev moves : List Transition → Rule
moves transitions = record (no_action (codes "r")) { transitions = transitions }

-- a rule that expires objects after this many days
abbrev expires : List ℕ → ℕ → Rule
expires id days = record (no_action id) { expiration = Some (record { days = Some days; date = None; lone_marker = false }) }

-- lone delete markers are removed, by a rule with a tag
markers_by_tag : first_flaw (record (no_action (codes "m")) {
  filter = record any { tags = (codes "a", codes "b") ∷ [] };
  expiration = Some (record { days = None; date = None; lone_marker = true });
} ∷ []) ≡ Some (MarkerRule, 1)
unfolding first_flaw flaw_of breaks are_tags is_tag is_utf8 chars lib.Utf8.encode
markers_by_tag = refl

-- to two classes after 30 days
both_on_one_day : first_flaw (moves (after_days 30 StandardIa ∷ after_days 30 Glacier ∷ []) ∷ []) ≡ Some (BadOrder, 1)
unfolding first_flaw flaw_of breaks are_tags chars
both_on_one_day = refl

one_day_later : first_flaw (moves (after_days 30 StandardIa ∷ after_days 31 Glacier ∷ []) ∷ []) ≡ None
unfolding first_flaw flaw_of breaks are_tags chars
one_day_later = refl

-- the transition to the colder class is later, but first in the list
colder_first : first_flaw (moves (after_days 31 Glacier ∷ after_days 30 StandardIa ∷ []) ∷ []) ≡ None
unfolding first_flaw flaw_of breaks are_tags chars
colder_first = refl

to_standard : first_flaw (moves (after_days 30 Standard ∷ []) ∷ []) ≡ Some (BadOrder, 1)
unfolding first_flaw flaw_of breaks are_tags chars
to_standard = refl

-- to STANDARD_IA after 29 days
too_early : first_flaw (moves (after_days 29 StandardIa ∷ []) ∷ []) ≡ Some (EarlyInfrequent, 1)
unfolding first_flaw flaw_of breaks are_tags chars
too_early = refl

expired_with_the_move : first_flaw (record (expires (codes "r") 30) { transitions = after_days 30 Glacier ∷ [] } ∷ []) ≡ Some (ExpiresTooSoon, 1)
unfolding first_flaw flaw_of breaks are_tags chars
expired_with_the_move = refl

days_and_a_date : first_flaw (moves (after_days 30 Glacier ∷ record { when = Date 1_704_067_200_000; to = DeepArchive } ∷ []) ∷ []) ≡ Some (MixedDates, 1)
unfolding first_flaw flaw_of breaks are_tags chars
days_and_a_date = refl

-- the other conditions, each broken alone
long_id : first_flaw (expires (replicate 256 97) 1 ∷ []) ≡ Some (LongId, 1)
unfolding first_flaw flaw_of breaks are_tags chars
long_id = refl

long_prefix : first_flaw (record (expires (codes "r") 1) { filter = record any { prefix = replicate 1_025 97 } } ∷ []) ≡ Some (BadFilter, 1)
unfolding first_flaw flaw_of breaks are_tags chars
long_prefix = refl

no_key : first_flaw (record (expires (codes "r") 1) { filter = record any { tags = ([], codes "b") ∷ [] } } ∷ []) ≡ Some (BadFilter, 1)
unfolding first_flaw flaw_of breaks are_tags is_tag is_utf8 chars lib.Utf8.encode
no_key = refl

no_size_between : first_flaw (record (expires (codes "r") 1) { filter = record any { greater = Some 4; less = Some 4 } } ∷ []) ≡ Some (BadSizeRange, 1)
unfolding first_flaw flaw_of breaks are_tags chars
no_size_between = refl

no_days : first_flaw (expires (codes "r") 0 ∷ []) ≡ Some (BadDays, 1)
unfolding first_flaw flaw_of breaks are_tags chars
no_days = refl

too_many_newer :
    first_flaw (record (no_action (codes "r")) { noncurrent_expiration = Some (record { days = 1; newer = Some 101 }) } ∷ []) ≡ Some (BadNewer, 1)
unfolding first_flaw flaw_of breaks are_tags chars
too_many_newer = refl

abort_by_size :
    first_flaw (record (no_action (codes "r")) { filter = record any { less = Some 5 }; abort_days = Some 1 } ∷ []) ≡ Some (AbortFilter, 1)
unfolding first_flaw flaw_of breaks are_tags chars
abort_by_size = refl

days_and_date :
    first_flaw (record (no_action (codes "r")) {
      expiration = Some (record { days = Some 1; date = Some 1_704_067_200_000; lone_marker = false });
    } ∷ [])
    ≡ Some (BadExpiration, 1)
unfolding first_flaw flaw_of breaks are_tags chars
days_and_date = refl

too_many : first_flaw (replicate 1_001 (expires (codes "r") 1)) ≡ Some (TooManyRules, 0)
unfolding first_flaw
too_many = refl

-- the second rule has no action; the first one has no flaw
second_rule : first_flaw (moves (after_days 30 StandardIa ∷ []) ∷ no_action (codes "s") ∷ []) ≡ Some (NoAction, 2)
unfolding first_flaw flaw_of breaks are_tags chars
second_rule = refl

-- ids are filled in before they are compared
filled_in : checked (expires [] 1 ∷ expires [] 2 ∷ []) All128K
    ≡ Ok (record { rules = expires (codes "rule-1") 1 ∷ expires (codes "rule-2") 2 ∷ []; mode = All128K })
unfolding with_id first_flaw flaw_of breaks are_tags chars digits
filled_in = refl

same_once_filled_in : checked (expires (codes "rule-2") 1 ∷ expires [] 2 ∷ []) All128K ≡ Err (DoubleId, 2)
unfolding with_id first_flaw flaw_of breaks are_tags chars digits
same_once_filled_in = refl

-- ---- matching

-- objects below `logs/` of more than 100 bytes, with the tag keep=no
abbrev logs : Filter
logs = record { prefix = codes "logs/"; tags = (codes "keep", codes "no") ∷ []; greater = Some 100; less = Some 200 }

abbrev key : List ℕ
key = codes "logs/a"

matched : matches_object logs key ((codes "keep", codes "no") ∷ (codes "kind", codes "raw") ∷ []) 101 ≡ true
matched = refl

-- both bounds are exclusive
not_above : matches_object logs key ((codes "keep", codes "no") ∷ []) 100 ≡ false
not_above = refl

not_below : matches_object logs key ((codes "keep", codes "no") ∷ []) 200 ≡ false
not_below = refl

another_value : matches_object logs key ((codes "keep", codes "yes") ∷ []) 101 ≡ false
another_value = refl

another_prefix : matches_object logs (codes "log") ((codes "keep", codes "no") ∷ []) 101 ≡ false
another_prefix = refl

-- a marker has no tags and no size, an upload is matched by its key alone
no_marker : matches_marker logs key ≡ false
no_marker = refl

marker : matches_marker (record any { prefix = codes "logs/" }) key ≡ true
marker = refl

upload : matches_upload logs key ≡ true
upload = refl

-- ---- sizes that transitions move

least_size : size_admits All128K any Glacier 131_072 ≡ true
least_size = refl

too_small : size_admits All128K any Glacier 131_071 ≡ false
too_small = refl

small_to_an_archive : size_admits Varies any DeepArchive 0 ≡ true
small_to_an_archive = refl

small_to_another_class : size_admits Varies any GlacierIr 131_071 ≡ false
small_to_another_class = refl

small_by_a_bound : size_admits All128K logs StandardIa 101 ≡ true
small_by_a_bound = refl
