-- The ids of the rules of a configuration.
use Rattle.std.proofs.Common.{◌≡◌, ℕ, ◌+◌, ◌≤◌, ◌<◌, ◌-◌, zero, suc, List, [], ◌∷◌, ◌++◌, length, get_or, refl, ap, sym, ◌∙◌, subst, Bool, true, false, cond, arith}
use Rattle.std.specs.Prelude.{Option, Some, None, Result, Ok, Err, IfOk, unwrap_or, option_map, nat_lt, slice_get}
use Rattle.std.proofs.lemmas.Bool.{ltb-false}
use Rattle.std.proofs.lemmas.Option.{slice_get_past}
use Rattle.std.proofs.lemmas.Str.{chars-nil}
use Rattle.office_base.specs.Tags.{char_count}
use Rattle.rules_core.specs.Conditions.{breaks, flaw_of, first_flaw, first_flaw_after}
use Rattle.rules_core.specs.Configurations.{Configuration, IsConfiguration}
use Rattle.rules_core.specs.declared.flaw.RuleFlaw.{RuleFlaw}
use Rattle.rules_core.specs.declared.flaw.RuleFlaw.TheVariants.{LongId, TooManyRules}
use Rattle.rules_core.specs.declared.rule.Rule.{Rule}
use Rattle.plain_office.specs.Step.{rule_id}
use Rattle.rules_json.proofs.Writable.{none_later}

short_by : (n : ℕ) (long : Bool) (others : Option RuleFlaw) → nat_lt 255 n ≡ long → cond long (Some LongId) others ≡ None → n ≤ 255
short_by n true others is h = absurd cc
short_by n false others is h = ltb-false 255 n is

pub short_rule : (earlier : List Rule) (rule : Rule) → flaw_of earlier rule ≡ None → char_count rule.id ≤ 255
unfolding flaw_of breaks
short_rule earlier rule h = short_by (char_count rule.id) (nat_lt 255 (char_count rule.id)) _ refl h

short_after : (earlier rules : List Rule) (place : ℕ) (rule : Rule) → first_flaw_after earlier rules ≡ None → place < length rules → rule ≡ get_or rules place rule → char_count rule.id ≤ 255
short_after earlier [] place rule h less is = absurd (omega (arith, less))
short_after earlier (first ∷ rules) zero rule h less is =
    let none = none_later (flaw_of earlier first) (length earlier + 1) (first_flaw_after (earlier ++ first ∷ []) rules) h in
    subst (λ (r : Rule). char_count r.id ≤ 255) (sym is) (short_rule earlier first none.0)
short_after earlier (first ∷ rules) (suc place) rule h less is =
    let none = none_later (flaw_of earlier first) (length earlier + 1) (first_flaw_after (earlier ++ first ∷ []) rules) h in
    short_after (earlier ++ first ∷ []) rules place rule none.1 (omega (arith, less)) is

after_count : (many : Bool) (later : Option (RuleFlaw × ℕ)) → cond many (Some (TooManyRules, 0)) later ≡ None → later ≡ None
after_count true later h = absurd cc
after_count false later h = h

-- each has at most 255 characters
pub short_id : (configuration : Configuration) (rules : List Rule) (place : ℕ) (rule : Rule)
    → IsConfiguration configuration → rules ≡ configuration.rules → place < length rules
    → rule ≡ get_or rules place rule
    → char_count rule.id ≤ 255
unfolding first_flaw
short_id configuration rules place rule is same less found =
    short_after [] rules place rule
    (subst (λ (l : List Rule). first_flaw_after [] l ≡ None) (sym same) (after_count (nat_lt 1_000 (length configuration.rules)) _ is.flawless)) less found

-- after the last rule there is none
pub no_id : (kept : Option Configuration) (configuration : Configuration) (rules : List Rule) (at place : ℕ)
    → kept ≡ Some configuration → rules ≡ configuration.rules → at ≡ place - 1 → length rules ≤ at
    → [] ≡ rule_id kept place
no_id kept configuration rules at place is same here over =
    let past : slice_get configuration.rules (place - 1) ≡ None = slice_get_past configuration.rules (place - 1) (subst (λ (l : List Rule). length l ≤ place - 1) same (omega (arith, here, over))) in
    sym (ap (λ (o : Option Configuration). rule_id o place) is ∙ ap (λ (o : Option Rule). unwrap_or (option_map (λ (rule : Rule). rule.id) o) []) past)

pub short_copy : {E : Type 0} (r : Result (List ℕ) E) (id : List ℕ) → char_count id ≤ 255 → IfOk r (λ copy. copy ≡ id) → IfOk r (λ copy. char_count copy ≤ 255)
short_copy (Ok copy) id short same = subst (λ (text : List ℕ). char_count text ≤ 255) (sym same) short
short_copy (Err e) id short same = tt

-- an empty one has none
pub short_empty : (id : List ℕ) → id ≡ [] → char_count id ≤ 255
short_empty id is = subst (λ (text : List ℕ). char_count text ≤ 255) (sym is) (subst (λ (l : List ℕ). length l ≤ 255) (sym chars-nil) (omega arith))
