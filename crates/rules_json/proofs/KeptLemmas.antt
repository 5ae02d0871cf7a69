-- The last rules of a list, read from the back.
use Rattle.std.proofs.Common.{◌≡◌, ◌∙◌, sym, ap, refl, ℕ, suc, ◌-◌, ◌<◌, ◌≤◌, Bool, true, false, cond, List, [], ◌∷◌, ◌++◌, length, drop, reverse, nat_lt, Option, Some, None, Result, Ok, Err, Vec, arith, unwrap_or, codes}
use Rattle.std.proofs.lemmas.Bool.Decides.{nat_tests}
use Rattle.std.proofs.lemmas.List.{length-drop, length-reverse}
use Rattle.office_base.specs.Results.{◌>>=◌}
use Rattle.rules_core.specs.Configurations.{checked}
use Rattle.rules_core.specs.declared.rule.Rule.{Rule}
use Rattle.rules_core.specs.declared.rule.SizeMode.{SizeMode}
use Rattle.rules_core.proofs.CheckLemmas.{many_rules}
use Rattle.serde_json.specs.Data.{Data}
use Rattle.serde_json.specs.Find.{get}
use Rattle.rules_core.specs.Configurations.{Configuration}
use Rattle.rules_core.specs.declared.rule.SizeMode.TheVariants.{All128K}
use Rattle.rules_json.specs.Fields.{object_with, must_be_there, needed, optional, list_of}
use Rattle.rules_json.specs.Kept.{kept_rules}
use Rattle.rules_json.specs.Reading.{rule, size_mode, or_flaw, configuration_of}
use Rattle.rules_json.proofs.MidnightLemmas.{bind_ok}
use Rattle.rules_json.specs.Faults.{RulesGiveBy}
use Rattle.rules_json.specs.Lists.{JoinsUpTo, last_of}
use Rattle.rules_json.proofs.ListLemmas.{passed_on, reverse-push}
use Rattle.rules_json.specs.declared.fault.RulesFault.{RulesFault}

pub last-few : {X : Type 0} (most : ℕ) (xs : List X) → length xs ≤ most → last_of most xs ≡ xs
last-few most xs few = let none : length xs - most ≡ 0 = omega arith in ap (λ n. drop n xs) none

last-more : {X : Type 0} (most : ℕ) (x : X) (xs : List X) → most ≤ length xs → last_of most (x ∷ xs) ≡ last_of most xs
last-more most x xs many =
    let longer : suc (length xs) - most ≡ suc (length xs - most) = omega arith in ap (λ n. drop n (x ∷ xs)) longer

length-last_of : {X : Type 0} (most : ℕ) (xs : List X) → length (last_of most xs) ≡ length xs - (length xs - most)
length-last_of most xs = length-drop (length xs - most) xs

-- the last values of a list after one more in front
last-join : {X : Type 0} (most : ℕ) (x : X) (xs ys : List X) → reverse ys ≡ last_of most xs
    → reverse (cond (nat_lt (length ys) most) (ys ++ x ∷ []) ys) ≡ last_of most (x ∷ xs)
last-join most x xs ys is = go (nat_lt (length ys) most) refl
  where
    long : length ys ≡ length xs - (length xs - most)
    long = sym (length-reverse ys) ∙ ap length is ∙ length-last_of most xs

    go : (room : Bool) → nat_lt (length ys) most ≡ room → reverse (cond room (ys ++ x ∷ []) ys) ≡ last_of most (x ∷ xs)
    go true room =
        let below : length ys < most = grind (arith, nat_tests) in
        reverse-push ys x ∙ ap (λ zs. x ∷ zs) (is ∙ last-few most xs (omega (arith, long))) ∙ sym (last-few most (x ∷ xs) (omega (arith, long)))
    go false room =
        let above : most ≤ length ys = grind (arith, nat_tests) in
        is ∙ sym (last-more most x xs (omega (arith, long)))

-- more than 1,000 rules are refused, whichever they are
pub checked_last : (rules : List Rule) (mode : SizeMode) → checked (last_of 1_001 rules) mode ≡ checked rules mode
checked_last rules mode = go (nat_lt 1_001 (length rules)) refl
  where
    go : (more : Bool) → nat_lt 1_001 (length rules) ≡ more → checked (last_of 1_001 rules) mode ≡ checked rules mode
    go false is = ap (λ rs. checked rs mode) (last-few 1_001 rules (grind (arith, nat_tests)))
    go true is =
        let more : 1_001 < length rules = grind (arith, nat_tests) in
        many_rules (last_of 1_001 rules) mode (omega (arith, length-last_of 1_001 rules)) ∙ sym (many_rules rules mode (omega arith))

-- what is kept of a list that was read
abbrev pub kept_of : {X : Type 0} → ℕ → Result (List X) RulesFault → Result (List X) RulesFault
kept_of most read = read >>= λ xs. Ok (last_of most xs)

-- the values from the last to the first, turned round
abbrev pub back : {X A : Type 0} → Vec X A → List X
back v = reverse v.items

join_kept : {X A : Type 0} (most : ℕ) (x : X) (v : Vec X A) (more : Result (List X) RulesFault)
    → kept_of most more ≡ Ok (back v)
    → kept_of most (more >>= λ ys. Ok (x ∷ ys)) ≡ Ok (reverse (cond (nat_lt (length v.items) most) (v.items ++ x ∷ []) v.items))
join_kept most x v (Err e) is = absurd cc
join_kept most x v (Ok xs) is =
    let same : last_of most xs ≡ reverse v.items = cc in ap Ok (sym (last-join most x xs v.items (sym same)))

pub refused_list : {X : Type 0} (most : ℕ) (read : Result (List X) RulesFault) (told : RulesFault) → kept_of most read ≡ Err told → read ≡ Err told
refused_list most (Ok xs) told refused = absurd cc
refused_list most (Err e) told refused = ap Err (let same : e ≡ told = cc in same)

refused_on : {X : Type 0} (most : ℕ) (x : X) (more : Result (List X) RulesFault) (told : RulesFault)
    → kept_of most more ≡ Err told → kept_of most (more >>= λ ys. Ok (x ∷ ys)) ≡ Err told
refused_on most x more told refused = ap (λ r. kept_of most (r >>= λ ys. Ok (x ∷ ys))) (refused_list most more told refused)

-- one more value in front of those that were kept
pub joined_up_to : {X A : Type 0} (most : ℕ) (first : Result X RulesFault) (others joined : Result (Vec X A) RulesFault)
    (one : Result X RulesFault) (more : Result (List X) RulesFault) → JoinsUpTo most first others joined
    → RulesGiveBy (λ x. x) first one → RulesGiveBy back others (kept_of most more)
    → RulesGiveBy back joined (kept_of most (one >>= λ y. more >>= λ ys. Ok (y ∷ ys)))
joined_up_to {A = A} most (Err e) others joined one more is gives rest =
    let whole = kept_of most (one >>= λ y. more >>= λ ys. Ok (y ∷ ys)) in
    rw is (passed_on (λ x. x) (back {A = A}) e one whole (λ told refused. ap (λ r. kept_of most (r >>= λ y. more >>= λ ys. Ok (y ∷ ys))) refused) gives)
joined_up_to {A = A} most (Ok x) (Err e) joined one more is gives rest =
    let whole = kept_of most (one >>= λ y. more >>= λ ys. Ok (y ∷ ys)) in
    rw is (passed_on (back {A = A}) (back {A = A}) e (kept_of most more) whole
    (λ told refused. ap (λ r. kept_of most (r >>= λ y. more >>= λ ys. Ok (y ∷ ys))) gives ∙ refused_on most x more told refused) rest)
joined_up_to {A = A} most (Ok x) (Ok v) (Ok w) one more is gives rest =
    ap (λ r. kept_of most (r >>= λ y. more >>= λ ys. Ok (y ∷ ys))) gives ∙ join_kept most x v more rest ∙ ap (λ xs. Ok (reverse xs)) (sym is)
joined_up_to {A = A} most (Ok x) (Ok v) (Err e) one more is gives rest = rw is tt

-- what is kept of the rules of an object is kept of all its rules
kept_of_all : (field : List ℕ) (o : Option Data) (kept : List Rule) → must_be_there kept_rules field o ≡ Ok kept
    → (all : List Rule) × (must_be_there (list_of rule) field o ≡ Ok all) × (last_of 1_001 all ≡ kept)
kept_of_all field None kept is = absurd cc
kept_of_all field (Some value) kept is =
    let found = bind_ok (list_of rule field value) (λ all. Ok (last_of 1_001 all)) kept is in
    let same : last_of 1_001 found.0 ≡ kept = cc (found.2) in
    (found.0, found.1, same)

abbrev pub from_mode : List Rule → Option SizeMode → Result Configuration RulesFault
from_mode rules mode = or_flaw (checked rules (unwrap_or mode All128K))

abbrev pub from_rules : Data → List Rule → Result Configuration RulesFault
from_rules body rules = optional size_mode (codes "TransitionDefaultMinimumObjectSize") body >>= from_mode rules

abbrev pub from_body : Data → Result Configuration RulesFault
from_body body = needed (list_of rule) (codes "Rules") body >>= from_rules body

-- a configuration by the rules that are kept
pub configuration_kept : (value : Data) (kept : List Rule) (mode : Option SizeMode)
    → object_with (codes "Rules" ∷ codes "TransitionDefaultMinimumObjectSize" ∷ []) [] value ≡ Ok value
    → needed kept_rules (codes "Rules") value ≡ Ok kept
    → optional size_mode (codes "TransitionDefaultMinimumObjectSize") value ≡ Ok mode
    → configuration_of value ≡ or_flaw (checked kept (unwrap_or mode All128K))
unfolding configuration_of
configuration_kept value kept mode known are is =
    let all = kept_of_all (codes "Rules") (get (codes "Rules") value) kept are in
    let chosen = unwrap_or mode All128K in
    ap (λ r. r >>= from_body) known ∙ ap (λ r. r >>= from_rules value) all.1 ∙ ap (λ r. r >>= from_mode all.0) is
    ∙ ap or_flaw (sym (checked_last all.0 chosen) ∙ ap (λ rules. checked rules chosen) all.2)
