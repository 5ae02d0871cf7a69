-- Lists that are read from the back.
use Rattle.std.specs.Prelude.{◌≡◌, ℕ, ◌-◌, List, [], ◌∷◌, ◌++◌, length, drop, nat_lt, Result, Ok, Err, Vec, if◌then◌else◌}
use Rattle.rules_json.specs.declared.fault.RulesFault.{RulesFault}
use Rattle.rules_json.specs.declared.fault.RulesFault.TheVariants.{NoMemory}

-- a value before those that follow it, which are kept from the last to the first; the first fault counts, and memory
-- may run out
abbrev pub Joins : {X A : Type 0} → Result X RulesFault → Result (Vec X A) RulesFault → Result (Vec X A) RulesFault → Type 0
Joins (Err e) others joined = joined ≡ Err e
Joins (Ok x) (Err e) joined = joined ≡ Err e
Joins (Ok x) (Ok v) (Ok w) = w.items ≡ v.items ++ x ∷ []
Joins (Ok x) (Ok v) (Err e) = e ≡ NoMemory

-- the same, but once there are `most` values, no further value is kept
abbrev pub JoinsUpTo : {X A : Type 0} → ℕ → Result X RulesFault → Result (Vec X A) RulesFault
    → Result (Vec X A) RulesFault → Type 0
JoinsUpTo most (Err e) others joined = joined ≡ Err e
JoinsUpTo most (Ok x) (Err e) joined = joined ≡ Err e
JoinsUpTo most (Ok x) (Ok v) (Ok w) = w.items ≡ (if nat_lt (length v.items) most then v.items ++ x ∷ [] else v.items)
JoinsUpTo most (Ok x) (Ok v) (Err e) = e ≡ NoMemory

-- the last `most` of these values; all, if they are not more
abbrev pub last_of : {X : Type 0} → ℕ → List X → List X
last_of most xs = drop (length xs - most) xs
