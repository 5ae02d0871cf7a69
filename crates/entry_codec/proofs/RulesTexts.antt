-- The texts of configurations.
use Rattle.std.proofs.Common.{◌≡◌, ◌∙◌, ℕ, ◌^◌, Bool, true, false, ◌&&◌, List, length, Some, None, Result, Ok, Err, ap, arith, is_none, if◌then◌else◌}
use Rattle.std.specs.Prelude.{option_and_then}
use Rattle.std.specs.Result.{result_ok}
use Rattle.std.specs.Str.{bytes_eq}
use Rattle.std.proofs.lemmas.Bool.{lt-ltb, and_from}
use Rattle.rules_core.specs.Configurations.{Configuration, IsConfiguration}
use Rattle.rules_json.specs.Printing.{printed}
use Rattle.rules_json.specs.Reading.{rules_of}
use Rattle.rules_json.specs.declared.fault.RulesFault.{RulesFault}
use Rattle.rules_json.proofs.ShortTexts.{printed_small}
use Rattle.entry_codec.specs.Fields.{Rules, format, rules_texts, is_configuration, if_printed}

configuration_is : (rules : Configuration) → IsConfiguration rules → is_configuration rules ≡ true
configuration_is rules is = and_from _ _ (and_from _ _ (and_from _ _ (ap is_none is.flawless) is.named) is.midnights) is.texts

by_text : (t : List ℕ) (rules : Configuration) (same : Bool) → rules_of t ≡ Ok rules → IsConfiguration rules → bytes_eq t (printed rules) ≡ same
    → rules_texts.value t ≡ (if same then Some rules else None)
by_text t rules same read is test =
    ap (λ (r : Result Configuration RulesFault). option_and_then (if_printed t) (result_ok r)) read
    ∙ ap (λ (b : Bool). if b && bytes_eq t (printed rules) then Some rules else None) (configuration_is rules is)
    ∙ ap (λ (b : Bool). if b then Some rules else None) test

pub is_printed : (t : List ℕ) (rules : Configuration) → rules_of t ≡ Ok rules → IsConfiguration rules → bytes_eq t (printed rules) ≡ true → rules_texts.value t ≡ Some rules
is_printed t rules = by_text t rules true

pub not_printed : (t : List ℕ) (rules : Configuration) → rules_of t ≡ Ok rules → IsConfiguration rules → bytes_eq t (printed rules) ≡ false → rules_texts.value t ≡ None
not_printed t rules = by_text t rules false

pub not_read : (t : List ℕ) (fault : RulesFault) → rules_of t ≡ Err fault → rules_texts.value t ≡ None
not_read t fault read = ap (λ (r : Result Configuration RulesFault). option_and_then (if_printed t) (result_ok r)) read

-- which configuration a text is
pub ruleset which_rules = (is_printed, not_printed, not_read)

pub rules_has : (rules : Configuration) → IsConfiguration rules → (format Rules).has rules ≡ true
unfolding format
rules_has rules is = and_from _ _ (lt-ltb (length (printed rules)) (256 ^ 4) (omega (arith, printed_small rules is))) (configuration_is rules is)

-- a configuration has room
pub ruleset rules_fit = (printed_small, rules_has)
