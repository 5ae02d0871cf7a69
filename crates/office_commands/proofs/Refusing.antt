-- Why an office refuses a configuration.
use Rattle.std.proofs.Common.{◌≡◌, ◌≤◌, ◌∙◌, refl, sym, ap, subst, ℕ, [], ◌∷◌, List, Option, Some, None, Result, Ok, Err}
use Rattle.rules_core.specs.Configurations.{Configuration}
use Rattle.office_base.specs.Maps.{at_name}
use Rattle.office_types.specs.declared.command.Command.TheVariants.{SetRules}
use Rattle.office_types.specs.declared.reply.Reply.{Reply}
use Rattle.office_types.specs.declared.reply.Reply.TheVariants.{NothingDue}
use Rattle.office_types.specs.declared.refusal.Refusal.{Refusal}
use Rattle.office_types.specs.declared.refusal.Refusal.TheVariants.{NoSuchBucket, Full}
use Rattle.office_types.specs.declared.refusal.What.{What}
use Rattle.office_types.specs.declared.refusal.What.TheVariants.{Rules}
use Rattle.plain_office.specs.Counts.{limit_of, first_full}
use Rattle.plain_office.specs.Office.{Office, Account}
use Rattle.plain_office.specs.Once.{step_with}
use Rattle.plain_office.specs.Step.{Outcome, step, outcome, settled, unless_full, within_limits, on_bucket, set_rules}
use Rattle.forecast.specs.Forecasts.{Proposal, proposed}
use Rattle.forecast.specs.declared.fault.ForecastFault.{ForecastFault}
use Rattle.forecast.specs.declared.fault.ForecastFault.TheVariants as begins
use Rattle.office_commands.specs.Forecasting.{MayRefuse, MayFail}

-- the outcome is refused for a reason for which a configuration may be
abbrev MayBeSo : Outcome → Type 0
MayBeSo (Ok done) = Unit {0}
MayBeSo (Err refusal) = MayRefuse refusal

by_count : (full : Option What) (done : Office × Reply) → MayBeSo (unless_full full done)
by_count None done = tt
by_count (Some what) done = tt

by_bucket : (t : ℕ) (name : List ℕ) (rules : Configuration) (office : Office) (found : Option Account) → at_name name office.accounts ≡ found
    → MayBeSo (within_limits (Rules ∷ []) (on_bucket name (set_rules t rules) office))
by_bucket t name rules office None is = rw is tt
by_bucket t name rules office (Some account) is = rw is (by_count _ _)

accepted_not : (t : ℕ) (office after : Office) (answer : Reply) (refusal : Refusal) → (settled t office (Ok (after, answer))).1 ≡ Err refusal → ⊥
accepted_not t office after NothingDue refusal is = absurd cc
accepted_not t office after answer refusal is = absurd cc

abbrev err_or : Refusal → Result Reply Refusal → Refusal
err_or one (Ok reply) = one
err_or one (Err fault) = fault

same_err : (one two : Refusal) → ◌≡◌ {A = Result Reply Refusal} (Err one) (Err two) → one ≡ two
same_err one two same = ap (err_or one) same

by_outcome : (t : ℕ) (office : Office) (done : Outcome) (refusal : Refusal) → MayBeSo done → (settled t office done).1 ≡ Err refusal → MayRefuse refusal
by_outcome t office (Err other) refusal may is = subst MayRefuse (same_err other refusal is) may
by_outcome t office (Ok (after, reply)) refusal may is = absurd (accepted_not t office after reply refusal is)

-- there is no such bucket, or the configurations of all buckets would be too long
pub may_refuse : (asked : Proposal) (office : Office) (refusal : Refusal) → (proposed asked office).1 ≡ Err refusal → MayRefuse refusal
unfolding step_with step outcome
may_refuse asked office refusal is =
    by_outcome asked.from office (within_limits (Rules ∷ []) (on_bucket asked.bucket (set_rules asked.from asked.rules) office)) refusal
    (by_bucket asked.from asked.bucket asked.rules office (at_name asked.bucket office.accounts) refl) is

-- so a forecast that is not begun may be told
pub may_fail : (asked : Proposal) (office : Office) (fault : ForecastFault)
    → ((refusal : Refusal) → fault ≡ begins.Refused refusal → (asked.from ≤ asked.until) × ((proposed asked office).1 ≡ Err refusal)) → MayFail fault
may_fail asked office (begins.PastDay t) is = tt
may_fail asked office (begins.Refused refusal) is = may_refuse asked office refusal (is refusal refl).1
may_fail asked office begins.NoMemory is = tt
