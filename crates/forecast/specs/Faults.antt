-- Which fault of a forecast a refusal of the office becomes.
use Rattle.std.specs.Prelude.{Bool, true, false, if◌then◌else◌}
use Rattle.office_types.specs.declared.refusal.Refusal.{Refusal}
use Rattle.office_types.specs.declared.refusal.Refusal.TheVariants as refusal
use Rattle.forecast.specs.declared.fault.ForecastFault.{ForecastFault}
use Rattle.forecast.specs.declared.fault.ForecastFault.TheVariants.{PastDay, Refused, NoMemory}

-- the refusal is that memory ran out
abbrev pub is_wanting : Refusal → Bool
is_wanting refusal.NoMemory = true
is_wanting other = false

-- the fault that a refusal becomes
abbrev pub fault_of : Refusal → ForecastFault
fault_of refusal = if is_wanting refusal then NoMemory else Refused refusal

-- the fault comes from the office, and not from the days
abbrev pub IsOfOffice : ForecastFault → Type 0
IsOfOffice (PastDay t) = ⊥
IsOfOffice (Refused refusal) = Unit {0}
IsOfOffice NoMemory = Unit {0}
