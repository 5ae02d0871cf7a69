-- What is told of a configuration.
use Rattle.std.proofs.Common.{◌≡◌, ◌⊎◌, ◌∙◌, inl, inr, ⊎_elim, refl, sym, ap, subst, ℕ, ◌<◌, ◌≤◌, false, Result, Ok, Err}
use Rattle.std.proofs.lemmas.Bool.Decides.{leb_tells}
use Rattle.office_types.specs.declared.refusal.Refusal.{Refusal}
use Rattle.plain_office.specs.Office.{Office}
use Rattle.rules_core.specs.Configurations.{Configuration}
use Rattle.command_line.specs.declared.line.ForecastAsked.{ForecastAsked}
use Rattle.desk_core.specs.Calls.{moment_after}
use Rattle.forecast.specs.Forecasts.{Proposal, Outlook, proposed}
use Rattle.forecast.specs.declared.fault.ForecastFault.{ForecastFault}
use Rattle.forecast.specs.declared.fault.ForecastFault.TheVariants as begins
use Rattle.forecast.specs.Telling.{ForecastView, Foretells, Begins}
use Rattle.forecast_text.specs.Tables.{forecast_text}
use Rattle.http_front.specs.declared.replies.Replies as sinks
use Rattle.http_front.specs.declared.answering.SessionEnd.TheVariants as ends
use Rattle.http_front.specs.Counts.{StreamEnds}
use Rattle.office_commands.specs.Lines.{IsForecastExit}
use Rattle.office_commands.specs.Running.{IsPutOut, RunsOut}
use Rattle.office_commands.specs.Configuring.{SaysRules}
use Rattle.office_commands.specs.declared.configuration.ConfigurationFault.{ConfigurationFault}
use Rattle.office_commands.specs.Forecasting.{proposal, months_of, IsForetoldExit, TellsFailure, TellsProposal, TellsFault, TellsSaid, ForecastsBy}

-- ---- a proposal

not_less : (a b : ℕ) → (a < b → ⊥) → b ≤ a
not_less a b not = ⊎_elim (λ is. is.1) (λ is. absurd (not is.1)) (leb_tells b a)

module _ {W : Type 0} (w : sinks.Ghosts W) (asked : Proposal) (office : Office) (old new : W) (status : ℕ) where
  pub begun : (view : ForecastView) → (asked.until < asked.from → ⊥) → Begins asked office view
      → ((outlook : Outlook) → Foretells view outlook → IsPutOut w (forecast_text (months_of asked) outlook) old new status ⊎ RunsOut w old new status)
      → TellsProposal w asked office old new status
  begun view in_time begins tells =
      ⊎_elim
      (λ put. inr (inl (not_less asked.until asked.from in_time, inr (begins.0, begins.1, put))))
      (λ out. inr (inr out))
      (tells begins.0 begins.2)

  pub failed : (fault : ForecastFault) → ((day : ℕ) → fault ≡ begins.PastDay day → asked.until < asked.from)
      → ((refusal : Refusal) → fault ≡ begins.Refused refusal → (asked.from ≤ asked.until) × ((proposed asked office).1 ≡ Err refusal))
      → TellsFailure w fault old new status → TellsProposal w asked office old new status
  failed (begins.PastDay t) past refused told = inl (past t refl, told)
  failed (begins.Refused refusal) past refused told = inr (inl ((refused refusal refl).0, inl (refusal, (refused refusal refl).1, told)))
  failed begins.NoMemory past refused told = inr (inr told)

-- ---- what the input says

module _ {W : Type 0} (w : sinks.Ghosts W) (asked : ForecastAsked) (input : StreamEnds) (first : ℕ) (office : Office) (old new : W) (status : ℕ) where
  pub with_rules : (rules : Configuration) (t : ℕ) → t ≡ moment_after first office.last → SaysRules input (Ok rules)
      → TellsProposal w (proposal asked rules t) office old new status → ForecastsBy w office asked input first old new status
  with_rules rules t is says told = record {
    said = Ok rules;
    says = says;
    told = subst (λ (n : ℕ). TellsProposal w (proposal asked rules n) office old new status) is told;
  }

  pub without : (fault : ConfigurationFault) → SaysRules input (Err fault) → TellsFault w fault old new status → ForecastsBy w office asked input first old new status
  without fault says told = record { said = Err fault; says = says; told = told }

-- ---- statuses

pub foretold_is_forecast : (status : ℕ) → (status ≡ 3) ⊎ IsForetoldExit status → IsForecastExit status
foretold_is_forecast status (inl three) = inr (inl (ends.ReadFault, false, three))
foretold_is_forecast status (inr (inl zero)) = inr (inl (ends.Ended, false, zero))
foretold_is_forecast status (inr (inr (inl four))) = inr (inl (ends.WriteFault, false, four))
foretold_is_forecast status (inr (inr (inr (inl six)))) = inr (inl (ends.NoMemory, false, six))
foretold_is_forecast status (inr (inr (inr (inr fourteen)))) = inl fourteen
