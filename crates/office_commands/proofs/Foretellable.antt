-- What can be forecast is, where nothing fails.
use Rattle.std.proofs.Common.{◌≡◌, ◌⊎◌, ◌∙◌, inl, inr, ⊎_elim, refl, sym, ap, subst, arith, ℕ, ◌+◌, ◌≤◌, ◌<◌, true, List, [], ◌++◌, length, append-nil, length-append, Option, Some, None, Result, Ok, Err}
use Rattle.std.specs.Prelude.{IsTrue}
use Rattle.std.specs.Io.KnownBytes.{Consumes, IsAtEnd}
use Rattle.std.proofs.lemmas.Option.{same_Some}
use Rattle.disk_core.specs.declared.disk.Disk as disks
use Rattle.meter_journal.specs.History.{header}
use Rattle.meter_journal.specs.declared.fault.OpenFault.{OpenFault}
use Rattle.meter_journal.specs.declared.fault.OpenFault.TheVariants as openings
use Rattle.meter_journal.proofs.Unique.{entries_unique}
use Rattle.rules_core.specs.Configurations.{Configuration}
use Rattle.rules_json.specs.Reading.{rules_of}
use Rattle.rules_json.specs.declared.fault.RulesFault.{RulesFault}
use Rattle.office_types.specs.declared.command.Entry.{Entry}
use Rattle.office_types.specs.declared.reply.Reply.{Reply}
use Rattle.office_types.specs.declared.refusal.Refusal.{Refusal}
use Rattle.plain_office.specs.Office.{Office}
use Rattle.plain_office.specs.Step.{is_accepted}
use Rattle.command_line.specs.declared.line.ForecastAsked.{ForecastAsked}
use Rattle.desk_core.specs.declared.clock.Clock as clocks
use Rattle.desk_core.specs.Calls.{moment_after}
use Rattle.desk_core.specs.Histories.{HasAcceptedHistory, IsSound}
use Rattle.forecast.specs.Forecasts.{Proposal, proposed}
use Rattle.http_front.specs.declared.replies.Replies as sinks
use Rattle.http_front.specs.Counts.{GaveBytes, StreamEnds}
use Rattle.office_commands.specs.Lines.{fault_exit}
use Rattle.office_commands.specs.Running.{Surroundings, around}
use Rattle.office_commands.specs.Configuring.{most_configuration_bytes, IsWholeInput, IsTooLong, SaysRules}
use Rattle.office_commands.specs.declared.configuration.ConfigurationFault.{ConfigurationFault}
use Rattle.office_commands.specs.declared.configuration.ConfigurationFault.TheVariants as faults
use Rattle.office_commands.specs.Forecasting.{proposal, TellsAnswer, TellsProposal, TellsSaid, ForecastsAfter, ForecastsBucket, Forecasts, CanForecast}

-- ---- what the input says

whole_is : (stream left : Option (List ℕ)) (bytes read : List ℕ) → stream ≡ Some bytes → Consumes stream left read → IsAtEnd left → read ≡ bytes
whole_is None left bytes read is gave end = absurd cc
whole_is (Some xs) None bytes read is gave end = absurd gave
whole_is (Some xs) (Some ys) bytes read is gave end =
    sym (append-nil read) ∙ ap (λ (t : List ℕ). read ++ t) (sym end) ∙ sym gave ∙ same_Some xs bytes is

gave_few : (stream left : Option (List ℕ)) (bytes : List ℕ) (count : ℕ) → stream ≡ Some bytes → GaveBytes stream left count → count ≤ length bytes
gave_few None left bytes count is gave = absurd cc
gave_few (Some xs) None bytes count is gave = absurd gave.2
gave_few (Some xs) (Some ys) bytes count is gave =
    let long : length bytes ≡ length gave.0 + length ys = ap length (sym (same_Some xs bytes is) ∙ gave.2) ∙ length-append gave.0 ys in
    omega (arith, long, gave.1)

ok_not_err : {X E : Type 0} {x : X} {e : E} {r : Result X E} → r ≡ Ok x → r ≡ Err e → ⊥
ok_not_err is other = absurd cc

abbrev ok_or_else : {X E : Type 0} → X → Result X E → X
ok_or_else other (Ok one) = one
ok_or_else other (Err fault) = other

same_ok : {X E : Type 0} (x y : X) → ◌≡◌ {A = Result X E} (Ok x) (Ok y) → x ≡ y
same_ok x y is = ap (ok_or_else x) is

not_refused : (answer : Result Reply Refusal) (refusal : Refusal) → is_accepted answer ≡ true → answer ≡ Err refusal → ⊥
not_refused (Err fault) refusal accepted is = absurd cc
not_refused (Ok reply) refusal accepted is = absurd cc

-- ---- what is done

module _ (status : ℕ) where
  abbrev Foretold : Type 0
  Foretold = (status ≡ 0) ⊎ (status ≡ 6)

  module _ {W : Type 0} (w : sinks.Ghosts W) (old new : W) (three : status ≡ 3 → ⊥) (four : status ≡ 4 → ⊥) where
    proposal_done : (asked : Proposal) (office : Office) → asked.from ≤ asked.until → is_accepted (proposed asked office).1 ≡ true
        → TellsProposal w asked office old new status → Foretold
    proposal_done asked office in_time accepted (inl past) = absurd (omega (arith, in_time, past.0))
    proposal_done asked office in_time accepted (inr (inr out)) = inr out.status_is
    proposal_done asked office in_time accepted (inr (inl told)) =
        ⊎_elim
        (λ refused. absurd (not_refused (proposed asked office).1 refused.0 accepted refused.1))
        (λ foretold. ⊎_elim (λ all. inl all.0) (λ lost. absurd (four lost.0)) foretold.2) told.1

    module _ (history : List Entry) (asked : ForecastAsked) (bytes : List ℕ) (first : ℕ) (can : CanForecast history asked bytes first)
        (input : StreamEnds) (tells : input.stream ≡ Some bytes) where
      abbrev t : ℕ
      t = moment_after first can.office.last

      is_all : (read : List ℕ) → IsWholeInput input read → rules_of read ≡ Ok can.rules
      is_all read whole = ap rules_of (whole_is input.stream input.left bytes read tells whole.read whole.at_end) ∙ can.are_read

      said_done : (said : Result Configuration ConfigurationFault) → SaysRules input said → TellsSaid w asked t can.office said old new status → Foretold
      said_done (Ok rules) says told =
          let same : can.rules ≡ rules = same_ok {E = RulesFault} can.rules rules (sym (is_all says.0 says.1) ∙ says.2) in
          proposal_done (proposal asked rules t) can.office can.not_past
          (subst (λ (r : Configuration). is_accepted (proposed (proposal asked r t) can.office).1 ≡ true) same can.accepted) told
      said_done (Err faults.TooLong) says told =
          let few = gave_few input.stream input.left bytes says.0 tells says.2 in
          absurd (omega (arith, few, can.short, says.1))
      said_done (Err (faults.Refused fault)) says told = absurd (ok_not_err (is_all says.0 says.1) says.2)
      said_done (Err faults.ReadFault) says told = absurd (three told.0)
      said_done (Err faults.NoMemory) says told = inr told.status_is

      after_done : ForecastsAfter w history asked input first old new status → Foretold
      after_done after =
          let by = after.forecasts in
          said_done by.said by.says
          (subst (λ (p : Office). TellsSaid w asked (moment_after first p.last) p by.said old new status)
          (same_Some after.office can.office (sym after.is_run ∙ can.is_run)) by.told)

  module _ (two : status ≡ 2 → ⊥) (five : status ≡ 5 → ⊥) where
    fault_done : (fault : OpenFault) → status ≡ fault_exit fault → Foretold
    fault_done openings.StoreFault is = absurd (two is)
    fault_done openings.NotMade is = absurd (five is)
    fault_done openings.Foreign is = absurd (five is)
    fault_done (openings.Damaged at) is = absurd (five is)
    fault_done openings.NoMemory is = inr is

    module _ {D C W : Type 0} (d : disks.Ghosts D) (k : clocks.Ghosts C) (w : sinks.Ghosts W) (tells : IsTrue d.honest)
        (three : status ≡ 3 → ⊥) (four : status ≡ 4 → ⊥) (eight : status ≡ 8 → ⊥)
        (history : List Entry) (asked : ForecastAsked) (bytes : List ℕ) (input : StreamEnds) (left : input.stream ≡ Some bytes) where
      bucket_done : (first : ℕ) (old new : Surroundings D C W) → CanForecast history asked bytes first → IsSound (d.state old.disk) → HasAcceptedHistory history (d.state old.disk).journal.seen
          → ForecastsBucket d w asked input first old new status → Foretold
      bucket_done first old new can sound has f =
          let known = f.sound tells sound in
          let same : known.0 ≡ history = entries_unique header known.0 history (d.state old.disk).journal.seen known.1.entries has.entries in
          after_done w old.out new.out three four history asked bytes first can input left
          (subst (λ (h : List Entry). ForecastsAfter w h asked input first old.out new.out status) same known.2)

      pub forecast_done : {X : Type 0} {part_old part_new : X} (old new : Surroundings D C W) → CanForecast history asked bytes (k.last new.clock) → IsSound (d.state old.disk)
          → HasAcceptedHistory history (d.state old.disk).journal.seen → Forecasts d k w part_old part_new asked input old new status → Foretold
      forecast_done old new can sound has starts =
          ⊎_elim
          (λ does. ⊎_elim
          (λ (f : ForecastsBucket d w asked input starts.first (around old.disk starts.clock old.out) new status).
          bucket_done starts.first (around old.disk starts.clock old.out) new
          (subst (λ (n : ℕ). CanForecast history asked bytes n) (ap k.last f.clock ∙ starts.is_last) can) sound has f)
          (λ refused. fault_done refused.0.fault refused.0.refused.status_is) does.1)
          (λ ends. absurd (eight ends.1.status_is)) starts.does
