-- What is proposed and accepted has a forecast, and a forecast in memory begins with all of it.
use Rattle.std.proofs.Common.{◌≡◌, ℕ, ◌+◌, ◌^◌, ◌≤◌, List, [], ◌∷◌, refl, ap, sym, subst, true, length, arith}
use Rattle.std.specs.Prelude.{Option, Some, None}
use Rattle.std.proofs.lemmas.Bool.{le-leb}
use Rattle.moments.specs.Months.{month_end, IsInMonth}
use Rattle.moments.proofs.Calendar.{first_day_order}
use Rattle.office_base.specs.Maps.{at_name, at_number}
use Rattle.tariff.specs.Prices.{Prices}
use Rattle.due_core.specs.declared.action.Action.{Action}
use Rattle.plain_office.specs.Office.{Office, Account, book_of}
use Rattle.plain_office.specs.Changes.{effect}
use Rattle.plain_office.specs.Charges.{tariff_for}
use Rattle.plain_office.specs.Orderly.{IsOrderly}
use Rattle.plain_office.specs.Run.{is_not_before}
use Rattle.plain_office.specs.Step.{is_accepted}
use Rattle.office_types.specs.declared.command.Command.TheVariants as command
use Rattle.office_types.specs.declared.refusal.What.TheVariants.{Versions, Uploads}
use Rattle.plain_office.proofs.Runs.{Answer}
use Rattle.office_laws.specs.Bound.{most_actions, HasSweepWithin}
use Rattle.office_laws.proofs.ClosedMonths.{month_over}
use Rattle.office_laws.proofs.Ends.{office_sweeps}
use Rattle.office_laws.proofs.Maps.{by_name, at_written}
use Rattle.office_laws.proofs.Offices.{closed_now}
use Rattle.office_laws.proofs.Once.{with_orderly}
use Rattle.office_machine.specs.Once.{OfficeView, StandsFor}
use Rattle.office_machine.proofs.Sums.{counts_over}
use Rattle.forecast.specs.Forecasts.{Proposal, Outlook, IsForecast, proposed, replies_of}
use Rattle.forecast.specs.Lines.{book_lines}
use Rattle.forecast.specs.Telling.{ForecastView, Foretells, Begins, IsUnderWay, IsSet}
use Rattle.forecast.proofs.Steps.{set_account, set_office, WasSet, was_set}

-- as many replies as actions
pub replies_length : (actions : List Action) (account : Account) → length (replies_of actions account) ≡ length actions
replies_length [] account = refl
replies_length (a ∷ actions) account = let more = replies_length actions (effect a account) in omega (arith, more)

month_order : (first month : ℕ) → first ≤ month → month_end first ≤ month_end month
month_order first month le = let h = first_day_order (first + 1) (month + 1) (omega (arith, le)) in omega (arith, h)

module _ (asked : Proposal) (p : Office) (orderly : IsOrderly p) (later : is_not_before p.last asked.from ≡ true) (was : WasSet asked p) where
  abbrev pub next : Office
  next = set_office asked p was.account

  abbrev made : Account
  made = set_account asked p was.account

  next_is : (proposed asked p).0 ≡ next
  next_is = ap (λ (x : Office × Answer). x.0) was.is

  next_orderly : IsOrderly next
  next_orderly = subst IsOrderly next_is (with_orderly asked.from None (command.SetRules asked.bucket asked.rules) p tt orderly later)

  next_there : at_name asked.bucket next.accounts ≡ Some made
  next_there = at_written by_name asked.bucket made p.accounts

  pub sweep : HasSweepWithin asked.until made (most_actions made.bucket)
  sweep = office_sweeps asked.until next asked.bucket made next_orderly next_there

  abbrev pub outlook : Outlook
  outlook = record {
    replies = replies_of sweep.0 made;
    end = sweep.1;
    lines = λ month. book_lines (tariff_for month p) month asked.until (book_of sweep.1.books);
  }

  pub is_forecast : IsForecast asked p outlook
  is_forecast = record {
    accepted = subst (λ (x : Office × Answer). is_accepted x.1 ≡ true) (sym was.is) refl;
    account = made;
    there = subst (λ (x : Office × Answer). at_name asked.bucket x.0.accounts ≡ Some made) (sym was.is) next_there;
    actions = sweep.0;
    swept = sweep.2;
    replies = refl;
    lines = λ month. refl;
  }

  module _ (first : ℕ) (within : IsInMonth first asked.from) where
    not_closed : (month : ℕ) → first ≤ month → (o : Option Prices) → at_number month next.closed ≡ o → at_number month next.closed ≡ None
    not_closed month le None is = is
    not_closed month le (Some tariff) is =
        let over = month_over next month tariff next_orderly is in
        let last = closed_now asked.from next next_orderly (le-leb asked.from asked.from (omega arith)) in
        let order = month_order first month le in
        let inside = within.not_over in
        absurd (omega (arith, over, last, order, inside))

    module _ (until : asked.from ≤ asked.until) (view : OfficeView) (stands : StandsFor view next) where
      abbrev pub begun : ForecastView
      begun = record { office = view; bucket = asked.bucket; first = first; until = asked.until }

      pub foretells : Foretells begun outlook
      foretells = record {
        office = next;
        stands = stands;
        later = le-leb asked.from asked.until until;
        open_months = λ month le. not_closed month le (at_number month next.closed) refl;
        account = made;
        there = next_there;
        actions = sweep.0;
        swept = sweep.2;
        replies = refl;
        lines = λ month. refl;
      }

      pub begins : Begins asked p begun
      begins = (outlook, is_forecast, foretells)

      pub under_way : view.records.accepted ≤ 2 ^ 41 + 1 → IsUnderWay begun
      under_way few =
          let over = counts_over next view.records.counts asked.bucket made next_orderly.records stands.records.counts next_there in
          let versions = over Versions in
          let uploads = over Uploads in
          let actions = sweep.3 in
          let many = replies_length sweep.0 made in
          record { outlook = outlook; foretells = foretells; room = omega (arith, versions.0, versions.1, uploads.0, uploads.1, actions, many, few) }

-- ---- a copy in which the configuration was set

module _ (asked : Proposal) (office : OfficeView) (later : is_not_before office.records.last asked.from ≡ true) (after : OfficeView) (set : (p : Office) → StandsFor office p → IsSet (proposed asked p) after)
    (first : ℕ) (within : IsInMonth first asked.from) (until : asked.from ≤ asked.until) (name : List ℕ) (same : name ≡ asked.bucket) where
  later_plain : (p : Office) → StandsFor office p → is_not_before p.last asked.from ≡ true
  later_plain p stands = subst (λ (last : Option ℕ). is_not_before last asked.from ≡ true) stands.records.last later

  after_stands : (p : Office) (stands : StandsFor office p) (was : WasSet asked p) → StandsFor after (set_office asked p was.account)
  after_stands p stands was = subst (StandsFor after) (ap (λ (x : Office × Answer). x.0) was.is) (set p stands).1

  abbrev named : List ℕ → ForecastView
  named bucket = record { office = after; bucket = bucket; first = first; until = asked.until }

  pub begins_named : (p : Office) → StandsFor office p → Begins asked p (named name)
  begins_named p stands =
      let was = was_set asked p (set p stands).0 in
      subst (λ (n : List ℕ). Begins asked p (named n)) (sym same)
      (begins asked p stands.records.orderly (later_plain p stands) was first within until after (after_stands p stands was))

  pub named_under_way : (p : Office) → StandsFor office p → after.records.accepted ≤ 2 ^ 41 + 1 → IsUnderWay (named name)
  named_under_way p stands few =
      let was = was_set asked p (set p stands).0 in
      subst (λ (n : List ℕ). IsUnderWay (named n)) (sym same)
      (under_way asked p stands.records.orderly (later_plain p stands) was first within until after (after_stands p stands was) few)
