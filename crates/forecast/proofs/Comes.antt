-- A forecast comes true, and there is only one.
use Rattle.std.proofs.Common.{◌≡◌, List, refl, ap, sym, ◌∙◌, subst}
use Rattle.std.proofs.lemmas.Option.{same_Some}
use Rattle.std.specs.Prelude.{Option, Some, None}
use Rattle.office_base.specs.Maps.{at_name}
use Rattle.due_core.specs.declared.action.Action.{Action}
use Rattle.office_types.specs.declared.command.Command.TheVariants as command
use Rattle.office_types.specs.declared.command.Entry.{Entry}
use Rattle.plain_office.specs.Office.{Office, Account, book_of}
use Rattle.plain_office.specs.Charges.{tariff_for}
use Rattle.plain_office.specs.Run.{accept, run_from}
use Rattle.plain_office.specs.Step.{step}
use Rattle.plain_office.specs.Sweep.{IsSwept}
use Rattle.plain_office.proofs.Runs.{Answer, accepted_was, step_new, step_plain}
use Rattle.office_laws.proofs.Ends.{one_sweep}
use Rattle.office_laws.proofs.Once.{with_accounts}
use Rattle.office_laws.proofs.Runs.{none_from}
use Rattle.office_laws.proofs.Sweeps.{run_swept}
use Rattle.forecast.specs.Forecasts.{Proposal, Outlook, IsForecast, replies_of}
use Rattle.forecast.specs.Laws.{IsSameOutlook, setting, ActsChangeNoForecast}
use Rattle.forecast.specs.Lines.{book_lines}

accept_is : (p q : Office) (e : Entry) → accept p e ≡ Some q → (step e.moment e.command p).0.accounts ≡ q.accounts
accept_is p q e is =
    let was = accepted_was p q e is in
    sym (with_accounts e.moment e.token e.command p was.new)
    ∙ ap (λ (x : Office × Answer). x.0.accounts) (step_new e.moment e.token e.command p was.new ∙ was.is)

pub comes_true : ActsChangeNoForecast
comes_true asked before after outlook end is left sweep = by (accept before (setting asked left.token)) refl left.runs where
  by : (o : Option Office) → accept before (setting asked left.token) ≡ o → run_from o left.later ≡ Some after → end ≡ outlook.end
  by None was runs = absurd (none_from left.later after runs)
  by (Some next) was runs =
      let same = accept_is before next (setting asked left.token) was in
      let plain = ap (λ (x : Office × Answer). at_name asked.bucket x.0.accounts) (step_plain asked.from (command.SetRules asked.bucket asked.rules) before) in
      let there : at_name asked.bucket next.accounts ≡ Some is.account = ap (at_name asked.bucket) (sym same) ∙ sym plain ∙ is.there in
      let all = run_swept asked.bucket asked.until left.later next after is.account sweep.account left.acts runs there sweep.there sweep.actions end sweep.swept in
      sym (one_sweep asked.until is.actions all.0 is.account outlook.end end is.swept all.1).1

pub one_forecast : (asked : Proposal) (office : Office) (one other : Outlook) → IsForecast asked office one → IsForecast asked office other → IsSameOutlook one other
one_forecast asked office one other is told =
    let account : told.account ≡ is.account = same_Some told.account is.account (sym told.there ∙ is.there) in
    let same = one_sweep asked.until is.actions told.actions is.account one.end other.end is.swept (subst (λ (a : Account). IsSwept asked.until told.actions a other.end) account told.swept) in
    record {
      replies = is.replies ∙ ap (λ (l : List Action). replies_of l is.account) same.0 ∙ ap (replies_of told.actions) (sym account) ∙ sym told.replies;
      end = same.1;
      lines = λ month.
          is.lines month ∙ ap (λ (a : Account). book_lines (tariff_for month office) month asked.until (book_of a.books)) same.1
          ∙ sym (told.lines month);
    }
