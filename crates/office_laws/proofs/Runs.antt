-- What holds after a run of entries.
use Rattle.std.proofs.Common.{◌≡◌, ℕ, ◌≤◌, List, [], ◌∷◌, refl, ◌∙◌, ap, subst, true}
use Rattle.std.proofs.lemmas.Option.{same_Some}
use Rattle.std.specs.Prelude.{Option, Some, None, Result}
use Rattle.std.specs.List.{AllByRecursion}
use Rattle.moments.specs.Months.{month_end}
use Rattle.office_base.specs.Maps.{at_name, at_number}
use Rattle.plain_office.specs.Office.{Office, Account, empty_office}
use Rattle.plain_office.specs.Answers.{answer}
use Rattle.plain_office.specs.Orderly.{IsOrderly, closed_until, SizeFits}
use Rattle.plain_office.specs.Run.{is_not_before, accept, run_from, run}
use Rattle.plain_office.specs.Once.{step_with}
use Rattle.plain_office.proofs.Runs.{accepted_was, step_new}
use Rattle.tariff.specs.Prices.{Prices}
use Rattle.office_types.specs.declared.command.Entry.{Entry}
use Rattle.office_types.specs.declared.command.Query.TheVariants as query
use Rattle.office_types.specs.declared.reply.Reply.{Reply}
use Rattle.office_types.specs.declared.refusal.Refusal.{Refusal}
use Rattle.office_laws.proofs.Once.{with_orderly, with_keeps}
use Rattle.office_laws.proofs.Steps.{empty_orderly, closed_same}
use Rattle.office_laws.proofs.ClosedMonths.{month_over, meters_answer, report_answer}

accept_is : (p q : Office) (e : Entry) → accept p e ≡ Some q → (is_not_before p.last e.moment ≡ true) × ((step_with e.moment e.token e.command p).0 ≡ q)
accept_is p q e is =
    let was = accepted_was p q e is in
    (was.later, ap (λ (x : Office × Result Reply Refusal). x.0) (step_new e.moment e.token e.command p was.new ∙ was.is))

pub none_from : (entries : List Entry) (p : Office) → run_from None entries ≡ Some p → ⊥
none_from [] p h = absurd cc
none_from (e ∷ entries) p h = none_from entries p h

-- what each accepted entry keeps holds after the run
module _ (P : Office → Type 0) (keeps : (p : Office) (e : Entry) → SizeFits e.command → P p → is_not_before p.last e.moment ≡ true → P (step_with e.moment e.token e.command p).0) where
  pub run_keeps : (entries : List Entry) (p q : Office) → AllByRecursion (λ (e : Entry). SizeFits e.command) entries → P p → run_from (Some p) entries ≡ Some q → P q
  run_keeps [] p q fits h is = subst P (same_Some p q is) h
  run_keeps (e ∷ entries) p q fits h is = by (accept p e) refl is (λ next. run_keeps entries next q fits.1) where
    by : (o : Option Office) → accept p e ≡ o → run_from o entries ≡ Some q → ((next : Office) → P next → run_from (Some next) entries ≡ Some q → P q) → P q
    by None was runs more = absurd (none_from entries q runs)
    by (Some next) was runs more = let a = accept_is p next e was in more next (subst P a.1 (keeps p e fits.0 h a.0)) runs

pub run_orderly : (entries : List Entry) (p : Office) → AllByRecursion (λ (e : Entry). SizeFits e.command) entries → run entries ≡ Some p → IsOrderly p
unfolding run
run_orderly entries p fits is = run_keeps IsOrderly (λ p e small h later. with_orderly e.moment e.token e.command p small h later) entries empty_office p fits empty_orderly is

-- a month that was closed when the office was this one
module _ (first : Office) (month : ℕ) (tariff : Prices) (u v : ℕ) (le_u : month_end month ≤ u) (le_v : month_end month ≤ v) where
  pub record AnswersStay (q : Office) : Type 0 where
    pub orderly : IsOrderly q
    pub closed : at_number month q.closed ≡ Some tariff
    pub report : answer v (query.Report month) q ≡ answer u (query.Report month) first
    pub meters : (name : List ℕ) (account : Account) → at_name name first.accounts ≡ Some account
        → (after : Account) × (at_name name q.accounts ≡ Some after) × (answer v (query.Meters name month) q ≡ answer u (query.Meters name month) first)

  answers_kept : (p : Office) (e : Entry) → SizeFits e.command → AnswersStay p → is_not_before p.last e.moment ≡ true → AnswersStay (step_with e.moment e.token e.command p).0
  answers_kept p e fits h later =
      let after = with_keeps e.moment e.token e.command p fits h.orderly later in
      let over = month_over p month tariff h.orderly h.closed in
      record {
        orderly = after.orderly;
        closed = after.closed.closed month tariff h.closed;
        report = report_answer p (step_with e.moment e.token e.command p).0 after.closed month tariff over h.closed v v le_v le_v ∙ h.report;
        meters = λ name account is.
            let before = h.meters name account is in
            let there = after.closed.accounts name before.0 before.1 in
            (there.0, there.1, meters_answer p (step_with e.moment e.token e.command p).0 after.closed month tariff over h.closed v v le_v le_v name before.0 before.1 ∙ before.2);
      }

  begins : IsOrderly first → at_number month first.closed ≡ Some tariff → AnswersStay first
  begins h is =
      let same = closed_same (closed_until first) first first refl refl in
      let over = month_over first month tariff h is in
      record {
        orderly = h;
        closed = is;
        report = report_answer first first same month tariff over is u v le_u le_v;
        meters = λ name account there. (account, there, meters_answer first first same month tariff over is u v le_u le_v name account there);
      }

  pub answers_stay : (entries : List Entry) (q : Office) → AllByRecursion (λ (e : Entry). SizeFits e.command) entries
      → IsOrderly first → at_number month first.closed ≡ Some tariff → run_from (Some first) entries ≡ Some q
      → AnswersStay q
  answers_stay entries q fits h is runs = run_keeps AnswersStay answers_kept entries first q fits (begins h is) runs
