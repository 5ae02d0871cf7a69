-- What a step leaves of the office before it.
use Rattle.std.proofs.Common.{◌≡◌, ◌⊎◌, inl, inr, ℕ, ◌≤◌, List, refl, ap, sym, ◌∙◌, subst, true, false}
use Rattle.std.proofs.lemmas.Option.{same_Some}
use Rattle.std.specs.Prelude.{Option, Some, None, Ok, Err, ◌↔◌}
use Rattle.office_base.specs.Maps.{at_name}
use Rattle.due_core.specs.Choice.{choice}
use Rattle.due_core.specs.declared.action.Action.{Action}
use Rattle.plain_office.specs.Office.{Office, Account}
use Rattle.plain_office.specs.Answers.{answer}
use Rattle.plain_office.specs.Orderly.{IsOrderly, SizeFits, closed_until}
use Rattle.plain_office.specs.Run.{is_not_before}
use Rattle.plain_office.specs.Once.{step_with}
use Rattle.plain_office.specs.Step.{step}
use Rattle.plain_office.specs.Sweep.{IsSwept}
use Rattle.office_types.specs.Tokens.{takes_token, MayCarry}
use Rattle.office_types.specs.declared.command.Command.{Command}
use Rattle.office_types.specs.declared.command.Command.TheVariants as command
use Rattle.office_types.specs.declared.command.Query.{Query}
use Rattle.office_types.specs.declared.command.Query.TheVariants as query
use Rattle.office_types.specs.declared.reply.Reply.TheVariants.{NothingDue}
use Rattle.office_types.specs.declared.refusal.Refusal.TheVariants.{NoSuchBucket, NoMemory}
use Rattle.office_laws.proofs.ClosedMonths.{some_is, month_over, meters_answer, report_answer}
use Rattle.office_laws.proofs.Once.{with_keeps, with_leaves}
use Rattle.office_laws.proofs.Ends.{office_sweeps, one_sweep}
use Rattle.office_laws.proofs.Steps.{KeepsClosed, closed_same, step_orderly}
use Rattle.office_laws.proofs.Sweeps.{acted, act_found, act_nothing, act_swept}
use Rattle.office_machine.specs.Once.{OfficeView, StandsFor, DoesOnce}
use Rattle.office_machine.specs.Lateness.{SweepEndsIn, LeavesLaterSweeps, HasEmptySweep, AsksClosedMonth, KeepsClosedMonths, Leaves}
use Rattle.plain_office.proofs.Runs.{Answer, step_plain}
use Rattle.office_machine.proofs.Steps.{step_missing}

-- ---- later sweeps

module _ (t u : ℕ) (le : t ≤ u) (name : List ℕ) (p : Office) where
  abbrev next : Office
  next = (step t (command.Act name) p).0

  -- of a bucket that is there
  module _ (account : Account) (there : at_name name p.accounts ≡ Some account) where
    abbrev made : Account
    made = acted account (choice account.bucket t)

    made_there : at_name name next.accounts ≡ Some made
    made_there = act_found t name p account there

    from_made : (actions : List Action) (end : Account) → IsSwept u actions made end → (all : List Action) × IsSwept u all account end
    from_made actions end swept = act_swept t u le account end (choice account.bucket t) refl actions swept

    sweeps_back : (end : Account) → SweepEndsIn name u next end → SweepEndsIn name u p end
    sweeps_back end h =
        let same : h.account ≡ made = same_Some h.account made (sym h.there ∙ made_there) in
        let all = from_made h.actions end (subst (λ (a : Account). IsSwept u h.actions a end) same h.swept) in
        record { account = account; there = there; actions = all.0; swept = all.1 }

    sweeps_on : IsOrderly next → (end : Account) → SweepEndsIn name u p end → SweepEndsIn name u next end
    sweeps_on orderly end h =
        let same : h.account ≡ account = same_Some h.account account (sym h.there ∙ there) in
        let s = office_sweeps u next name made orderly made_there in
        let all = from_made s.0 s.1 s.2 in
        let one = one_sweep u all.0 h.actions account s.1 end all.1 (subst (λ (a : Account). IsSwept u h.actions a end) same h.swept) in
        record { account = made; there = made_there; actions = s.0; swept = subst (IsSwept u s.0 made) one.1 s.2 }

  sweeps_by : IsOrderly next → (o : Option Account) → at_name name p.accounts ≡ o → (end : Account) → (SweepEndsIn name u next end) ↔ (SweepEndsIn name u p end)
  sweeps_by orderly None none end =
      let same : p ≡ next = sym (ap (λ (x : Office × Answer). x.0) (step_missing t p name (command.Act name) refl none)) in
      subst (λ (o : Office). (SweepEndsIn name u o end) ↔ (SweepEndsIn name u p end)) same ((λ h. h), (λ h. h))
  sweeps_by orderly (Some account) there end = ((λ h. sweeps_back account there end h), (λ h. sweeps_on account there orderly end h))

-- an act leaves the later sweeps of its bucket
pub act_leaves : (t : ℕ) (name : List ℕ) (p : Office) → IsOrderly p → is_not_before p.last t ≡ true → LeavesLaterSweeps name t p (step t (command.Act name) p).0
act_leaves t name p orderly later = λ u end le.
    sweeps_by t u le name p (step_orderly t (command.Act name) p tt orderly later) (at_name name p.accounts) refl end

-- ---- nothing is due

nothing_by : (t : ℕ) (name : List ℕ) (p : Office) → (step t (command.Act name) p).1 ≡ Ok NothingDue → (o : Option Account) → at_name name p.accounts ≡ o
    → ((step t (command.Act name) p).0 ≡ p) × HasEmptySweep name t p
nothing_by t name p told None none =
    let refused : (step t (command.Act name) p).1 ≡ Err NoSuchBucket = ap (λ (x : Office × Answer). x.1) (step_missing t p name (command.Act name) refl none) in
    absurd cc
nothing_by t name p told (Some account) there =
    let nothing = act_nothing t name p account there told in
    (nothing.1, record { account = account; there = there; swept = (nothing.0, refl) })

-- ---- closed months

pub months_kept : (p q : Office) → KeepsClosed (closed_until p) p q → KeepsClosedMonths p q
months_kept p q kept = record { closed = kept.closed; answers = by } where
  by : (asked : Query) (u v : ℕ) → AsksClosedMonth u v asked p → answer v asked q ≡ answer u asked p
  by (query.Meters name month) u v h =
      let found = some_is _ h.0.closed in
      let there = some_is _ h.1 in
      meters_answer p q kept month found.0 (month_over p month found.0 h.0.orderly found.1) found.1 u v h.0.over_now h.0.over_later name there.0 there.1
  by (query.Report month) u v h =
      let found = some_is _ h.closed in
      report_answer p q kept month found.0 (month_over p month found.0 h.orderly found.1) found.1 u v h.over_now h.over_later
  by other u v h = absurd h

-- if nothing is done
pub months_stay : (p : Office) → KeepsClosedMonths p p
months_stay p = months_kept p p (closed_same (closed_until p) p p refl refl)

-- ---- what a command leaves

-- if nothing is done
leaves_all : (t : ℕ) (asked : Command) (p : Office) → IsOrderly p → Leaves t asked p p
leaves_all t asked p orderly = record {
  orderly = orderly;
  late = λ name is u end le. ((λ h. h), (λ h. h));
  elsewhere = λ name elsewhere. refl;
  closed = months_stay p;
}

module _ (t : ℕ) (token : Option (List ℕ)) (asked : Command) (p : Office) (orderly : IsOrderly p) (later : is_not_before p.last t ≡ true) where
  -- an act carries no token
  act_plain : (name : List ℕ) → asked ≡ command.Act name → MayCarry token asked → step_with t token asked p ≡ step t (command.Act name) p
  act_plain name is carries = by token carries where
    by : (token : Option (List ℕ)) → MayCarry token asked → step_with t token asked p ≡ step t (command.Act name) p
    by None none = step_plain t asked p ∙ ap (λ (c : Command). step t c p) is
    by (Some token) takes = absurd (let none : takes_token asked ≡ false = ap takes_token is in cc)

  late_step : MayCarry token asked → (name : List ℕ) → asked ≡ command.Act name → LeavesLaterSweeps name t p (step_with t token asked p).0
  late_step carries name is =
      subst (λ (x : Office × Answer). LeavesLaterSweeps name t p x.0) (sym (act_plain name is carries)) (act_leaves t name p orderly later)

  leaves_step : SizeFits asked → MayCarry token asked → Leaves t asked p (step_with t token asked p).0
  leaves_step fits carries =
      let keeps = with_keeps t token asked p fits orderly later in
      record {
        orderly = keeps.orderly;
        late = late_step carries;
        elsewhere = λ name elsewhere. with_leaves name p t token asked elsewhere;
        closed = months_kept p (step_with t token asked p).0 keeps.closed;
      }

  module _ (carries : MayCarry token asked) (after : OfficeView) (result : Answer) where
    pub leaves_next : SizeFits asked → DoesOnce (step_with t token asked p) p after result → (q : Office) × StandsFor after q × Leaves t asked p q
    leaves_next fits (inl done) = ((step_with t token asked p).0, done.1, leaves_step fits carries)
    leaves_next fits (inr wanting) = (p, wanting.1, leaves_all t asked p orderly)

    pub nothing_next : (name : List ℕ) → asked ≡ command.Act name → result ≡ Ok NothingDue → DoesOnce (step_with t token asked p) p after result
        → StandsFor after p × HasEmptySweep name t p
    nothing_next name is told (inr wanting) = let wants = wanting.0 in absurd cc
    nothing_next name is told (inl done) =
        let plain = act_plain name is carries in
        let nothing = nothing_by t name p (sym (ap (λ (x : Office × Answer). x.1) plain) ∙ sym done.0 ∙ told) (at_name name p.accounts) refl in
        (subst (StandsFor after) (ap (λ (x : Office × Answer). x.0) plain ∙ nothing.0) done.1, nothing.1)

-- ---- a reply on a closed month

module _ (asked : Query) (t u : ℕ) (p : Office) (asks : AsksClosedMonth u t asked p) (result : Answer) where
  -- is the one at each moment
  pub closed_reply : (result ≡ answer t asked p) ⊎ (result ≡ Err NoMemory) → (result ≡ answer u asked p) ⊎ (result ≡ Err NoMemory)
  closed_reply (inl told) = inl (told ∙ (months_stay p).answers asked u t asks)
  closed_reply (inr wanting) = inr wanting
