-- What acts do to a bucket is part of its sweep at any later moment.
use Rattle.std.proofs.Common.{◌≡◌, ℕ, ◌≤◌, List, [], ◌∷◌, ◌++◌, refl, ap, sym, ◌∙◌, subst, inl, inr}
use Rattle.std.proofs.lemmas.Option.{same_Some}
use Rattle.std.specs.Prelude.{Option, Some, None, option_map, Result, Ok, ◌↔◌}
use Rattle.std.specs.List.{AllByRecursion}
use Rattle.office_base.specs.Maps.{at_name, with_name}
use Rattle.office_base.specs.Results.{◌>>=◌}
use Rattle.due_core.specs.Buckets.{BucketRecord}
use Rattle.due_core.specs.Candidates.{candidates}
use Rattle.due_core.specs.Choice.{choice, least, comes_before}
use Rattle.due_core.specs.declared.action.Candidate.{Candidate}
use Rattle.due_core.specs.declared.action.Action.{Action}
use Rattle.due_core.proofs.Later.{choice_stays}
use Rattle.plain_office.specs.Office.{Office, Account}
use Rattle.plain_office.specs.Changes.{effect}
use Rattle.plain_office.specs.Run.{accept, run_from}
use Rattle.plain_office.proofs.Runs.{accepted_was, step_new}
use Rattle.plain_office.specs.Step.{Change, Outcome, settled, outcome, step, shown_action, marker_made}
use Rattle.plain_office.specs.Sweep.{IsSwept}
use Rattle.office_types.specs.declared.command.Command.{Command}
use Rattle.office_types.specs.declared.command.Command.TheVariants as command
use Rattle.office_types.specs.declared.command.Entry.{Entry}
use Rattle.office_types.specs.declared.command.Query.TheVariants as query
use Rattle.office_types.specs.declared.reply.Reply.{Reply}
use Rattle.office_types.specs.declared.reply.Reply.TheVariants.{NothingDue}
use Rattle.office_types.specs.declared.refusal.Refusal.{Refusal}
use Rattle.plain_office.specs.Answers.{answer, due_shown}
use Rattle.office_laws.specs.Commands.{OnlyActs}
use Rattle.office_laws.proofs.Maps.{by_name, at_written}
use Rattle.office_laws.proofs.Elsewhere.{step_leaves}
use Rattle.office_laws.proofs.Once.{with_accounts}
use Rattle.office_laws.proofs.Runs.{none_from}

-- ---- sweeping twice

pub swept_twice : (t u : ℕ) → t ≤ u → (actions others : List Action) (before middle after : Account)
    → IsSwept t actions before middle → IsSwept u others middle after → IsSwept u (actions ++ others) before after
swept_twice t u le [] others before middle after h k = subst (λ (a : Account). IsSwept u others a after) h.1 k
swept_twice t u le (a ∷ actions) others before middle after h k =
    (choice_stays before.bucket t u a le h.0, swept_twice t u le actions others (effect a before) middle after h.1 k)

-- ---- one act

-- there is a choice where there is a candidate
least_none : (xs : List Candidate) → (option_map (λ (c : Candidate). c.action) (least comes_before xs) ≡ None) ↔ (xs ≡ [])
least_none [] = ((λ e. refl), (λ e. refl))
least_none (x ∷ xs) = ((λ e. absurd cc), (λ e. absurd cc))

choice_none : (bucket : BucketRecord) (t : ℕ) → (choice bucket t ≡ None) ↔ (candidates bucket t ≡ [])
unfolding choice
choice_none bucket t = least_none (candidates bucket t)

abbrev ok_reply : Reply → Result Reply Refusal
ok_reply reply = Ok reply

-- what `Act` makes of an account: nothing where nothing is due, else the choice is done
abbrev pub acted : Account → Option Action → Account
acted account None = account
acted account (Some action) = effect action account

act_of : Account → Option Action → Change
act_of account None = Ok (account, NothingDue)
act_of account (Some action) = Ok (effect action account, shown_action action (marker_made action.kind account.bucket) account.bucket)

module _ (t : ℕ) (name : List ℕ) (p : Office) where
  outcome_of : Change → Outcome
  outcome_of change = change >>= λ done. Ok (record p { accounts = with_name name done.0 p.accounts }, done.1)

  acted_by : (account : Account) → at_name name p.accounts ≡ Some account → (o : Option Action)
      → (at_name name (settled t p (outcome_of (act_of account o))).0.accounts ≡ Some (acted account o))
      × ((settled t p (outcome_of (act_of account o))).1 ≡ Ok NothingDue → o ≡ None)
      × (o ≡ None → (settled t p (outcome_of (act_of account o))).0 ≡ p)
  unfolding outcome_of act_of
  acted_by account is None = (is, (λ e. refl), (λ e. refl))
  acted_by account is (Some action) = (at_written by_name name (effect action account) p.accounts, (λ e. absurd cc), (λ e. absurd cc))

  outcome_found : (account : Account) → at_name name p.accounts ≡ Some account → outcome t (command.Act name) p ≡ outcome_of (act_of account (choice account.bucket t))
  unfolding outcome outcome_of act_of
  outcome_found account is = rw is refl

  pub act_found : (account : Account) → at_name name p.accounts ≡ Some account → at_name name (step t (command.Act name) p).0.accounts ≡ Some (acted account (choice account.bucket t))
  unfolding step
  act_found account is = rw (outcome_found account is) (acted_by account is (choice account.bucket t)).0

  -- nothing is due where the answer says so, and the office is as before
  pub act_nothing : (account : Account) → at_name name p.accounts ≡ Some account → (step t (command.Act name) p).1 ≡ Ok NothingDue
      → (choice account.bucket t ≡ None) × ((step t (command.Act name) p).0 ≡ p)
  unfolding step
  act_nothing account is answer =
      let parts = acted_by account is (choice account.bucket t) in
      let none = parts.1 (rw (outcome_found account is) at answer) in
      (none, rw (outcome_found account is) (parts.2 none))

  -- what is answered of the choice
  told_of : Account → Option Action → Result Reply Refusal
  told_of account None = Ok NothingDue
  told_of account (Some action) = Ok (shown_action action (marker_made action.kind account.bucket) account.bucket)

  told_by : (account : Account) (o : Option Action) → (settled t p (outcome_of (act_of account o))).1 ≡ told_of account o
  unfolding outcome_of act_of told_of
  told_by account None = refl
  told_by account (Some action) = refl

  act_told : (account : Account) → at_name name p.accounts ≡ Some account → (step t (command.Act name) p).1 ≡ told_of account (choice account.bucket t)
  unfolding step
  act_told account is = rw (outcome_found account is) (told_by account (choice account.bucket t))

  pub act_chosen : (account : Account) (action : Action) → at_name name p.accounts ≡ Some account → choice account.bucket t ≡ Some action
      → (at_name name (step t (command.Act name) p).0.accounts ≡ Some (effect action account))
      × ((step t (command.Act name) p).1 ≡ Ok (shown_action action (marker_made action.kind account.bucket) account.bucket))
  unfolding told_of
  act_chosen account action is chosen = (
    act_found account is ∙ ap (λ (o : Option Action). Some (acted account o)) chosen,
    act_told account is ∙ ap (told_of account) chosen,
  )

  told_nothing : (account : Account) (o : Option Action) → (told_of account o ≡ Ok NothingDue) ↔ (o ≡ None)
  unfolding told_of
  told_nothing account None = ((λ e. refl), (λ e. refl))
  told_nothing account (Some action) = ((λ e. absurd cc), (λ e. absurd cc))

  pub act_idle : (account : Account) → at_name name p.accounts ≡ Some account
      → ((step t (command.Act name) p).1 ≡ Ok NothingDue) ↔ (candidates account.bucket t ≡ [])
  act_idle account is =
      let told = told_nothing account (choice account.bucket t) in
      let none = choice_none account.bucket t in
      ((λ e. none.0 (told.0 (sym (act_told account is) ∙ e))), (λ e. act_told account is ∙ told.1 (none.1 e)))

  shown_nothing : (account : Account) (o : Option Action) → choice account.bucket t ≡ o → (due_shown t account.bucket ≡ NothingDue) ↔ (o ≡ None)
  shown_nothing account None is = ((λ e. refl), (λ e. rw is refl))
  shown_nothing account (Some action) is = ((λ e. let shown = rw is at e in absurd cc), (λ e. absurd cc))

  pub due_idle : (account : Account) → at_name name p.accounts ≡ Some account → (answer t (query.Due name) p ≡ Ok NothingDue) ↔ (candidates account.bucket t ≡ [])
  unfolding answer
  due_idle account is =
      let shown = shown_nothing account (choice account.bucket t) refl in
      let none = choice_none account.bucket t in
      rw is ((λ e. none.0 (shown.0 cc)), (λ e. ap (λ (reply : Reply). ok_reply reply) (shown.1 (none.1 e))))

-- sweeping what an act left is sweeping what it found
pub act_swept : (t u : ℕ) → t ≤ u → (account after : Account) (o : Option Action) → choice account.bucket t ≡ o → (others : List Action) → IsSwept u others (acted account o) after
    → (all : List Action) × IsSwept u all account after
act_swept t u le account after None is others h = (others, h)
act_swept t u le account after (Some action) is others h = (action ∷ others, (choice_stays account.bucket t u action le is, h))

-- ---- runs

accept_is : (p q : Office) (e : Entry) → accept p e ≡ Some q → (step e.moment e.command p).0.accounts ≡ q.accounts
accept_is p q e is =
    let was = accepted_was p q e is in
    sym (with_accounts e.moment e.token e.command p was.new)
    ∙ ap (λ (x : Office × Result Reply Refusal). x.0.accounts) (step_new e.moment e.token e.command p was.new ∙ was.is)

module _ (name : List ℕ) (u : ℕ) where
  -- the account after one entry, and what its sweep is
  abbrev SweptFrom : Account → Account → Type 0
  SweptFrom before after = (others : List Action) (end : Account) → IsSwept u others after end → (all : List Action) × IsSwept u all before end

  one_entry : (e : Entry) (p : Office) (before : Account) → OnlyActs name u e → at_name name p.accounts ≡ Some before
      → (after : Account) × (at_name name (step e.moment e.command p).0.accounts ≡ Some after) × SweptFrom before after
  one_entry e p before (inl elsewhere) is = (before, step_leaves name p e.moment e.command elsewhere ∙ is, λ others end k. (others, k))
  one_entry e p before (inr acts) is = (
    acted before (choice before.bucket e.moment),
    subst (λ (c : Command). at_name name (step e.moment c p).0.accounts ≡ Some (acted before (choice before.bucket e.moment))) (sym acts.0) (act_found e.moment name p before is),
    λ others end k. act_swept e.moment u acts.1 before end (choice before.bucket e.moment) refl others k,
  )

  -- after entries that do nothing but `Act` to the bucket, its sweep ends as before
  pub run_swept : (entries : List Entry) (p q : Office) (before after : Account) → AllByRecursion (OnlyActs name u) entries → run_from (Some p) entries ≡ Some q
      → at_name name p.accounts ≡ Some before → at_name name q.accounts ≡ Some after → SweptFrom before after
  run_swept [] p q before after only runs is there =
      let same : before ≡ after = same_Some before after (sym is ∙ ap (λ (o : Office). at_name name o.accounts) (same_Some p q runs) ∙ there) in
      subst (SweptFrom before) same (λ others end k. (others, k))
  run_swept (e ∷ entries) p q before after only runs is there =
      by (accept p e) refl runs (λ next middle. run_swept entries next q middle after only.1)
    where
      by : (o : Option Office) → accept p e ≡ o → run_from o entries ≡ Some q
          → ((next : Office) (middle : Account) → run_from (Some next) entries ≡ Some q → at_name name next.accounts ≡ Some middle → at_name name q.accounts ≡ Some after → SweptFrom middle after)
          → SweptFrom before after
      by None was runs more = absurd (none_from entries q runs)
      by (Some next) was runs more = λ others end k.
          let one = one_entry e p before only.0 is in
          let middle_there = ap (at_name name) (sym (accept_is p next e was)) ∙ one.1 in
          let rest = more next one.0 runs middle_there there others end k in
          one.2 rest.0 end rest.1
