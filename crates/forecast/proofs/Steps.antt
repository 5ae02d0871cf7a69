-- What setting a configuration and an act make of the plain office.
use Rattle.std.proofs.Common.{◌≡◌, ◌⊎◌, inl, inr, ℕ, List, [], ◌∷◌, refl, ap, sym, ◌∙◌, subst, true, length}
use Rattle.std.specs.Prelude.{Option, Some, None, Ok, Err}
use Rattle.office_base.specs.Maps.{at_name}
use Rattle.due_core.specs.Choice.{choice}
use Rattle.due_core.specs.declared.action.Action.{Action}
use Rattle.plain_office.specs.Office.{Office, Account}
use Rattle.plain_office.specs.Changes.{effect}
use Rattle.plain_office.specs.Counts.{first_full, limit_of}
use Rattle.plain_office.specs.Once.{step_with}
use Rattle.plain_office.specs.Step.{step, act, accepted, is_accepted, with_rules, shown_action, marker_made}
use Rattle.office_types.specs.declared.command.Command.{Command}
use Rattle.office_types.specs.declared.command.Command.TheVariants as command
use Rattle.office_types.specs.declared.reply.Reply.{Reply}
use Rattle.office_types.specs.declared.reply.Reply.TheVariants.{RulesSet, NothingDue}
use Rattle.office_types.specs.declared.refusal.Refusal.{Refusal}
use Rattle.office_types.specs.declared.refusal.Refusal.TheVariants.{NoSuchBucket, Full, NoMemory}
use Rattle.office_types.specs.declared.refusal.What.{What}
use Rattle.office_types.specs.declared.refusal.What.TheVariants.{Rules}
use Rattle.plain_office.proofs.Runs.{Answer, done, refused, no_reply, step_plain}
use Rattle.office_machine.proofs.Steps.{placed, step_missing, step_full, step_done, step_nothing}
use Rattle.office_machine.specs.Once.{OfficeView, DoesOnce}
use Rattle.forecast.specs.Forecasts.{Proposal, proposed}
use Rattle.forecast.specs.Telling.{IsSet}

-- ---- the configuration is set

module _ (asked : Proposal) (p : Office) where
  abbrev pub set_account : Account → Account
  set_account account = with_rules asked.from (Some asked.rules) account

  abbrev pub set_office : Account → Office
  set_office account = accepted asked.from (placed asked.from p asked.bucket (set_account account))

  abbrev told : Reply
  told = RulesSet (length asked.rules.rules)

  -- the bucket was there, and the configuration was set
  pub record WasSet : Type 0 where
    pub account : Account
    pub is : proposed asked p ≡ (set_office account, Ok told)

  abbrev asks : Command
  asks = command.SetRules asked.bucket asked.rules

  plain : proposed asked p ≡ step asked.from asks p
  plain = step_plain asked.from asks p

  -- it was refused, or it was set
  abbrev Cases : Type 0
  Cases = ((refusal : Refusal) × (proposed asked p ≡ (p, Err refusal))) ⊎ WasSet

  by_counts : (account : Account) → at_name asked.bucket p.accounts ≡ Some account
      → (o : Option What) → first_full (Rules ∷ []) (placed asked.from p asked.bucket (set_account account)) ≡ o → Cases
  by_counts account there (Some what) full =
      inl (Full what (limit_of what), plain ∙ step_full asked.from p asked.bucket asks refl account there (set_account account) told what refl full)
  by_counts account there None free =
      inr (record { account = account; is = plain ∙ step_done asked.from p asked.bucket asks refl account there (set_account account) told refl free refl })

  by_account : (o : Option Account) → at_name asked.bucket p.accounts ≡ o → Cases
  by_account None none = inl (NoSuchBucket, plain ∙ step_missing asked.from p asked.bucket asks refl none)
  by_account (Some account) there = by_counts account there (first_full (Rules ∷ []) (placed asked.from p asked.bucket (set_account account))) refl

  cases : Cases
  cases = by_account (at_name asked.bucket p.accounts) refl

  pub was_set : is_accepted (proposed asked p).1 ≡ true → WasSet
  was_set accepts = by cases where
    by : Cases → WasSet
    by (inr was) = was
    by (inl refusal) = let wrong : is_accepted (refused refusal.0) ≡ true = subst (λ (x : Office × Answer). is_accepted x.1 ≡ true) refusal.1 accepts in absurd cc

  pub set_accepts : (reply : Reply) → (proposed asked p).1 ≡ Ok reply → is_accepted (proposed asked p).1 ≡ true
  set_accepts reply ok = by cases where
    by : Cases → is_accepted (proposed asked p).1 ≡ true
    by (inr was) = subst (λ (x : Office × Answer). is_accepted x.1 ≡ true) (sym was.is) refl
    by (inl refusal) = absurd (no_reply reply refusal.0 (sym ok ∙ ap (λ (x : Office × Answer). x.1) refusal.1))

-- an office in memory that was asked so under the same name
pub set_in : (asked : Proposal) (p : Office) (name : List ℕ) → name ≡ asked.bucket → (after : OfficeView) (result : Answer) (reply : Reply) → result ≡ done reply
    → DoesOnce (step_with asked.from None (command.SetRules name asked.rules) p) p after result → IsSet (proposed asked p) after
set_in asked p name same after result reply is does =
    by (subst (λ (n : List ℕ). DoesOnce (step_with asked.from None (command.SetRules n asked.rules) p) p after result) same does)
  where
    by : DoesOnce (proposed asked p) p after result → IsSet (proposed asked p) after
    by (inl told) = (set_accepts asked p reply (sym told.0 ∙ is), told.1)
    by (inr wanting) = absurd (no_reply reply NoMemory (sym is ∙ wanting.0))

-- ---- an act

module _ (t : ℕ) (name : List ℕ) (p : Office) (account : Account) (there : at_name name p.accounts ≡ Some account) where
  abbrev pub reply_to : Action → Reply
  reply_to action = shown_action action (marker_made action.kind account.bucket) account.bucket

  abbrev pub acted_office : Action → Office
  acted_office action = accepted t (placed t p name (effect action account))

  does_nothing : choice account.bucket t ≡ None → act t account ≡ Ok (account, NothingDue)
  does_nothing none = rw none refl

  does_action : (action : Action) → choice account.bucket t ≡ Some action → act t account ≡ Ok (effect action account, reply_to action)
  does_action action is = rw is refl

  -- nothing is done if there is no choice
  pub act_idle : choice account.bucket t ≡ None → step_with t None (command.Act name) p ≡ (p, Ok NothingDue)
  act_idle none = step_plain t (command.Act name) p ∙ step_nothing t p name (command.Act name) refl account there account (does_nothing none) refl

  -- the choice is done
  pub act_does : (action : Action) → choice account.bucket t ≡ Some action → step_with t None (command.Act name) p ≡ (acted_office action, Ok (reply_to action))
  act_does action is =
      step_plain t (command.Act name) p
      ∙ step_done t p name (command.Act name) refl account there (effect action account) (reply_to action) (does_action action is) refl refl
