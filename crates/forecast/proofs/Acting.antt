-- What the next act returns of what was still to be returned.
use Rattle.std.proofs.Common.{◌≡◌, inl, inr, ℕ, List, [], ◌∷◌, refl, ap, sym, ◌∙◌, subst, true, false, length, arith}
use Rattle.std.specs.Prelude.{Option, Some, None, Ok}
use Rattle.std.proofs.lemmas.Bool.{le-leb}
use Rattle.office_base.specs.Maps.{at_name}
use Rattle.due_core.specs.Buckets.{BucketRecord}
use Rattle.due_core.specs.Choice.{choice}
use Rattle.due_core.specs.declared.action.Action.{Action}
use Rattle.plain_office.specs.Office.{Office, Account}
use Rattle.plain_office.specs.Changes.{effect}
use Rattle.plain_office.specs.Once.{step_with}
use Rattle.plain_office.specs.Step.{is_accepted}
use Rattle.office_types.specs.declared.command.Command.{Command}
use Rattle.office_machine.specs.Standing.{accepted_after}
use Rattle.office_machine.proofs.Offices.{nothing_of}
use Rattle.office_machine.proofs.Repeats.{accepted_one}
use Rattle.plain_office.specs.Sweep.{IsSwept}
use Rattle.office_types.specs.declared.command.Command.TheVariants as command
use Rattle.office_types.specs.declared.reply.Reply.{Reply}
use Rattle.office_types.specs.declared.reply.Reply.TheVariants.{NothingDue}
use Rattle.office_types.specs.declared.refusal.Refusal.{Refusal}
use Rattle.plain_office.proofs.Runs.{Answer, done, refused, no_reply}
use Rattle.office_laws.proofs.Maps.{by_name, at_written}
use Rattle.bucket_account.specs.Counting.{AccountRecord}
use Rattle.office_machine.specs.Once.{OfficeView, StandsFor, DoesOnce}
use Rattle.office_machine.proofs.Accounts.{StandsForOption, stand_at}
use Rattle.forecast.specs.Forecasts.{Outlook, replies_of}
use Rattle.forecast.specs.Telling.{ForecastView, Foretells, IsUnderWay, IsDone}
use Rattle.forecast.proofs.Steps.{reply_to, acted_office, act_idle, act_does}

module _ (view : ForecastView) (outlook : Outlook) (is : Foretells view outlook) where
  abbrev pub expected : Office × Answer
  expected = step_with view.until None (command.Act view.bucket) is.office

  abbrev pub then : OfficeView → ForecastView
  then after = record view { office = after }

  abbrev pub left : List Reply → Outlook
  left rest = record outlook { replies = rest }

  -- the office in memory stands for what it stood for
  pub all_left : (after : OfficeView) → StandsFor after is.office → Foretells (then after) outlook
  all_left after stands = record {
    office = is.office;
    stands = stands;
    later = is.later;
    open_months = is.open_months;
    account = is.account;
    there = is.there;
    actions = is.actions;
    swept = is.swept;
    replies = is.replies;
    lines = is.lines;
  }

  is_idle : choice is.account.bucket view.until ≡ None → expected ≡ (is.office, Ok NothingDue)
  is_idle none = act_idle view.until view.bucket is.office is.account is.there none

  -- nothing is due if nothing is left
  pub nothing_left : (after : OfficeView) → DoesOnce expected is.office after (done NothingDue) → (outlook.replies ≡ []) × Foretells (then after) outlook
  nothing_left after (inr wanting) = let wants = wanting.0 in absurd cc
  nothing_left after (inl told) = by is.actions is.swept is.replies where
    by : (actions : List Action) → IsSwept view.until actions is.account outlook.end → outlook.replies ≡ replies_of actions is.account → (outlook.replies ≡ []) × Foretells (then after) outlook
    by [] swept replies = (replies, all_left after (subst (StandsFor after) (ap (λ (x : Office × Answer). x.0) (is_idle swept.0)) told.1))
    by (a ∷ rest) swept replies =
        let wrong : done NothingDue ≡ done (reply_to view.until view.bucket is.office is.account is.there a) =
        told.0 ∙ ap (λ (x : Office × Answer). x.1) (act_does view.until view.bucket is.office is.account is.there a swept.0) in absurd cc

  -- a reply that tells of an action is the next one
  abbrev pub TellsOne : OfficeView → Reply → Type 0
  TellsOne after reply = (rest : List Reply) × (outlook.replies ≡ reply ∷ rest) × Foretells (then after) (left rest)

  pub one_told : (after : OfficeView) (reply : Reply) → (reply ≡ NothingDue → ⊥) → DoesOnce expected is.office after (done reply) → TellsOne after reply
  one_told after reply other (inr wanting) = let wants = wanting.0 in absurd cc
  one_told after reply other (inl told) = by is.actions is.swept is.replies where
    by : (actions : List Action) → IsSwept view.until actions is.account outlook.end → outlook.replies ≡ replies_of actions is.account → TellsOne after reply
    by [] swept replies = absurd (let same : done reply ≡ done NothingDue = told.0 ∙ ap (λ (x : Office × Answer). x.1) (is_idle swept.0) in other cc)
    by (a ∷ rest) swept replies =
        let does = act_does view.until view.bucket is.office is.account is.there a swept.0 in
        let same : done reply ≡ done (reply_to view.until view.bucket is.office is.account is.there a) = told.0 ∙ ap (λ (x : Office × Answer). x.1) does in
        let same_reply : reply ≡ reply_to view.until view.bucket is.office is.account is.there a = cc in (
          replies_of rest (effect a is.account),
          replies ∙ ap (λ (r : Reply). r ∷ replies_of rest (effect a is.account)) (sym same_reply),
          record {
            office = acted_office view.until view.bucket is.office is.account is.there a;
            stands = subst (StandsFor after) (ap (λ (x : Office × Answer). x.0) does) told.1;
            later = le-leb view.until view.until (omega arith);
            open_months = is.open_months;
            account = effect a is.account;
            there = at_written by_name view.bucket (effect a is.account) is.office.accounts;
            actions = rest;
            swept = swept.1;
            replies = refl;
            lines = is.lines;
          },
        )

  -- for want of memory all is still left
  pub wanted : (after : OfficeView) (refusal : Refusal) → DoesOnce expected is.office after (refused refusal) → Foretells (then after) outlook
  wanted after refusal (inr wanting) = all_left after wanting.1
  wanted after refusal (inl told) = by is.actions is.swept where
    by : (actions : List Action) → IsSwept view.until actions is.account outlook.end → Foretells (then after) outlook
    by [] swept = absurd (no_reply NothingDue refusal (sym (told.0 ∙ ap (λ (x : Office × Answer). x.1) (is_idle swept.0))))
    by (a ∷ rest) swept =
        absurd (no_reply (reply_to view.until view.bucket is.office is.account is.there a) refusal (sym (told.0 ∙ ap (λ (x : Office × Answer). x.1) (act_does view.until view.bucket is.office is.account is.there a swept.0))))

-- ---- nothing is left to be told

-- the records of a bucket are the same in all offices that are stood for
module _ (name : List ℕ) (view : OfficeView) where
  both : (o : Option AccountRecord) (a b : Account) → StandsForOption o (Some a) → StandsForOption o (Some b) → a.bucket ≡ b.bucket
  both None a b h k = absurd h
  both (Some held) a b h k = sym h.bucket ∙ k.bucket

  same_bucket : (p q : Office) (a b : Account) → StandsFor view p → StandsFor view q → at_name name p.accounts ≡ Some a → at_name name q.accounts ≡ Some b → a.bucket ≡ b.bucket
  same_bucket p q a b h k there here =
      both (at_name name view.records.accounts) a b
      (subst (λ (o : Option Account). StandsForOption (at_name name view.records.accounts) o) there (stand_at name view.records.accounts p.accounts h.records.accounts))
      (subst (λ (o : Option Account). StandsForOption (at_name name view.records.accounts) o) here (stand_at name view.records.accounts q.accounts k.records.accounts))

pub none_due : (view : ForecastView) (outlook : Outlook) (is : Foretells view outlook) → outlook.replies ≡ [] → choice is.account.bucket view.until ≡ None
none_due view outlook is none = by is.actions is.swept is.replies where
  by : (actions : List Action) → IsSwept view.until actions is.account outlook.end → outlook.replies ≡ replies_of actions is.account → choice is.account.bucket view.until ≡ None
  by [] swept replies = swept.0
  by (a ∷ rest) swept replies = let wrong = sym none ∙ replies in absurd cc

pub is_done : (view : ForecastView) (outlook : Outlook) → Foretells view outlook → outlook.replies ≡ [] → IsDone view
is_done view outlook is none other told = by told.actions told.swept told.replies where
  nothing : choice told.account.bucket view.until ≡ None
  nothing =
      ap (λ (b : BucketRecord). choice b view.until) (same_bucket view.bucket view.office told.office is.office told.account is.account told.stands is.stands told.there is.there)
      ∙ none_due view outlook is none

  by : (actions : List Action) → IsSwept view.until actions told.account other.end → other.replies ≡ replies_of actions told.account → other.replies ≡ []
  by [] swept replies = replies
  by (a ∷ rest) swept replies = let wrong = sym nothing ∙ swept.0 in absurd cc

-- ---- what the office in memory gave

module _ (view : ForecastView) (is : IsUnderWay view) (asked : Command) (asks : asked ≡ command.Act view.bucket) (after : OfficeView) (result : Answer) (step : (p : Office) → StandsFor view.office p
    → DoesOnce (step_with view.until None asked p) p after result) (accepted : after.records.accepted ≡ accepted_after result view.office.records.accepted) where
  given : (outlook : Outlook) (told : Foretells view outlook) (answer : Answer) → result ≡ answer → DoesOnce (expected view outlook told) told.office after answer
  given outlook told answer same =
      subst (λ (r : Answer). DoesOnce (expected view outlook told) told.office after r) same
      (subst (λ (c : Command). DoesOnce (step_with view.until None c told.office) told.office after result) asks (step told.office told.stands))

  pub idle : (reply : Reply) → result ≡ done reply → is_accepted (done reply) ≡ false → (outlook : Outlook) → Foretells view outlook → (outlook.replies ≡ []) × Foretells (record view { office = after }) outlook
  idle reply same idles outlook told = nothing_left view outlook told after (given outlook told (done NothingDue) (same ∙ ap (λ (r : Reply). done r) (nothing_of reply idles)))

  pub idle_done : (reply : Reply) → result ≡ done reply → is_accepted (done reply) ≡ false → IsDone (record view { office = after })
  idle_done reply same idles =
      let nothing = idle reply same idles is.outlook is.foretells in is_done (record view { office = after }) is.outlook nothing.1 nothing.0

  pub idle_on : (reply : Reply) → result ≡ done reply → is_accepted (done reply) ≡ false → IsUnderWay (record view { office = after })
  idle_on reply same idles =
      let nothing = same ∙ ap (λ (r : Reply). done r) (nothing_of reply idles) in
      let room = is.room in
      let count = accepted ∙ ap (λ (r : Answer). accepted_after r view.office.records.accepted) nothing in
      record { outlook = is.outlook; foretells = (idle reply same idles is.outlook is.foretells).1; room = omega (arith, room, count) }

  no_nothing : (reply : Reply) → is_accepted (done reply) ≡ true → reply ≡ NothingDue → ⊥
  no_nothing reply accepts wrong = let never : is_accepted (done NothingDue) ≡ true = subst (λ (r : Reply). is_accepted (done r) ≡ true) wrong accepts in absurd cc

  pub tells : (reply : Reply) → result ≡ done reply → is_accepted (done reply) ≡ true → (outlook : Outlook) (told : Foretells view outlook) → TellsOne view outlook told after reply
  tells reply same accepts outlook told = one_told view outlook told after reply (no_nothing reply accepts) (given outlook told (done reply) same)

  pub tells_on : (reply : Reply) → result ≡ done reply → is_accepted (done reply) ≡ true → IsUnderWay (record view { office = after })
  tells_on reply same accepts =
      let next = tells reply same accepts is.outlook is.foretells in
      let room = is.room in
      let count = accepted ∙ ap (λ (r : Answer). accepted_after r view.office.records.accepted) same ∙ accepted_one (done reply) view.office.records.accepted accepts in
      let fewer = ap (λ (l : List Reply). length l) next.1 in
      record { outlook = left view is.outlook is.foretells next.0; foretells = next.2; room = omega (arith, room, count, fewer) }

  pub waits : (refusal : Refusal) → result ≡ refused refusal → (outlook : Outlook) → Foretells view outlook → Foretells (record view { office = after }) outlook
  waits refusal same outlook told = wanted view outlook told after refusal (given outlook told (refused refusal) same)

  pub waits_on : (refusal : Refusal) → result ≡ refused refusal → IsUnderWay (record view { office = after })
  waits_on refusal same =
      let room = is.room in
      let count = accepted ∙ ap (λ (r : Answer). accepted_after r view.office.records.accepted) same in
      record { outlook = is.outlook; foretells = waits refusal same is.outlook is.foretells; room = omega (arith, room, count) }
