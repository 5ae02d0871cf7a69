-- What an accepted command did to the accounts of the office.
use Rattle.std.proofs.Common.{◌≡◌, ℕ, List, [], ◌∷◌, ◌++◌, refl, ap, sym, ◌∙◌, Bool, true, false, cond}
use Rattle.std.specs.Prelude.{Option, Some, None, Result, Ok, Err, is_some, nat_lt}
use Rattle.std.specs.Option.{ok_or}
use Rattle.moments.specs.Months.{month_end}
use Rattle.office_base.specs.Maps.{at_name, with_name}
use Rattle.office_base.specs.Results.{◌>>=◌}
use Rattle.tariff.specs.Prices.{Prices}
use Rattle.due_core.specs.declared.action.Action.{Action}
use Rattle.office_types.specs.declared.command.Command.{Command}
use Rattle.office_types.specs.declared.command.Command.TheVariants as command
use Rattle.office_types.specs.declared.reply.Reply.{Reply}
use Rattle.office_types.specs.declared.reply.Reply.TheVariants as reply
use Rattle.office_types.specs.declared.refusal.Refusal.{Refusal}
use Rattle.office_types.specs.declared.refusal.Refusal.TheVariants.{NoSuchBucket, BucketExists, NoTariff, Full, AlreadyClosed, MonthNotOver, EarlierMonthOpen}
use Rattle.office_types.specs.declared.refusal.What.{What}
use Rattle.office_types.specs.declared.refusal.What.TheVariants.{Buckets, Tariffs}
use Rattle.plain_office.specs.Charges.{in_force}
use Rattle.plain_office.specs.Office.{Office, Account}
use Rattle.plain_office.specs.Counts.{first_full, limit_of}
use Rattle.plain_office.specs.Step.{Outcome, settled, outcome, step, is_accepted, new_account, close, month_to_close, due_before, unless_due, unless_full, with_tariff}
use Rattle.plain_office.proofs.Runs.{Answer, done, refused}
use Rattle.bucket_account.specs.Changing.{change_of, limits_of, IsOnBucket}
use Rattle.office_machine.proofs.Offices.{nothing_of}
use Rattle.office_machine.proofs.Steps.{step_missing, step_refused, step_full, step_done, step_nothing, placed, made, create_exists, create_full, create_made}

-- ---- an accepted command

not_err : (x : Office × Answer) (p : Office) (said : Reply) (refusal : Refusal) → x ≡ (p, refused refusal) → done said ≡ x.1 → ⊥
not_err x p said refusal is told = let e : done said ≡ refused refusal = told ∙ ap (λ (y : Office × Answer). y.1) is in absurd cc

same_reply : (a b : Reply) → done a ≡ done b → a ≡ b
same_reply a b h = cc

not_nothing : (said : Reply) → is_accepted (done said) ≡ true → said ≡ reply.NothingDue → ⊥
not_nothing said accepts is = let e : is_accepted (done reply.NothingDue) ≡ true = ap (λ (r : Reply). is_accepted (done r)) (sym is) ∙ accepts in absurd cc

module _ (t : ℕ) (p : Office) (said : Reply) (accepts : is_accepted (done said) ≡ true) where
  -- what it did to the bucket that it names
  pub record Changes (name : List ℕ) (asked : Command) : Type 0 where
    pub before : Account
    pub after : Account
    pub reply_of : Reply
    pub there : at_name name p.accounts ≡ Some before
    pub change : change_of t asked before ≡ Ok (after, reply_of)
    pub accounts : (step t asked p).0.accounts ≡ with_name name after p.accounts

  module _ (name : List ℕ) (asked : Command) (on : IsOnBucket name asked) (told : done said ≡ (step t asked p).1) where
    module _ (before : Account) (there : at_name name p.accounts ≡ Some before) (after : Account) (reply_of : Reply) (change : change_of t asked before ≡ Ok (after, reply_of)) where
      by_accepted : (b : Bool) → is_accepted (done reply_of) ≡ b → first_full (limits_of asked before.bucket) (placed t p name after) ≡ None → Changes name asked
      by_accepted true is free = record {
        before = before;
        after = after;
        reply_of = reply_of;
        there = there;
        change = change;
        accounts = ap (λ (x : Office × Answer). x.0.accounts) (step_done t p name asked on before there after reply_of change free is);
      }
      by_accepted false is free =
          let nothing = nothing_of reply_of is in
          let idle = step_nothing t p name asked on before there after (change ∙ ap (λ (r : Reply). Ok (after, r)) nothing) free in
          absurd (not_nothing said accepts (same_reply said reply.NothingDue (told ∙ ap (λ (y : Office × Answer). y.1) idle)))

      by_full : (o : Option What) → first_full (limits_of asked before.bucket) (placed t p name after) ≡ o → Changes name asked
      by_full None is = by_accepted (is_accepted (done reply_of)) refl is
      by_full (Some what) is = absurd (not_err (step t asked p) p said (Full what (limit_of what)) (step_full t p name asked on before there after reply_of what change is) told)

    by_change : (before : Account) → at_name name p.accounts ≡ Some before → (r : Result (Account × Reply) Refusal) → change_of t asked before ≡ r → Changes name asked
    by_change before there (Ok done_so) is = by_full before there done_so.0 done_so.1 is (first_full (limits_of asked before.bucket) (placed t p name done_so.0)) refl
    by_change before there (Err refusal) is = absurd (not_err (step t asked p) p said refusal (step_refused t p name asked on before there refusal is) told)

    by_account : (o : Option Account) → at_name name p.accounts ≡ o → Changes name asked
    by_account (Some before) is = by_change before is (change_of t asked before) refl
    by_account None is = absurd (not_err (step t asked p) p said NoSuchBucket (step_missing t p name asked on is) told)

    pub changes : Changes name asked
    changes = by_account (at_name name p.accounts) refl

  -- a bucket is made
  module _ (name : List ℕ) (told : done said ≡ (step t (command.CreateBucket name) p).1) where
    made_by : (o : Option What) → first_full (Buckets ∷ []) (made t p name) ≡ o → is_some (at_name name p.accounts) ≡ false
        → (step t (command.CreateBucket name) p).0.accounts ≡ with_name name (new_account t) p.accounts
    made_by None is none = ap (λ (x : Office × Answer). x.0.accounts) (create_made t p name none is)
    made_by (Some what) is none = absurd (not_err (step t (command.CreateBucket name) p) p said (Full what (limit_of what)) (create_full t p name none what is) told)

    made_if : (b : Bool) → is_some (at_name name p.accounts) ≡ b → (step t (command.CreateBucket name) p).0.accounts ≡ with_name name (new_account t) p.accounts
    made_if true is = absurd (not_err (step t (command.CreateBucket name) p) p said BucketExists (create_exists t p name is) told)
    made_if false is = made_by (first_full (Buckets ∷ []) (made t p name)) refl is

    pub bucket_made : (step t (command.CreateBucket name) p).0.accounts ≡ with_name name (new_account t) p.accounts
    bucket_made = made_if (is_some (at_name name p.accounts)) refl

  -- a month is closed
  abbrev Keeps : Outcome → Type 0
  Keeps (Ok so) = so.0.accounts ≡ p.accounts
  Keeps (Err refusal) = Unit {0}

  settled_keeps : (o : Outcome) → Keeps o → (settled t p o).0.accounts ≡ p.accounts
  settled_keeps (Err refusal) h = refl
  settled_keeps (Ok (after, reply.NothingDue)) h = refl
  settled_keeps (Ok (after, other)) h = h

  refused_or : (a b c : Bool) (x y z : Refusal) (o : Outcome) → Keeps o → Keeps (cond a (Err x) (cond b (Err y) (cond c (Err z) o)))
  refused_or true b c x y z o h = tt
  refused_or false true c x y z o h = tt
  refused_or false false true x y z o h = tt
  refused_or false false false x y z o h = h

  due_keeps : (d : Option (List ℕ × Action)) (so : Office × Reply) → so.0.accounts ≡ p.accounts → Keeps (unless_due d so)
  due_keeps None so h = h
  due_keeps (Some action) so h = tt

  bound_keeps : {X : Type 0} (r : Result X Refusal) (f : X → Outcome) → ((x : X) → Keeps (f x)) → Keeps (r >>= f)
  bound_keeps (Ok x) f h = h x
  bound_keeps (Err refusal) f h = tt

  abbrev closing : ℕ → Prices → Outcome
  closing month tariff = unless_due (due_before t (month_end month) p.accounts) (record p { closed = p.closed ++ (month, tariff) ∷ [] }, reply.Closed month)

  closing_keeps : (month : ℕ) → Keeps (close t month p)
  closing_keeps month =
      refused_or (nat_lt t (month_end month)) (nat_lt month (month_to_close t p)) (nat_lt (month_to_close t p) month)
      (MonthNotOver (month_end month)) AlreadyClosed (EarlierMonthOpen (month_to_close t p))
      (ok_or (in_force month p.tariffs) NoTariff >>= closing month)
      (bound_keeps (ok_or (in_force month p.tariffs) NoTariff) (closing month) (λ tariff.
      due_keeps (due_before t (month_end month) p.accounts)
      (record p { closed = p.closed ++ (month, tariff) ∷ [] }, reply.Closed month) refl))

  full_keeps : (o : Option What) (so : Office × Reply) → so.0.accounts ≡ p.accounts → Keeps (unless_full o so)
  full_keeps None so h = h
  full_keeps (Some what) so h = tt

  -- a tariff is set
  pub tariff_keeps : (tariff : Prices) → (step t (command.SetTariff tariff) p).0.accounts ≡ p.accounts
  unfolding step outcome
  tariff_keeps tariff =
      let priced : Office = record p { tariffs = with_tariff tariff p.tariffs } in
      settled_keeps (unless_full (first_full (Tariffs ∷ []) priced) (priced, reply.TariffSet))
      (full_keeps (first_full (Tariffs ∷ []) priced) (priced, reply.TariffSet) refl)

  pub closed_keeps : (month : ℕ) → (step t (command.Close month) p).0.accounts ≡ p.accounts
  unfolding step outcome
  closed_keeps month = settled_keeps (close t month p) (closing_keeps month)
