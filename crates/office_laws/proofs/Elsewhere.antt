-- A command does not change any bucket that it does not name.
use Rattle.std.proofs.Common.{◌≡◌, ℕ, List, [], ◌∷◌, ◌++◌, refl, ap, sym, Bool, true, false, cond}
use Rattle.std.specs.Prelude.{Option, Some, None, Ok, Err, is_some, nat_lt}
use Rattle.std.specs.Option.{ok_or}
use Rattle.std.specs.Str.{bytes_eq}
use Rattle.moments.specs.Months.{month_end}
use Rattle.office_base.specs.Maps.{at_name, with_name}
use Rattle.office_base.specs.Results.{◌>>=◌}
use Rattle.due_core.specs.declared.action.Action.{Action}
use Rattle.plain_office.specs.Office.{Office, Account}
use Rattle.plain_office.specs.Charges.{in_force}
use Rattle.plain_office.specs.Counts.{first_full}
use Rattle.plain_office.specs.Step.{Change, Outcome, refuse_if, unless_full, within_limits, on_bucket, new_account, create_bucket, month_to_close, due_before, unless_due, set_tariff, settled, outcome, step}
use Rattle.plain_office.specs.Step.{put_object, delete, set_versioning, set_rules, drop_rules, delete_version, set_tags, start_upload, put_part, complete, abort, act}
use Rattle.tariff.specs.Prices.{Prices}
use Rattle.office_types.specs.declared.command.Command.{Command}
use Rattle.office_types.specs.declared.command.Command.TheVariants as command
use Rattle.office_types.specs.declared.reply.Reply.{Reply}
use Rattle.office_types.specs.declared.reply.Reply.TheVariants as reply
use Rattle.office_types.specs.declared.refusal.Refusal.{Refusal}
use Rattle.office_types.specs.declared.refusal.Refusal.TheVariants.{NoSuchBucket, BucketExists, NoTariff}
use Rattle.office_types.specs.declared.refusal.What.{What}
use Rattle.office_types.specs.declared.refusal.What.TheVariants.{Buckets, Versions, Uploads, Parts, Names, Rules, Tariffs}
use Rattle.office_laws.specs.Commands.{IsElsewhere}
use Rattle.office_laws.proofs.Maps.{by_name, other_names, bytes_same, at_other}

module _ (name : List ℕ) (p : Office) where
  abbrev Leaves : Outcome → Type 0
  Leaves (Ok done) = at_name name done.0.accounts ≡ at_name name p.accounts
  Leaves (Err refusal) = Unit {0}

  unless_leaves : (o : Option What) (done : Office × Reply) → Leaves (Ok done) → Leaves (unless_full o done)
  unless_leaves None done k = k
  unless_leaves (Some what) done k = tt

  within_leaves : (whats : List What) (o : Outcome) → Leaves o → Leaves (within_limits whats o)
  within_leaves whats (Ok done) k = unless_leaves (first_full whats done.0) done k
  within_leaves whats (Err refusal) k = tt

  refuse_leaves : (b : Bool) (refusal : Refusal) (done : Office × Reply) → Leaves (Ok done) → Leaves (refuse_if b refusal done)
  refuse_leaves true refusal done k = tt
  refuse_leaves false refusal done k = k

  -- another bucket
  module _ (other : List ℕ) (apart : bytes_eq name other ≡ false) where
    written : (account : Account) → at_name name (with_name other account p.accounts) ≡ at_name name p.accounts
    written account = at_other by_name other account name (other_names name other apart) p.accounts

    done_leaves : (change : Change) → Leaves (change >>= λ done. Ok (record p { accounts = with_name other done.0 p.accounts }, done.1))
    done_leaves (Ok done) = written done.0
    done_leaves (Err refusal) = tt

    found_leaves : (change : Account → Change) (o : Option Account)
        → Leaves (ok_or o NoSuchBucket
        >>= λ account. change account
        >>= λ done. Ok (record p { accounts = with_name other done.0 p.accounts }, done.1))
    found_leaves change None = tt
    found_leaves change (Some account) = done_leaves (change account)

    bucket_leaves : (change : Account → Change) → Leaves (on_bucket other change p)
    bucket_leaves change = found_leaves change (at_name other p.accounts)

    create_leaves : (t : ℕ) → Leaves (create_bucket t other p)
    create_leaves t = refuse_leaves (is_some (at_name other p.accounts)) BucketExists _ (written (new_account t))

  due_leaves : (q : Office) (answer : Reply) → q.accounts ≡ p.accounts → (o : Option (List ℕ × Action)) → Leaves (unless_due o (q, answer))
  due_leaves q answer same None = ap (at_name name) same
  due_leaves q answer same (Some due) = tt

  tariff_leaves : (t month : ℕ) (o : Option Prices)
      → Leaves (ok_or o NoTariff >>= λ tariff. unless_due (due_before t (month_end month) p.accounts) (record p { closed = p.closed ++ (month, tariff) ∷ [] }, reply.Closed month))
  tariff_leaves t month None = tt
  tariff_leaves t month (Some tariff) = due_leaves _ (reply.Closed month) refl (due_before t (month_end month) p.accounts)

  err_or : (b : Bool) (refusal : Refusal) (o : Outcome) → Leaves o → Leaves (cond b (Err refusal) o)
  err_or true refusal o k = tt
  err_or false refusal o k = k

  differs_by : (other : List ℕ) (b : Bool) → bytes_eq name other ≡ b → (Some other ≡ Some name → ⊥) → bytes_eq name other ≡ false
  differs_by other true is never = absurd (never (ap (λ (n : List ℕ). Some n) (sym (bytes_same name other is))))
  differs_by other false is never = is

  differs : (other : List ℕ) → (Some other ≡ Some name → ⊥) → bytes_eq name other ≡ false
  differs other never = differs_by other (bytes_eq name other) refl never

  outcome_leaves : (t : ℕ) (c : Command) → IsElsewhere name c → Leaves (outcome t c p)
  unfolding outcome
  outcome_leaves t (command.CreateBucket other) h = within_leaves (Buckets ∷ []) _ (create_leaves other (differs other h) t)
  outcome_leaves t (command.SetVersioning other enabled) h = bucket_leaves other (differs other h) (set_versioning t enabled)
  outcome_leaves t (command.SetRules other rules) h = within_leaves (Rules ∷ []) _ (bucket_leaves other (differs other h) (set_rules t rules))
  outcome_leaves t (command.DropRules other) h = bucket_leaves other (differs other h) (drop_rules t)
  outcome_leaves t (command.Put other key size class tags) h = within_leaves (Versions ∷ Names ∷ []) _ (bucket_leaves other (differs other h) (put_object t key size class tags))
  outcome_leaves t (command.Delete other key) h = within_leaves _ _ (bucket_leaves other (differs other h) (delete t key))
  outcome_leaves t (command.DeleteVersion other key id) h = bucket_leaves other (differs other h) (delete_version t key id)
  outcome_leaves t (command.SetTags other key id tags) h = within_leaves (Names ∷ []) _ (bucket_leaves other (differs other h) (set_tags t key id tags))
  outcome_leaves t (command.StartUpload other key class tags) h = within_leaves (Uploads ∷ Names ∷ []) _ (bucket_leaves other (differs other h) (start_upload t key class tags))
  outcome_leaves t (command.PutPart other upload part size) h = within_leaves (Parts ∷ []) _ (bucket_leaves other (differs other h) (put_part t upload part size))
  outcome_leaves t (command.Complete other upload) h = within_leaves (Versions ∷ Names ∷ []) _ (bucket_leaves other (differs other h) (complete t upload))
  outcome_leaves t (command.Abort other upload) h = bucket_leaves other (differs other h) (abort t upload)
  outcome_leaves t (command.Act other) h = bucket_leaves other (differs other h) (act t)
  outcome_leaves t (command.SetTariff tariff) h = within_leaves (Tariffs ∷ []) (set_tariff tariff p) refl
  outcome_leaves t (command.Close month) h =
      err_or (nat_lt t (month_end month)) _ _ (err_or (nat_lt month (month_to_close t p)) _ _ (err_or (nat_lt (month_to_close t p) month) _ _ (tariff_leaves t month (in_force month p.tariffs))))

  reply_leaves : (t : ℕ) (after : Office) (answer : Reply) → at_name name after.accounts ≡ at_name name p.accounts
      → at_name name (settled t p (Ok (after, answer))).0.accounts ≡ at_name name p.accounts
  reply_leaves t after reply.NothingDue k = refl
  reply_leaves t after answer k = k

  settled_leaves : (t : ℕ) (o : Outcome) → Leaves o → at_name name (settled t p o).0.accounts ≡ at_name name p.accounts
  settled_leaves t (Ok done) k = reply_leaves t done.0 done.1 k
  settled_leaves t (Err refusal) k = refl

  pub step_leaves : (t : ℕ) (c : Command) → IsElsewhere name c → at_name name (step t c p).0.accounts ≡ at_name name p.accounts
  unfolding step
  step_leaves t c h = settled_leaves t (outcome t c p) (outcome_leaves t c h)
