-- What a command with a token keeps, and what a token that was used before gives.
use Rattle.std.proofs.Common.{◌≡◌, ℕ, zero, suc, ◌-◌, List, [], ◌∷◌, ◌++◌, length, drop, refl, ap, sym, ◌∙◌, subst, Bool, true, false, cond, arith, Option, Some, None, Result, Ok, Err}
use Rattle.std.proofs.lemmas.List.{length-append, length-drop}
use Rattle.std.specs.Prelude.{is_some, nat_lt}
use Rattle.std.specs.Option.{ok_or}
use Rattle.std.specs.Str.{bytes_eq}
use Rattle.moments.specs.Months.{month_end}
use Rattle.office_base.specs.Maps.{at_name, with_name}
use Rattle.office_base.specs.Results.{◌>>=◌}
use Rattle.due_core.specs.declared.action.Action.{Action}
use Rattle.tariff.specs.Prices.{Prices}
use Rattle.plain_office.specs.Office.{Office, Account, KeptReply}
use Rattle.plain_office.specs.Once.{most_kept, with_reply, kept_at, kept_for, keeping, step_with}
use Rattle.plain_office.specs.Orderly.{TokensDiffer, AreKept, IsOrderly, SizeFits, closed_until}
use Rattle.plain_office.specs.Charges.{in_force, report_lines}
use Rattle.plain_office.specs.Counts.{count_of}
use Rattle.plain_office.specs.Run.{is_not_before}
use Rattle.plain_office.specs.Step.{Change, Outcome, refuse_if, unless_full, within_limits, on_bucket, create_bucket, month_to_close, due_before, unless_due, set_tariff, accepted, settled, outcome, step}
use Rattle.plain_office.specs.Step.{put_object, delete, set_versioning, set_rules, drop_rules, delete_version, set_tags, start_upload, put_part, complete, abort, act}
use Rattle.plain_office.proofs.Runs.{Token, step_new, step_kept}
use Rattle.office_types.specs.declared.command.Command.{Command}
use Rattle.office_types.specs.declared.command.Command.TheVariants as command
use Rattle.office_types.specs.declared.reply.Reply.{Reply}
use Rattle.office_types.specs.declared.reply.Reply.TheVariants as reply
use Rattle.office_types.specs.declared.refusal.Refusal.{Refusal}
use Rattle.office_types.specs.declared.refusal.Refusal.TheVariants.{NoSuchBucket, BucketExists, NoTariff}
use Rattle.office_types.specs.declared.refusal.What.{What}
use Rattle.office_types.specs.declared.refusal.What.TheVariants.{Buckets, Versions, Uploads, Parts, Names, Rules, Tariffs}
use Rattle.office_laws.specs.Commands.{IsElsewhere}
use Rattle.office_laws.proofs.Elsewhere.{step_leaves}
use Rattle.office_laws.proofs.Maps.{bytes_same, bytes_itself}
use Rattle.office_laws.proofs.Steps.{IsMade, Makes, StepKeeps, KeepsClosed, outcome_makes, nothing_done, closed_accepted, step_keeps}

-- ---- a step without a token keeps no reply and loses none

module _ (p : Office) where
  abbrev Leaves : Outcome → Type 0
  Leaves (Ok done) = done.0.kept ≡ p.kept
  Leaves (Err refusal) = Unit {0}

  unless_leaves : (o : Option What) (done : Office × Reply) → Leaves (Ok done) → Leaves (unless_full o done)
  unless_leaves None done k = k
  unless_leaves (Some what) done k = tt

  within_leaves : (whats : List What) (o : Outcome) → Leaves o → Leaves (within_limits whats o)
  within_leaves whats (Ok done) k = unless_leaves _ done k
  within_leaves whats (Err refusal) k = tt

  refuse_leaves : (b : Bool) (refusal : Refusal) (done : Office × Reply) → Leaves (Ok done) → Leaves (refuse_if b refusal done)
  refuse_leaves true refusal done k = tt
  refuse_leaves false refusal done k = k

  module _ (name : List ℕ) where
    done_leaves : (change : Change) → Leaves (change >>= λ done. Ok (record p { accounts = with_name name done.0 p.accounts }, done.1))
    done_leaves (Ok done) = refl
    done_leaves (Err refusal) = tt

    found_leaves : (change : Account → Change) (o : Option Account)
        → Leaves (ok_or o NoSuchBucket
        >>= λ account. change account
        >>= λ done. Ok (record p { accounts = with_name name done.0 p.accounts }, done.1))
    found_leaves change None = tt
    found_leaves change (Some account) = done_leaves (change account)

    bucket_leaves : (change : Account → Change) → Leaves (on_bucket name change p)
    bucket_leaves change = found_leaves change (at_name name p.accounts)

    create_leaves : (t : ℕ) → Leaves (create_bucket t name p)
    create_leaves t = refuse_leaves (is_some (at_name name p.accounts)) BucketExists _ refl

  due_leaves : (q : Office) (answer : Reply) → q.kept ≡ p.kept → (o : Option (List ℕ × Action)) → Leaves (unless_due o (q, answer))
  due_leaves q answer same None = same
  due_leaves q answer same (Some due) = tt

  tariff_leaves : (t month : ℕ) (o : Option Prices)
      → Leaves (ok_or o NoTariff >>= λ tariff. unless_due (due_before t (month_end month) p.accounts) (record p { closed = p.closed ++ (month, tariff) ∷ [] }, reply.Closed month))
  tariff_leaves t month None = tt
  tariff_leaves t month (Some tariff) = due_leaves _ (reply.Closed month) refl (due_before t (month_end month) p.accounts)

  err_or : (b : Bool) (refusal : Refusal) (o : Outcome) → Leaves o → Leaves (cond b (Err refusal) o)
  err_or true refusal o k = tt
  err_or false refusal o k = k

  outcome_leaves : (t : ℕ) (c : Command) → Leaves (outcome t c p)
  unfolding outcome
  outcome_leaves t (command.CreateBucket name) = within_leaves (Buckets ∷ []) _ (create_leaves name t)
  outcome_leaves t (command.SetVersioning name enabled) = bucket_leaves name (set_versioning t enabled)
  outcome_leaves t (command.SetRules name rules) = within_leaves (Rules ∷ []) _ (bucket_leaves name (set_rules t rules))
  outcome_leaves t (command.DropRules name) = bucket_leaves name (drop_rules t)
  outcome_leaves t (command.Put name key size class tags) = within_leaves (Versions ∷ Names ∷ []) _ (bucket_leaves name (put_object t key size class tags))
  outcome_leaves t (command.Delete name key) = within_leaves _ _ (bucket_leaves name (delete t key))
  outcome_leaves t (command.DeleteVersion name key id) = bucket_leaves name (delete_version t key id)
  outcome_leaves t (command.SetTags name key id tags) = within_leaves (Names ∷ []) _ (bucket_leaves name (set_tags t key id tags))
  outcome_leaves t (command.StartUpload name key class tags) = within_leaves (Uploads ∷ Names ∷ []) _ (bucket_leaves name (start_upload t key class tags))
  outcome_leaves t (command.PutPart name upload part size) = within_leaves (Parts ∷ []) _ (bucket_leaves name (put_part t upload part size))
  outcome_leaves t (command.Complete name upload) = within_leaves (Versions ∷ Names ∷ []) _ (bucket_leaves name (complete t upload))
  outcome_leaves t (command.Abort name upload) = bucket_leaves name (abort t upload)
  outcome_leaves t (command.Act name) = bucket_leaves name (act t)
  outcome_leaves t (command.SetTariff tariff) = within_leaves (Tariffs ∷ []) (set_tariff tariff p) refl
  outcome_leaves t (command.Close month) =
      err_or (nat_lt t (month_end month)) _ _ (err_or (nat_lt month (month_to_close t p)) _ _ (err_or (nat_lt (month_to_close t p) month) _ _ (tariff_leaves t month (in_force month p.tariffs))))

  reply_leaves : (t : ℕ) (after : Office) (answer : Reply) → after.kept ≡ p.kept → (settled t p (Ok (after, answer))).0.kept ≡ p.kept
  reply_leaves t after reply.NothingDue k = refl
  reply_leaves t after answer k = k

  settled_leaves : (t : ℕ) (o : Outcome) → Leaves o → (settled t p o).0.kept ≡ p.kept
  settled_leaves t (Ok done) k = reply_leaves t done.0 done.1 k
  settled_leaves t (Err refusal) k = refl

  pub step_leaves_kept : (t : ℕ) (c : Command) → (step t c p).0.kept ≡ p.kept
  unfolding step
  step_leaves_kept t c = settled_leaves t (outcome t c p) (outcome_leaves t c)

-- ---- the kept replies

-- one more at the end is found under its own token alone
found_more : (token : List ℕ) (one : KeptReply) (kept : List KeptReply) → kept_at token kept ≡ None → bytes_eq token one.token ≡ false → kept_at token (kept ++ one ∷ []) ≡ None
found_more token one [] none apart = rw apart refl
found_more token one (first ∷ kept) none apart = by (bytes_eq token first.token) refl none (found_more token one kept) where
  by : (b : Bool) → bytes_eq token first.token ≡ b → cond b (Some first) (kept_at token kept) ≡ None
      → (kept_at token kept ≡ None → bytes_eq token one.token ≡ false → kept_at token (kept ++ one ∷ []) ≡ None)
      → kept_at token (first ∷ kept ++ one ∷ []) ≡ None
  by true is h more = absurd cc
  by false is h more = rw is (more h apart)

-- what is not under a token has another one
apart_by : (a b : List ℕ) (t : Bool) → bytes_eq b a ≡ t → bytes_eq a b ≡ false → t ≡ false
apart_by a b true is apart = absurd (let same = bytes_same b a is in let itself = bytes_itself a in let e : bytes_eq a b ≡ true = subst (λ (x : List ℕ). bytes_eq a x ≡ true) (sym same) itself in cc)
apart_by a b false is apart = refl

differ_more : (one : KeptReply) (kept : List KeptReply) → TokensDiffer kept → kept_at one.token kept ≡ None → TokensDiffer (kept ++ one ∷ [])
differ_more one [] differ none = (refl, tt)
differ_more one (first ∷ kept) differ none = by (bytes_eq one.token first.token) refl none (differ_more one kept differ.1) where
  by : (b : Bool) → bytes_eq one.token first.token ≡ b → cond b (Some first) (kept_at one.token kept) ≡ None
      → (kept_at one.token kept ≡ None → TokensDiffer (kept ++ one ∷ []))
      → TokensDiffer (first ∷ kept ++ one ∷ [])
  by true is h more = absurd cc
  by false is h more = (
    found_more first.token one kept differ.0 (apart_by one.token first.token (bytes_eq first.token one.token) refl is),
    more h,
  )

differ_drop : (n : ℕ) (kept : List KeptReply) → TokensDiffer kept → TokensDiffer (drop n kept)
differ_drop zero kept differ = differ
differ_drop (suc n) [] differ = tt
differ_drop (suc n) (first ∷ kept) differ = differ_drop n kept differ.1

-- one more reply is kept
pub kept_more : (one : KeptReply) (kept : List KeptReply) → AreKept kept → kept_at one.token kept ≡ None → AreKept (with_reply one kept)
kept_more one kept are none = record {
  few = let more = length-append kept (one ∷ []) in let left = length-drop (length (kept ++ one ∷ []) - most_kept) (kept ++ one ∷ []) in omega (arith, more, left, are.few);
  differ = differ_drop (length (kept ++ one ∷ []) - most_kept) (kept ++ one ∷ []) (differ_more one kept are.differ none);
}

-- ---- a step with a token

-- the kept replies change nothing else
orderly_kept : (t : ℕ) (after : Office) (kept : List KeptReply) → IsOrderly (accepted t after) → AreKept kept → IsOrderly (record (accepted t after) { kept = kept })
unfolding count_of
orderly_kept t after kept h are = record {
  records = record {
    names = h.records.names;
    tariffs = h.records.tariffs;
    moments = record { first_month = h.records.moments.first_month; buckets = h.records.moments.buckets; closed = h.records.moments.closed };
    months = h.records.months;
    nothing_due_in_closed_months = h.records.nothing_due_in_closed_months;
    versions = h.records.versions;
    counts = h.records.counts;
  };
  stays = h.stays;
  booked = h.booked;
  kept = are;
}

closed_kept : (until : ℕ) (p q : Office) (kept : List KeptReply) → KeepsClosed until p q → KeepsClosed until p (record q { kept = kept })
unfolding report_lines
closed_kept until p q kept k = record { accounts = k.accounts; report = k.report; closed = k.closed }

module _ (t : ℕ) (p : Office) (h : IsOrderly p) (token : List ℕ) (c : Command) (none : kept_at token p.kept ≡ None) where
  replied : (after : Office) (answer : Reply) → after.kept ≡ p.kept → IsMade t p after → StepKeeps p (keeping (Some token) c (settled t p (Ok (after, answer)))).0
  replied after reply.NothingDue same k = nothing_done p h
  replied after answer same k =
      let one : KeptReply = record { token = token; command = c; reply = answer } in
      let are = kept_more one after.kept (subst AreKept (sym same) h.kept) (ap (kept_at token) same ∙ none) in
      record {
        orderly = orderly_kept t after (with_reply one after.kept) k.orderly are;
        closed = closed_kept (closed_until p) p (accepted t after) (with_reply one after.kept) (closed_accepted (closed_until p) t p after k.closed);
      }

  keeping_by : (o : Outcome) → Leaves p o → Makes t p o → StepKeeps p (keeping (Some token) c (settled t p o)).0
  keeping_by (Ok done) same k = replied done.0 done.1 same k
  keeping_by (Err refusal) same k = nothing_done p h

  keeping_keeps : is_not_before p.last t ≡ true → SizeFits c → StepKeeps p (keeping (Some token) c (step t c p)).0
  unfolding step
  keeping_keeps later fits = keeping_by (outcome t c p) (outcome_leaves p t c) (outcome_makes t p h later c fits)

pub with_keeps : (t : ℕ) (token : Token) (c : Command) (p : Office) → SizeFits c → IsOrderly p → is_not_before p.last t ≡ true → StepKeeps p (step_with t token c p).0
with_keeps t token c p fits h later = by token (kept_for token p) refl where
  by : (token : Token) (o : Option KeptReply) → kept_for token p ≡ o → StepKeeps p (step_with t token c p).0
  by token (Some kept) is = subst (λ (x : Office × Result Reply Refusal). StepKeeps p x.0) (sym (step_kept t token c p kept is)) (nothing_done p h)
  by None None is = subst (λ (x : Office × Result Reply Refusal). StepKeeps p x.0) (sym (step_new t None c p is)) (step_keeps t c p fits h later)
  by (Some token) None is = subst (λ (x : Office × Result Reply Refusal). StepKeeps p x.0) (sym (step_new t (Some token) c p is)) (keeping_keeps t p h token c is later fits)

pub with_orderly : (t : ℕ) (token : Token) (c : Command) (p : Office) → SizeFits c → IsOrderly p → is_not_before p.last t ≡ true → IsOrderly (step_with t token c p).0
with_orderly t token c p fits h later = (with_keeps t token c p fits h later).orderly

-- keeping a reply changes no bucket
pub keeping_accounts : (token : Token) (c : Command) (office : Office) (answer : Result Reply Refusal) → (keeping token c (office, answer)).0.accounts ≡ office.accounts
keeping_accounts None c office answer = refl
keeping_accounts (Some token) c office (Err refusal) = refl
keeping_accounts (Some token) c office (Ok reply.NothingDue) = refl
keeping_accounts (Some token) c office (Ok answer) = refl

-- a step with a token leaves the buckets, or does what one without does
pub with_accounts : (t : ℕ) (token : Token) (c : Command) (p : Office) → kept_for token p ≡ None → (step_with t token c p).0.accounts ≡ (step t c p).0.accounts
with_accounts t token c p new =
    ap (λ (x : Office × Result Reply Refusal). x.0.accounts) (step_new t token c p new) ∙ keeping_accounts token c (step t c p).0 (step t c p).1

pub with_leaves : (name : List ℕ) (p : Office) (t : ℕ) (token : Token) (c : Command) → IsElsewhere name c → at_name name (step_with t token c p).0.accounts ≡ at_name name p.accounts
with_leaves name p t token c elsewhere = by (kept_for token p) refl where
  by : (o : Option KeptReply) → kept_for token p ≡ o → at_name name (step_with t token c p).0.accounts ≡ at_name name p.accounts
  by (Some kept) is = ap (λ (x : Office × Result Reply Refusal). at_name name x.0.accounts) (step_kept t token c p kept is)
  by None is = ap (at_name name) (with_accounts t token c p is) ∙ step_leaves name p t c elsewhere
