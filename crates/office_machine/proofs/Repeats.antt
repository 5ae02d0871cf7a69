-- What the office with its kept replies stands for after a command.
use Rattle.std.proofs.Common.{◌≡◌, ◌⊎◌, inl, inr, ℕ, zero, suc, ◌+◌, ◌-◌, ◌≤◌, List, [], ◌∷◌, ◌++◌, length, drop, refl, ap, sym, ◌∙◌, Bool, true, false, subst, arith, Option, Some, None, Result, Ok, Err}
use Rattle.std.proofs.lemmas.List.{map-append}
use Rattle.std.specs.Prelude.{option_map, cond, is_err, OnOk}
use Rattle.office_types.specs.Commands.{kind_of, same_command}
use Rattle.office_types.specs.Tokens.{takes_token}
use Rattle.office_types.specs.declared.command.Command.{Command}
use Rattle.office_types.specs.declared.kept.Kept.{Kept}
use Rattle.office_types.specs.declared.reply.Reply.{Reply}
use Rattle.office_types.specs.declared.reply.Reply.TheVariants.{NothingDue}
use Rattle.office_types.specs.declared.refusal.Refusal.{Refusal}
use Rattle.office_types.specs.declared.refusal.Refusal.TheVariants.{NoMemory, TokenReused}
use Rattle.office_types.specs.declared.refusal.What.{What}
use Rattle.office_types.specs.declared.refusal.What.TheVariants.{Buckets, Versions, Uploads, Parts, Names, Rules, Tariffs}
use Rattle.plain_office.specs.Office.{Office, KeptReply}
use Rattle.plain_office.specs.Counts.{count_of}
use Rattle.plain_office.specs.Once.{most_kept, with_reply, kept_at, keeping, recalled, step_with}
use Rattle.plain_office.specs.Orderly.{IsOrderly, SizeFits}
use Rattle.plain_office.specs.Run.{is_not_before}
use Rattle.plain_office.specs.Step.{step, is_accepted}
use Rattle.plain_office.proofs.Runs.{Answer, step_plain, step_new}
use Rattle.office_laws.proofs.Once.{step_leaves_kept, with_orderly}
use Rattle.office_laws.proofs.Told.{told_follows}
use Rattle.kept_replies.specs.Queue.{ReplyQueue, plain_reply, plain_replies, kept_in, kept_of, with_kept}
use Rattle.kept_replies.proofs.Indexes.{plain_found}
use Rattle.office_machine.specs.Standing.{Records, StandsForOffice, Does, accepted_after}
use Rattle.office_machine.specs.Once.{OfficeView, StandsFor, DoesOnce}

-- ---- what is kept changes nothing else

still_counted : (q : Office) (kept : List KeptReply) (what : What) → count_of what (record q { kept = kept }) ≡ count_of what q
unfolding count_of
still_counted q kept Buckets = refl
still_counted q kept Versions = refl
still_counted q kept Uploads = refl
still_counted q kept Parts = refl
still_counted q kept Names = refl
still_counted q kept Rules = refl
still_counted q kept Tariffs = refl

still_stands : (records : Records) (q : Office) (kept : List KeptReply) → StandsForOffice records q → IsOrderly (record q { kept = kept }) → StandsForOffice records (record q { kept = kept })
still_stands records q kept stands orderly = record {
  orderly = orderly;
  last = stands.last;
  tariffs = stands.tariffs;
  first_month = stands.first_month;
  closed = stands.closed;
  accounts = stands.accounts;
  counts = λ what. stands.counts what ∙ sym (still_counted q kept what);
}

plain_drop : (n : ℕ) (queue : List Kept) → plain_replies (drop n queue) ≡ drop n (plain_replies queue)
plain_drop zero queue = refl
plain_drop (suc n) [] = refl
plain_drop (suc n) (kept ∷ queue) = plain_drop n queue

plain_length : (queue : List Kept) → length (plain_replies queue) ≡ length queue
plain_length [] = refl
plain_length (kept ∷ queue) = let more = plain_length queue in omega (arith, more)

-- one more reply is kept on both sides
plain_more : (kept : Kept) (queue : List Kept) → plain_replies (with_kept kept queue) ≡ with_reply (plain_reply kept) (plain_replies queue)
plain_more kept queue =
    let more = map-append plain_reply queue (kept ∷ []) in
    let n : ℕ = length (queue ++ kept ∷ []) - most_kept in
    let same : length (plain_replies queue ++ plain_reply kept ∷ []) ≡ length (queue ++ kept ∷ []) = ap length (sym more) ∙ plain_length (queue ++ kept ∷ []) in
    plain_drop n (queue ++ kept ∷ []) ∙ ap (drop n) more ∙ ap (λ (m : ℕ). drop (m - most_kept) (plain_replies queue ++ plain_reply kept ∷ [])) (sym same)

-- ---- without a token

pub plain_done : (t : ℕ) (c : Command) (p : Office) (after : Records) (kept : ReplyQueue) (result : Answer) → plain_replies kept.queue ≡ p.kept → Does (step t c p) p after result
    → DoesOnce (step_with t None c p) p (record { records = after; kept = kept }) result
plain_done t c p after kept result same (inl done) =
    let is = step_plain t c p in
    inl (
      done.0 ∙ ap (λ (x : Office × Answer). x.1) (sym is),
      record {
        records = subst (StandsForOffice after) (ap (λ (x : Office × Answer). x.0) (sym is)) done.1;
        kept = same ∙ sym (step_leaves_kept p t c) ∙ ap (λ (x : Office × Answer). x.0.kept) (sym is);
      },
    )
plain_done t c p after kept result same (inr wanting) = inr (wanting.0, record { records = wanting.1; kept = same })

-- ---- with one

module _ (t : ℕ) (token : List ℕ) (c : Command) (p : Office) (queue : List Kept) (same : plain_replies queue ≡ p.kept) (new : kept_in token queue ≡ None) where
  none : kept_at token p.kept ≡ None
  none = ap (kept_at token) (sym same) ∙ plain_found token queue ∙ ap (option_map plain_reply) new

  -- a reply that is not accepted is not kept
  unkept : (office : Office) (answer : Answer) → is_accepted answer ≡ false → keeping (Some token) c (office, answer) ≡ (office, answer)
  unkept office (Err refusal) is = refl
  unkept office (Ok NothingDue) is = refl
  unkept office (Ok reply) is = absurd cc

  pub once_refused : (after : Records) (kept : ReplyQueue) (result : Answer) → kept.queue ≡ queue → is_accepted result ≡ false → Does (step t c p) p after result
      → DoesOnce (step_with t (Some token) c p) p (record { records = after; kept = kept }) result
  once_refused after kept result queued unmade (inl done) =
      let is = step_new t (Some token) c p none ∙ unkept (step t c p).0 (step t c p).1 (ap is_accepted (sym done.0) ∙ unmade) in
      inl (
        done.0 ∙ ap (λ (x : Office × Answer). x.1) (sym is),
        record {
          records = subst (StandsForOffice after) (ap (λ (x : Office × Answer). x.0) (sym is)) done.1;
          kept = ap plain_replies queued ∙ same ∙ sym (step_leaves_kept p t c) ∙ ap (λ (x : Office × Answer). x.0.kept) (sym is);
        },
      )
  once_refused after kept result queued unmade (inr wanting) = inr (wanting.0, record { records = wanting.1; kept = ap plain_replies queued ∙ same })

  -- an accepted one is
  kept_reply : (office : Office) (answer : Answer) (reply : Reply) → answer ≡ Ok reply → is_accepted (Ok reply) ≡ true
      → keeping (Some token) c (office, answer) ≡ (record office { kept = with_reply (record { token = token; command = c; reply = reply }) office.kept }, Ok reply)
  kept_reply office (Err refusal) reply is made = absurd cc
  kept_reply office (Ok NothingDue) reply is made = absurd (let e : is_accepted (Ok reply) ≡ false = ap is_accepted (sym is) in cc)
  kept_reply office (Ok answer) reply is made =
      let one : answer ≡ reply = cc in
      ap (λ (r : Reply). (record office { kept = with_reply (record { token = token; command = c; reply = r }) office.kept }, Ok r)) one

  pub once_done : (after : Records) (kept : ReplyQueue) (reply : Reply) → IsOrderly p → is_not_before p.last t ≡ true → SizeFits c → takes_token c ≡ true → is_accepted (Ok reply) ≡ true
      → kept.queue ≡ with_kept (kept_of t reply (token, c)) queue → Does (step t c p) p after (Ok reply)
      → DoesOnce (step_with t (Some token) c p) p (record { records = after; kept = kept }) (Ok reply)
  once_done after kept reply orderly later fits takes made queued (inr wanting) = absurd (let e : Ok reply ≡ Err NoMemory = wanting.0 in cc)
  once_done after kept reply orderly later fits takes made queued (inl done) =
      let one : KeptReply = record { token = token; command = c; reply = reply } in
      let is = step_new t (Some token) c p none ∙ kept_reply (step t c p).0 (step t c p).1 reply (sym done.0) made in
      let follows = told_follows t p orderly later c reply takes (sym done.0) in
      let plain_is : plain_reply (kept_of t reply (token, c)) ≡ one = ap (λ (r : Reply). record { token = token; command = c; reply = r }) follows in
      let replies : plain_replies kept.queue ≡ with_reply one (step t c p).0.kept =
      ap plain_replies queued ∙ plain_more (kept_of t reply (token, c)) queue
      ∙ ap (λ (k : KeptReply). with_reply k (plain_replies queue)) plain_is ∙ ap (with_reply one) (same ∙ sym (step_leaves_kept p t c)) in
      let whole = with_orderly t (Some token) c p fits orderly later in
      inl (
        ap (λ (x : Office × Answer). x.1) (sym is),
        record {
          records = subst (StandsForOffice after) (ap (λ (x : Office × Answer). x.0) (sym is))
              (still_stands after (step t c p).0 (with_reply one (step t c p).0.kept) done.1 (subst IsOrderly (ap (λ (x : Office × Answer). x.0) is) whole));
          kept = replies ∙ ap (λ (x : Office × Answer). x.0.kept) (sym is);
        },
      )

-- ---- what holds after a call

-- it stands for some office
pub once_stands : (expected : Office × Answer) (before : Office) (view : OfficeView) (result : Answer) → DoesOnce expected before view result → (q : Office) × StandsFor view q
once_stands expected before view result (inl done) = (expected.0, done.1)
once_stands expected before view result (inr wanting) = (before, wanting.1)

-- no call takes an accepted command back
pub accepted_more : (result : Answer) (count : ℕ) → count ≤ accepted_after result count
accepted_more result count = by (is_accepted result) where
  by : (b : Bool) → count ≤ cond b (count + 1) count
  by true = omega arith
  by false = omega arith

pub accepted_one : (result : Answer) (count : ℕ) → is_accepted result ≡ true → accepted_after result count ≡ count + 1
accepted_one result count made = ap (λ (b : Bool). cond b (count + 1) count) made

pub ok_of : {X E : Type 0} (r : Result X E) (P : Type 0) → is_err r ≡ false → OnOk r P → P
ok_of (Ok x) P ok h = h
ok_of (Err e) P ok h = absurd cc

-- what is not recalled is not kept
pub not_kept : (token : List ℕ) (c : Command) (queue : List Kept) (result : Result (Option Reply) Refusal)
    → (result ≡ recalled (kept_at token (plain_replies queue)) c) ⊎ (result ≡ Err NoMemory) → result ≡ Ok None → kept_in token queue ≡ None
not_kept token c queue result (inr wanting) is = absurd cc
not_kept token c queue result (inl told) is = by (kept_in token queue) refl where
  tested : (kept : KeptReply) (b : Bool) → same_command kept.command c ≡ b → recalled (Some kept) c ≡ Ok None → ⊥
  tested kept true same e = let told : Ok (Some kept.reply) ≡ Ok None = sym (rw same refl) ∙ e in absurd cc
  tested kept false same e = let told : Err (TokenReused (kind_of kept.command)) ≡ Ok None = sym (rw same refl) ∙ e in absurd cc

  by : (o : Option Kept) → kept_in token queue ≡ o → o ≡ None
  by None same = refl
  by (Some kept) same = absurd (tested (plain_reply kept) (same_command kept.command c) refl
      (ap (λ (o : Option KeptReply). recalled o c) (sym (plain_found token queue ∙ ap (option_map plain_reply) same)) ∙ sym told ∙ is))
