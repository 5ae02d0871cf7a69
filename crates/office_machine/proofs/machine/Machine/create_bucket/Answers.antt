use Rattle.std.proofs.Common.{◌≡◌, ℕ, ◌+◌, List, [], ◌∷◌, sym, ap, subst, ◌∙◌, true}
use Rattle.std.specs.Prelude.{Result, Ok, Err, Some, None}
use Rattle.std.specs.List.{AllByRecursion}
use Rattle.office_base.specs.Maps.{with_name}
use Rattle.plain_office.specs.Office.{Office}
use Rattle.plain_office.specs.Run.{is_not_before}
use Rattle.plain_office.specs.Step.{step, new_account}
use Rattle.office_types.specs.declared.command.Command.TheVariants as command
use Rattle.office_types.specs.declared.reply.Reply.{Reply}
use Rattle.office_types.specs.declared.reply.Reply.TheVariants.{BucketMade}
use Rattle.office_types.specs.declared.refusal.Refusal.{Refusal}
use Rattle.office_types.specs.declared.refusal.Refusal.TheVariants.{BucketExists}
use Rattle.office_types.specs.declared.refusal.What.{What}
use Rattle.office_types.specs.declared.refusal.What.TheVariants.{Buckets}
use Rattle.bucket_account.specs.declared.counts.Counts.{Counts}
use Rattle.bucket_account.specs.Counting.{amount, in_bucket, first_over}
use Rattle.office_machine.specs.Standing.{Records, StandsForOffice, IsOfAnOffice, Does}
use Rattle.bucket_account.proofs.Handed.{err_of}
use Rattle.office_machine.proofs.Offices.{does_exist, does_fill, does_make, one_more, accepted_records, with_month, kept_on}
use Rattle.office_machine.proofs.Room.{IsRoomy, room_more, room_with}
use Rattle.office_machine.proofs.Seen.{seen, seen_later, seen_stands}
use Rattle.office_machine.proofs.machine.Machine.create_bucket.Goals as goal

pub returns-then-contains_key-clause-step : goal.returns-then-contains_key-clause-step
returns-then-contains_key-clause-step c = λ p stands.
    subst (λ (r : Records). Does (step c.args.t (command.CreateBucket c.args.name.now) p) p r (Err BucketExists)) c.self.view_is
    (does_exist _ p (seen_stands c.self.view_is stands) c.args.name.now c.args.t
    (seen_later c.args.t c.self.view_is c.requires.later) (sym c.contains_key.ensures ∙ c.if-contains_key.true))

pub returns-in_err-counts-clause-step : goal.returns-in_err-counts-clause-step
returns-in_err-counts-clause-step c = λ p stands.
    let inside = seen c.self.view_is in
    let full = c.in_err-counts.ensures.full in
    let none = sym c.contains_key.ensures ∙ c.if-contains_key.false in
    let done =
    does_fill inside p (seen_stands c.self.view_is stands) c.args.name.now c.args.t
    (seen_later c.args.t c.self.view_is c.requires.later) none
    (record c.self.inside.counts { buckets = c.self.inside.counts.buckets + 1 }) (one_more c.self.inside.counts c.args.t) full.0 full.1 in
    subst (λ (r : Records). Does (step c.args.t (command.CreateBucket c.args.name.now) p) p r c.from_residual.result) c.self.view_is
    (subst (λ (r : Result Reply Refusal). Does (step c.args.t (command.CreateBucket c.args.name.now) p) p inside r)
    (ap (λ (e : Refusal). Err e) (sym full.2) ∙ err_of c.from_residual.result c.in_err-counts.field-0.0 c.from_residual.ensures.1) done)

pub invariant_of-self-2 : goal.invariant_of-self-2
invariant_of-self-2 c =
    let inside = seen c.self.view_is in
    let later : is_not_before inside.last c.args.t ≡ true = seen_later c.args.t c.self.view_is c.requires.later in
    let none = sym c.contains_key.ensures ∙ c.if-contains_key.false in
    let named : c.put.new.accounts.entries ≡ with_name c.args.name.now c.new.result inside.accounts =
    c.in_ok-put.ensures.put ∙ ap (λ (name : List ℕ). with_name name c.new.result inside.accounts) c.in_ok-kept.ensures.ok in
    let counted = c.in_ok-counts.ensures.ok in
    let counts : Counts = c.in_ok-counts.counts in
    let more = subst (λ (k : Counts). (what : What) → amount what k ≡ amount what inside.counts + in_bucket what (new_account c.args.t).bucket) (sym counted.0) (one_more inside.counts c.args.t) in
    let free : first_over (Buckets ∷ []) counts ≡ None = subst (λ (k : Counts). first_over (Buckets ∷ []) k ≡ None) (sym counted.0) counted.1 in
    let p : Office = c.self.invariant.office in
    let made =
    does_make inside p c.self.invariant.stands c.args.name.now c.args.t later none counts more free c.new.result c.new.ensures.stands c.put.new.accounts.entries named (inside.accepted + 1) in
    with_month c.args.t inside c.put.new.accounts.entries counts (inside.accepted + 1) c.first_of.result c.first_of.ensures IsOfAnOffice
    (kept_on (step c.args.t (command.CreateBucket c.args.name.now) p) p (accepted_records c.args.t inside c.put.new.accounts.entries counts (inside.accepted + 1)) (Ok (BucketMade c.args.name.now)) made
    (subst (AllByRecursion (IsRoomy (inside.accepted + 1))) (sym named)
    (room_with (inside.accepted + 1) c.args.name.now c.new.result (c.new.ensures.room (inside.accepted + 1)) inside.accounts (room_more inside.accepted inside.accounts c.self.invariant.room))))

pub returns-clause-step : goal.returns-clause-step
returns-clause-step c = λ p stands.
    let inside = seen c.self.view_is in
    let later : is_not_before inside.last c.args.t ≡ true = seen_later c.args.t c.self.view_is c.requires.later in
    let none = sym c.contains_key.ensures ∙ c.if-contains_key.false in
    let named : c.put.new.accounts.entries ≡ with_name c.args.name.now c.new.result inside.accounts =
    c.in_ok-put.ensures.put ∙ ap (λ (name : List ℕ). with_name name c.new.result inside.accounts) c.in_ok-kept.ensures.ok in
    let counted = c.in_ok-counts.ensures.ok in
    let counts : Counts = c.in_ok-counts.counts in
    let more = subst (λ (k : Counts). (what : What) → amount what k ≡ amount what inside.counts + in_bucket what (new_account c.args.t).bucket) (sym counted.0) (one_more inside.counts c.args.t) in
    let free : first_over (Buckets ∷ []) counts ≡ None = subst (λ (k : Counts). first_over (Buckets ∷ []) k ≡ None) (sym counted.0) counted.1 in
    let after : Records =
    record {
      last = Some c.args.t;
      tariffs = inside.tariffs;
      first_month = Some c.first_of.result;
      closed = inside.closed;
      accounts = c.put.new.accounts.entries;
      counts = counts;
      accepted = inside.accepted + 1;
    } in
    let stood : StandsForOffice inside p = seen_stands c.self.view_is stands in
    subst (λ (shown : List ℕ). Does (step c.args.t (command.CreateBucket c.args.name.now) p) p after (Ok (BucketMade shown))) (sym c.in_ok-shown.ensures.ok)
    (with_month c.args.t inside c.put.new.accounts.entries counts (inside.accepted + 1) c.first_of.result c.first_of.ensures
    (λ (r : Records). Does (step c.args.t (command.CreateBucket c.args.name.now) p) p r (Ok (BucketMade c.args.name.now)))
    (does_make inside p stood c.args.name.now c.args.t later none counts more free c.new.result c.new.ensures.stands c.put.new.accounts.entries named (inside.accepted + 1)))
