use Rattle.std.proofs.Common.{◌≡◌, ℕ, ◌+◌, ◌<◌, List, sym, ap, subst, ◌∙◌, true}
use Rattle.std.specs.Prelude.{Result, Ok, Err}
use Rattle.std.specs.BTreeMap.{BTreeMap}
use Rattle.std.specs.List.{AllByRecursion}
use Rattle.plain_office.specs.Office.{Office}
use Rattle.plain_office.specs.Run.{is_not_before}
use Rattle.plain_office.specs.Step.{step}
use Rattle.office_types.specs.declared.reply.Reply.{Reply}
use Rattle.office_types.specs.declared.refusal.Refusal.{Refusal}
use Rattle.office_types.specs.declared.refusal.Refusal.TheVariants.{NoSuchBucket}
use Rattle.office_types.specs.Fits.{AnswerFits}
use Rattle.bucket_account.specs.Counting.{AccountRecord}
use Rattle.office_machine.specs.Standing.{Records, StandsForOffice, IsOfAnOffice, Does}
use Rattle.bucket_account.specs.Standing.{most_commands}
use Rattle.bucket_account.proofs.Handed.{err_of}
use Rattle.office_machine.proofs.Offices.{does_miss, does_done, does_nothing, nothing_of, does_refuse, refuses_fitly, for_account, for_counts, accepted_records, with_accounts, with_month, kept_on}
use Rattle.office_machine.proofs.Room.{IsRoomy, room_at, room_more, room_grown, room_kept, room_set}
use Rattle.office_machine.proofs.Seen.{seen, seen_later, seen_stands}
use Rattle.office_machine.proofs.machine.Machine.on_bucket.Goals as goal

pub returns-in_default-clause-step : goal.returns-in_default-clause-step
returns-in_default-clause-step c = λ p stands.
    let inside = seen c.self.view_is in
    let later : is_not_before inside.last c.args.t ≡ true = seen_later c.args.t c.self.view_is c.requires.later in
    let stood : StandsForOffice inside p = seen_stands c.self.view_is stands in
    let same : c.get_mut.follows.lender-at-none.entries ≡ inside.accounts = ap (λ (m : BTreeMap (List ℕ) AccountRecord). m.entries) c.get_mut.follows.holds-at-none in
    subst (λ (l : List (List ℕ × AccountRecord)). Does (step c.args.t c.args.command.now p) p (with_accounts inside l) (Err NoSuchBucket)) (sym same)
    (does_miss inside p stood c.args.name.now c.args.t later c.args.command.now c.requires.named (sym c.in_default.ensures.value))

pub apply-requires-clause-account : goal.apply-requires-clause-account
apply-requires-clause-account c =
    for_account _ c.self.invariant.office c.self.invariant.stands c.args.name.now c.args.t
    (seen_later c.args.t c.self.view_is c.requires.later) c.args.command.now c.requires.named c.in-Some.account.now (sym c.in-Some.ensures.value)

pub apply-requires-clause-room : goal.apply-requires-clause-room
apply-requires-clause-room c = (
  c.self.inside.accepted,
  subst (λ (r : Records). r.accepted < most_commands) (sym c.self.view_is) c.requires.few,
  room_at c.self.inside.accepted c.args.name.now c.in-Some.account.now c.self.inside.accounts.entries c.self.invariant.room (sym c.in-Some.ensures.value),
)

pub apply-requires-clause-counts : goal.apply-requires-clause-counts
apply-requires-clause-counts c =
    for_counts _ c.self.invariant.office c.self.invariant.stands c.args.name.now c.args.t
    (seen_later c.args.t c.self.view_is c.requires.later) c.args.command.now c.requires.named c.in-Some.account.now (sym c.in-Some.ensures.value)

pub invariant_of-self-in_err-done : goal.invariant_of-self-in_err-done
invariant_of-self-in_err-done c =
    let inside = seen c.self.view_is in
    let later : is_not_before inside.last c.args.t ≡ true = seen_later c.args.t c.self.view_is c.requires.later in
    let found = sym c.in-Some.ensures.value in
    let held : AccountRecord = c.in-Some.account.now in
    let written : AccountRecord = c.apply.new.self in
    let accounts : List (List ℕ × AccountRecord) = (c.get_mut.follows.lender c.apply.new.self).entries in
    let set = (c.get_mut.follows.holds c.apply.new.self).0 in
    let p : Office = c.self.invariant.office in
    kept_on (step c.args.t c.args.command.now p) p (with_accounts inside accounts) (Err c.in_err-done.field-0.0)
    (does_refuse inside p c.self.invariant.stands c.args.name.now c.args.t later c.args.command.now c.requires.named held found written accounts set c.in_err-done.field-0.0 c.in_err-done.ensures.done)
    (subst (AllByRecursion (IsRoomy inside.accepted)) (sym set)
    (room_set inside.accepted c.args.name.now written
    (room_kept inside.accepted held written
    (room_at inside.accepted c.args.name.now held inside.accounts c.self.invariant.room found)
    c.in_err-done.ensures.room_kept) inside.accounts c.self.invariant.room))

pub returns-in_err-done-clause-step : goal.returns-in_err-done-clause-step
returns-in_err-done-clause-step c = λ p stands.
    let inside = seen c.self.view_is in
    let later : is_not_before inside.last c.args.t ≡ true = seen_later c.args.t c.self.view_is c.requires.later in
    let stood : StandsForOffice inside p = seen_stands c.self.view_is stands in
    let found = sym c.in-Some.ensures.value in
    let held : AccountRecord = c.in-Some.account.now in
    let written : AccountRecord = c.apply.new.self in
    let accounts : List (List ℕ × AccountRecord) = (c.get_mut.follows.lender c.apply.new.self).entries in
    let set = (c.get_mut.follows.holds c.apply.new.self).0 in
    subst (λ (r : Result Reply Refusal). Does (step c.args.t c.args.command.now p) p (with_accounts inside accounts) r)
    (err_of c.from_residual.result c.in_err-done.field-0.0 c.from_residual.ensures.1)
    (does_refuse inside p stood c.args.name.now c.args.t later c.args.command.now c.requires.named held found written accounts set c.in_err-done.field-0.0 c.in_err-done.ensures.done)

pub returns-in_err-done-clause-fits : goal.returns-in_err-done-clause-fits
returns-in_err-done-clause-fits c =
    let inside = seen c.self.view_is in
    let later : is_not_before inside.last c.args.t ≡ true = seen_later c.args.t c.self.view_is c.requires.later in
    let found = sym c.in-Some.ensures.value in
    let held : AccountRecord = c.in-Some.account.now in
    let written : AccountRecord = c.apply.new.self in
    let accounts : List (List ℕ × AccountRecord) = (c.get_mut.follows.lender c.apply.new.self).entries in
    let set = (c.get_mut.follows.holds c.apply.new.self).0 in
    subst AnswerFits (err_of c.from_residual.result c.in_err-done.field-0.0 c.from_residual.ensures.1)
    (refuses_fitly inside c.self.invariant.office c.self.invariant.stands c.args.name.now c.args.t later
    c.args.command.now c.requires.named held found written accounts set c.in_err-done.field-0.0
    c.in_err-done.ensures.done)

pub invariant_of-self-then-not-is_accepted : goal.invariant_of-self-then-not-is_accepted
invariant_of-self-then-not-is_accepted c =
    let inside = seen c.self.view_is in
    let later : is_not_before inside.last c.args.t ≡ true = seen_later c.args.t c.self.view_is c.requires.later in
    let found = sym c.in-Some.ensures.value in
    let held : AccountRecord = c.in-Some.account.now in
    let written : AccountRecord = c.apply.new.self in
    let accounts : List (List ℕ × AccountRecord) = (c.get_mut.follows.lender c.apply.new.self).entries in
    let set = (c.get_mut.follows.holds c.apply.new.self).0 in
    let p : Office = c.self.invariant.office in
    let unaccepted = sym c.is_accepted.ensures ∙ c.if-not-is_accepted.true in
    kept_on (step c.args.t c.args.command.now p) p (with_accounts inside accounts) (Ok c.in_ok-done.done.reply)
    (does_nothing inside p c.self.invariant.stands c.args.name.now c.args.t later c.args.command.now c.requires.named
    held found written accounts set c.in_ok-done.done unaccepted c.in_ok-done.ensures.done)
    (subst (AllByRecursion (IsRoomy inside.accepted)) (sym set)
    (room_set inside.accepted c.args.name.now written
    (room_kept inside.accepted held written
    (room_at inside.accepted c.args.name.now held inside.accounts c.self.invariant.room found)
    (c.in_ok-done.ensures.nothing (nothing_of c.in_ok-done.done.reply unaccepted))) inside.accounts
    c.self.invariant.room))

pub returns-then-not-is_accepted-clause-step : goal.returns-then-not-is_accepted-clause-step
returns-then-not-is_accepted-clause-step c = λ p stands.
    let inside = seen c.self.view_is in
    let later : is_not_before inside.last c.args.t ≡ true = seen_later c.args.t c.self.view_is c.requires.later in
    let stood : StandsForOffice inside p = seen_stands c.self.view_is stands in
    let found = sym c.in-Some.ensures.value in
    let held : AccountRecord = c.in-Some.account.now in
    let written : AccountRecord = c.apply.new.self in
    let accounts : List (List ℕ × AccountRecord) = (c.get_mut.follows.lender c.apply.new.self).entries in
    let set = (c.get_mut.follows.holds c.apply.new.self).0 in
    let unaccepted = sym c.is_accepted.ensures ∙ c.if-not-is_accepted.true in
    does_nothing inside p stood c.args.name.now c.args.t later c.args.command.now c.requires.named held found written accounts set c.in_ok-done.done unaccepted c.in_ok-done.ensures.done

pub invariant_of-self-2 : goal.invariant_of-self-2
invariant_of-self-2 c =
    let inside = seen c.self.view_is in
    let later : is_not_before inside.last c.args.t ≡ true = seen_later c.args.t c.self.view_is c.requires.later in
    let found = sym c.in-Some.ensures.value in
    let held : AccountRecord = c.in-Some.account.now in
    let written : AccountRecord = c.apply.new.self in
    let accounts : List (List ℕ × AccountRecord) = (c.get_mut.follows.lender c.apply.new.self).entries in
    let set = (c.get_mut.follows.holds c.apply.new.self).0 in
    let p : Office = c.self.invariant.office in
    let accepts = sym c.is_accepted.ensures ∙ c.if-not-is_accepted.false in
    with_month c.args.t inside accounts c.in_ok-done.done.counts (inside.accepted + 1) c.first_of.result c.first_of.ensures IsOfAnOffice
    (kept_on (step c.args.t c.args.command.now p) p (accepted_records c.args.t inside accounts c.in_ok-done.done.counts (inside.accepted + 1)) (Ok c.in_ok-done.done.reply)
    (does_done inside p c.self.invariant.stands c.args.name.now c.args.t later c.args.command.now c.requires.named held
    found written accounts set c.in_ok-done.done (inside.accepted + 1) c.requires.size accepts
    c.in_ok-done.ensures.done)
    (subst (AllByRecursion (IsRoomy (inside.accepted + 1))) (sym set)
    (room_set (inside.accepted + 1) c.args.name.now written
    (room_grown inside.accepted held written (room_at inside.accepted c.args.name.now held inside.accounts c.self.invariant.room found) c.in_ok-done.ensures.room) inside.accounts
    (room_more inside.accepted inside.accounts c.self.invariant.room))))

pub returns-clause-step : goal.returns-clause-step
returns-clause-step c = λ p stands.
    let inside = seen c.self.view_is in
    let later : is_not_before inside.last c.args.t ≡ true = seen_later c.args.t c.self.view_is c.requires.later in
    let stood : StandsForOffice inside p = seen_stands c.self.view_is stands in
    let found = sym c.in-Some.ensures.value in
    let held : AccountRecord = c.in-Some.account.now in
    let written : AccountRecord = c.apply.new.self in
    let accounts : List (List ℕ × AccountRecord) = (c.get_mut.follows.lender c.apply.new.self).entries in
    let set = (c.get_mut.follows.holds c.apply.new.self).0 in
    let accepts = sym c.is_accepted.ensures ∙ c.if-not-is_accepted.false in
    with_month c.args.t inside accounts c.in_ok-done.done.counts (inside.accepted + 1) c.first_of.result c.first_of.ensures
    (λ (r : Records). Does (step c.args.t c.args.command.now p) p r (Ok c.in_ok-done.done.reply))
    (does_done inside p stood c.args.name.now c.args.t later c.args.command.now c.requires.named held found written
    accounts set c.in_ok-done.done (inside.accepted + 1) c.requires.size accepts c.in_ok-done.ensures.done)
