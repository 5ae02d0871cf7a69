use Rattle.std.proofs.Common.{◌≡◌, ◌≤◌, ◌+◌, ℕ, List, length, true, false, Option, Some, None, Ok, Err, ap, sym, subst, ◌∙◌, refl, arith}
use Rattle.std.specs.Prelude.{IfSome}
use Rattle.plain_office.specs.Office.{Office}
use Rattle.plain_office.specs.Run.{is_not_before}
use Rattle.plain_office.specs.Step.{is_accepted}
use Rattle.plain_office.specs.Once.{step_with, most_kept}
use Rattle.office_types.specs.declared.command.Command.{Command}
use Rattle.office_types.specs.declared.reply.Reply.{Reply}
use Rattle.kept_replies.specs.Queue.{ReplyQueue, kept_in, kept_of, with_kept}
use Rattle.office_machine.specs.Standing.{Records, StandsForOffice}
use Rattle.office_machine.specs.Once.{OfficeView, StandsFor, DoesOnce}
use Rattle.office_machine.proofs.Repeats.{once_done, once_refused, once_stands, accepted_more, accepted_one, ok_of}
use Rattle.office_machine.proofs.office.Office.apply_once.Goals as goal
use Rattle.office_machine.proofs.office.Office.apply_once.Goals.{then-is_accepted, else-is_accepted}

-- the queue with one more reply, and without one
more_kept : (t : ℕ) (reply : Reply) (token : List ℕ) (c : Command) (held old new : ReplyQueue) → held ≡ record old { held = Some (token, c) }
    → IfSome held.held (λ h. new.queue ≡ with_kept (kept_of t reply h) held.queue) → new.queue ≡ with_kept (kept_of t reply (token, c)) old.queue
more_kept t reply token c held old new is kept = subst (λ (q : ReplyQueue). IfSome q.held (λ h. new.queue ≡ with_kept (kept_of t reply h) q.queue)) is kept

let_gone : (held old new : ReplyQueue) (some : Option (List ℕ × Command)) → held ≡ record old { held = some } → new ≡ record held { held = None } → new ≡ record old { held = None }
let_gone held old new some is gone = gone ∙ ap (λ (q : ReplyQueue). record q { held = None }) is

-- the number of those kept stays within that of accepted commands
few_more : (held old new : ReplyQueue) (some : Option (List ℕ × Command)) (before after : ℕ) → held ≡ record old { held = some }
    → new.dropped + length new.queue ≡ held.dropped + length held.queue + 1 → old.dropped + length old.queue ≤ before + most_kept → after ≡ before + 1 → new.dropped + length new.queue ≤ after + most_kept
few_more held old new some before after is count few one =
    let same : held.dropped + length held.queue ≡ old.dropped + length old.queue = ap (λ (q : ReplyQueue). q.dropped + length q.queue) is in
    omega (arith, count, same, few, one)

few_same : (old new : ReplyQueue) (before after : ℕ) → new ≡ record old { held = None } → old.dropped + length old.queue ≤ before + most_kept → before ≤ after → new.dropped + length new.queue ≤ after + most_kept
few_same old new before after is few later =
    let same : new.dropped + length new.queue ≡ old.dropped + length old.queue = ap (λ (q : ReplyQueue). q.dropped + length q.queue) is in
    omega (arith, same, few, later)

later_of : (before : Records) (p : Office) (t : ℕ) → StandsForOffice before p → is_not_before before.last t ≡ true → is_not_before p.last t ≡ true
later_of before p t stands later = subst (λ (last : Option ℕ). is_not_before last t ≡ true) stands.last later

pub invariant_of-self-then-is_accepted : goal.invariant_of-self-then-is_accepted
invariant_of-self-then-is_accepted c =
    let i = c.self.inside in
    let p : Office = c.self.invariant.office in
    let stands = c.self.invariant.stands in
    let held = ok_of c.hold.result _ (sym c.is_err.ensures.value ∙ c.if-is_err.false) c.hold.ensures.ok in
    let made : is_accepted (Ok c.in-Ok.reply) ≡ true = sym c.is_accepted.ensures ∙ c.if-is_accepted.true in
    let new : kept_in c.args.token.now i.kept.queue ≡ None = ap (λ (v : OfficeView). kept_in c.args.token.now v.kept.queue) c.self.view_is ∙ c.requires.new in
    let later = later_of i.machine p c.args.t stands.records (ap (λ (v : OfficeView). is_not_before v.records.last c.args.t) c.self.view_is ∙ c.requires.later) in
    let queued = more_kept c.args.t c.in-Ok.reply c.args.token.now c.args.command.now c.hold.new.self i.kept c.keep.new.self held c.keep.ensures.queue in
    let done = once_done c.args.t c.args.token.now c.args.command.now p i.kept.queue stands.kept new c.apply.new.self c.keep.new.self c.in-Ok.reply
    stands.records.orderly later c.in-Ok.ensures.size c.requires.takes made queued (c.in-Ok.ensures.step p stands.records) in
    let now = once_stands _ p _ (Ok c.in-Ok.reply) done in
    let one = c.in-Ok.ensures.accepted ∙ accepted_one (Ok c.in-Ok.reply) i.machine.accepted made in
    record {
      office = now.0;
      stands = now.1;
      free = c.keep.ensures.free;
      few = few_more c.hold.new.self i.kept c.keep.new.self _ i.machine.accepted c.apply.new.self.accepted held c.keep.ensures.count c.self.invariant.few one;
    }

pub invariant_of-self-else-is_accepted : goal.invariant_of-self-else-is_accepted
invariant_of-self-else-is_accepted c =
    let i = c.self.inside in
    let p : Office = c.self.invariant.office in
    let stands = c.self.invariant.stands in
    let held = ok_of c.hold.result _ (sym c.is_err.ensures.value ∙ c.if-is_err.false) c.hold.ensures.ok in
    let unmade : is_accepted (Ok c.in-Ok.reply) ≡ false = sym c.is_accepted.ensures ∙ c.if-is_accepted.false in
    let new : kept_in c.args.token.now i.kept.queue ≡ None = ap (λ (v : OfficeView). kept_in c.args.token.now v.kept.queue) c.self.view_is ∙ c.requires.new in
    let gone = let_gone c.hold.new.self i.kept c.let_go.new.self _ held c.let_go.ensures in
    let done = once_refused c.args.t c.args.token.now c.args.command.now p i.kept.queue stands.kept new c.apply.new.self c.let_go.new.self (Ok c.in-Ok.reply)
    (ap (λ (q : ReplyQueue). q.queue) gone) unmade (c.in-Ok.ensures.step p stands.records) in
    let now = once_stands _ p _ (Ok c.in-Ok.reply) done in
    let more = subst (λ (n : ℕ). i.machine.accepted ≤ n) (sym c.in-Ok.ensures.accepted) (accepted_more (Ok c.in-Ok.reply) i.machine.accepted) in
    record {
      office = now.0;
      stands = now.1;
      free = ap (λ (q : ReplyQueue). q.held) gone;
      few = few_same i.kept c.let_go.new.self i.machine.accepted c.apply.new.self.accepted gone c.self.invariant.few more;
    }

pub invariant_of-self-in-Err : goal.invariant_of-self-in-Err
invariant_of-self-in-Err c =
    let i = c.self.inside in
    let p : Office = c.self.invariant.office in
    let stands = c.self.invariant.stands in
    let held = ok_of c.hold.result _ (sym c.is_err.ensures.value ∙ c.if-is_err.false) c.hold.ensures.ok in
    let new : kept_in c.args.token.now i.kept.queue ≡ None = ap (λ (v : OfficeView). kept_in c.args.token.now v.kept.queue) c.self.view_is ∙ c.requires.new in
    let gone = let_gone c.hold.new.self i.kept c.let_go-in-Err.new.self _ held c.let_go-in-Err.ensures in
    let done = once_refused c.args.t c.args.token.now c.args.command.now p i.kept.queue stands.kept new c.apply.new.self c.let_go-in-Err.new.self (Err c.in-Err.refusal)
    (ap (λ (q : ReplyQueue). q.queue) gone) refl (c.in-Err.ensures.step p stands.records) in
    let now = once_stands _ p _ (Err c.in-Err.refusal) done in
    let more = subst (λ (n : ℕ). i.machine.accepted ≤ n) (sym c.in-Err.ensures.accepted) (accepted_more (Err c.in-Err.refusal) i.machine.accepted) in
    record {
      office = now.0;
      stands = now.1;
      free = ap (λ (q : ReplyQueue). q.held) gone;
      few = few_same i.kept c.let_go-in-Err.new.self i.machine.accepted c.apply.new.self.accepted gone c.self.invariant.few more;
    }

pub returns-in-Err-clause-step : goal.returns-in-Err-clause-step
returns-in-Err-clause-step c = λ p stands.
    let i = c.self.inside in
    let stood = subst (λ (v : OfficeView). StandsFor v p) (sym c.self.view_is) stands in
    let held = ok_of c.hold.result _ (sym c.is_err.ensures.value ∙ c.if-is_err.false) c.hold.ensures.ok in
    let new : kept_in c.args.token.now i.kept.queue ≡ None = ap (λ (v : OfficeView). kept_in c.args.token.now v.kept.queue) c.self.view_is ∙ c.requires.new in
    let gone = let_gone c.hold.new.self i.kept c.let_go-in-Err.new.self _ held c.let_go-in-Err.ensures in
    once_refused c.args.t c.args.token.now c.args.command.now p i.kept.queue stood.kept new c.apply.new.self c.let_go-in-Err.new.self (Err c.in-Err.refusal)
    (ap (λ (q : ReplyQueue). q.queue) gone) refl (c.in-Err.ensures.step p stood.records)

pub returns-after-is_accepted-clause-step : goal.returns-after-is_accepted-clause-step
returns-after-is_accepted-clause-step c = λ p stands.
    let i = c.self.inside in
    let stood = subst (λ (v : OfficeView). StandsFor v p) (sym c.self.view_is) stands in
    let held = ok_of c.hold.result _ (sym c.is_err.ensures.value ∙ c.if-is_err.false) c.hold.ensures.ok in
    let new : kept_in c.args.token.now i.kept.queue ≡ None = ap (λ (v : OfficeView). kept_in c.args.token.now v.kept.queue) c.self.view_is ∙ c.requires.new in
    let later = later_of i.machine p c.args.t stood.records (ap (λ (v : OfficeView). is_not_before v.records.last c.args.t) c.self.view_is ∙ c.requires.later) in
    elim c.if-is_accepted.branch [
      | then-is_accepted w ↦ subst (λ (v : OfficeView). DoesOnce (step_with c.args.t (Some c.args.token.now) c.args.command.now p) p v (Ok c.in-Ok.reply)) (sym w.self-is)
          (once_done c.args.t c.args.token.now c.args.command.now p i.kept.queue stood.kept new c.apply.new.self w.keep.new.self c.in-Ok.reply
          stood.records.orderly later c.in-Ok.ensures.size c.requires.takes (sym c.is_accepted.ensures ∙ w.if-is_accepted.true)
          (more_kept c.args.t c.in-Ok.reply c.args.token.now c.args.command.now c.hold.new.self i.kept w.keep.new.self held w.keep.ensures.queue)
          (c.in-Ok.ensures.step p stood.records))
      | else-is_accepted w ↦ subst (λ (v : OfficeView). DoesOnce (step_with c.args.t (Some c.args.token.now) c.args.command.now p) p v (Ok c.in-Ok.reply)) (sym w.self-is)
          (once_refused c.args.t c.args.token.now c.args.command.now p i.kept.queue stood.kept new c.apply.new.self w.let_go.new.self (Ok c.in-Ok.reply)
          (ap (λ (q : ReplyQueue). q.queue) (let_gone c.hold.new.self i.kept w.let_go.new.self _ held w.let_go.ensures))
          (sym c.is_accepted.ensures ∙ w.if-is_accepted.false)
          (c.in-Ok.ensures.step p stood.records))
    ]
