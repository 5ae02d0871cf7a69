use Rattle.std.proofs.Common.{◌≡◌, ◌∙◌, ℕ, List, true, false, refl, sym, subst, rules}
use Rattle.std.proofs.lemmas.Bool.{both_ways}
use Rattle.office_machine.specs.Once.{OfficeView, StandsFor}
use Rattle.office_commands.specs.Billing.{billing, EndsBilling}
use Rattle.office_commands.proofs.Billed.{may_be_posted, billed_closed, billed_open}
use Rattle.office_commands.proofs.billing.bill_by.Goals as goal

pub post_reply-status-requires-clause-of_month : goal.post_reply-status-requires-clause-of_month
post_reply-status-requires-clause-of_month g c =
    let office = c.requires.stands.0 in
    let stood = c.requires.stands.1 in
    let closed : c.closed.result ≡ true = search rules in
    let stands = subst (λ (v : OfficeView). StandsFor v office) (sym c.office.ensures.same) stood in
    may_be_posted c.args.told c.args.month office stood.records.orderly
    (sym (c.closed.ensures.exact office stands) ∙ closed) c.look-reply.result (c.look-reply.ensures.answered office stood)

pub returns-clause-bills : goal.returns-clause-bills
returns-clause-bills g c office stood =
    let closed : c.closed.result ≡ true = search rules in
    let stands = subst (λ (v : OfficeView). StandsFor v office) (sym c.office.ensures.same) stood in
    billed_closed c.args.told c.args.month office g.W.Replies g.K.BillKeeper
    (billing c.args.month c.args.keeper.now c.post_reply-status.new.keeper) refl c.args.out.now c.post_reply-status.new.out c.post_reply-status.result
    (sym (c.closed.ensures.exact office stands) ∙ closed) c.look-reply.result (c.look-reply.ensures.answered office stood) c.post_reply-status.ensures.posts

pub returns-then-not-closed-clause-bills : goal.returns-then-not-closed-clause-bills
returns-then-not-closed-clause-bills g c office stood =
    let unclosed : c.closed.result ≡ false = search rules in
    let stands = subst (λ (v : OfficeView). StandsFor v office) (sym c.office.ensures.same) stood in
    billed_open c.args.told c.args.month office g.W.Replies g.K.BillKeeper
    (billing c.args.month c.args.keeper.now c.args.keeper.now) refl c.args.out.now c.end_billing.new.out c.end_billing.result
    (λ is. both_ways c.closed.result unclosed (c.closed.ensures.exact office stands ∙ is))
    (subst (λ (t : List ℕ). EndsBilling g.W.Replies 12 t c.args.out.now c.end_billing.new.out c.end_billing.result) c.open_month_line.ensures c.end_billing.ensures.ends)
    refl
