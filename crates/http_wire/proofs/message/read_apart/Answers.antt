use Rattle.std.proofs.Common.{◌≡◌, List, ℕ, ap, subst, sym, length, arith, rules, Ok, Err, Some}
use Rattle.std.proofs.lemmas.List.{with_items_is}
use Rattle.http_wire.specs.Answers.{Gave, Tells}
use Rattle.http_wire.specs.declared.message.Next.TheVariants.{Request}
use Rattle.http_wire.proofs.MessageLemmas.{apart_told, apart_short, apart_lacks, gap_told, long_unsettled}
use Rattle.http_wire.proofs.message.read_apart.Goals as goal

pub returns-in_default-clause-tells : goal.returns-in_default-clause-tells
returns-in_default-clause-tells g c =
    apart_lacks c.args.buffer.now (g.R.Source.left c.args.source.now) c.args.head c.args.size c.args.last c.args.token c.requires.frame c.requires.long

pub returns-in-Ok-fill_body-clause-tells : goal.returns-in-Ok-fill_body-clause-tells
returns-in-Ok-fill_body-clause-tells g c =
    let left = g.R.Source.left in
    let a = c.args.buffer.now in
    let b = c.fill_body.new.buffer in
    let size : length c.fill_body.new.body ≡ c.args.size = search rules in
    let told = λ (used : List ℕ) (body : List ℕ). Gave a b (left c.args.source.now) (left c.fill_body.new.source) (Tells b (left c.fill_body.new.source)
    (Ok (Request (record { head = c.args.head; used = length used; last = c.args.last; token = c.args.token; apart = Some body })))) in
    subst (told c.held-used.result.now) (sym (with_items_is c.in-Ok.body c.fill_body.new.body (search rules)))
    (subst (λ (t : List ℕ). told t c.fill_body.new.body) (sym c.held-used.ensures.value)
    (apart_told a b (left c.args.source.now) (left c.fill_body.new.source) c.args.head c.args.size c.args.last c.args.token c.fill_body.new.body c.requires.frame
    c.in-Ok-fill_body.ensures.took size))

pub returns-in-Ok-fill_body-clause-settled : goal.returns-in-Ok-fill_body-clause-settled
returns-in-Ok-fill_body-clause-settled g c settled =
    absurd (settled (long_unsettled c.args.buffer.now c.args.head c.args.size c.args.last c.args.token c.requires.frame (omega (arith, c.held-used.ensures.short, c.requires.long))))

pub returns-in-Err-clause-tells : goal.returns-in-Err-clause-tells
returns-in-Err-clause-tells g c =
    let left = g.R.Source.left in
    let a = c.args.buffer.now in
    gap_told c.in-Err.gap c.short_of.result a c.fill_body.new.buffer (left c.args.source.now) (left c.fill_body.new.source)
    c.short_of.ensures.ended c.short_of.ensures.stopped (λ is. c.in-Err.ensures.end (ap Err is)) (λ is. c.in-Err.ensures.spent (ap Err is)) (λ is. c.in-Err.ensures.enough (ap Err is))
    (apart_short a c.fill_body.new.buffer (left c.args.source.now) (left c.fill_body.new.source) c.args.head c.args.size c.args.last c.args.token
    (length c.deref_mut.result.now) c.requires.frame c.in-Err.ensures.took (search rules))

pub returns-in-Err-clause-settled : goal.returns-in-Err-clause-settled
returns-in-Err-clause-settled g c settled =
    absurd (settled (long_unsettled c.args.buffer.now c.args.head c.args.size c.args.last c.args.token c.requires.frame (omega (arith, c.held-used.ensures.short, c.requires.long))))
