use Rattle.std.proofs.Common.{refl}
use Rattle.std.proofs.lemmas.Bool.{false≢true}
use Rattle.httparse.specs.Grammar.{NeverHasRequest}
use Rattle.http_wire.proofs.TargetLemmas.{other_error, never_too_many, hopeless, still_open}
use Rattle.http_wire.proofs.head.front_of.Goals as goal

pub returns-then-ends_in_target-clause-open : goal.returns-then-ends_in_target-clause-open
returns-then-ends_in_target-clause-open c _ =
    let never : NeverHasRequest c.args.bytes.now =
    other_error c.in-Err.field-0 c.in-Err.ensures.invalid c.in-Err.ensures.too_many
    (never_too_many _ c.args.bytes.now c.requires.room c.requires.short) in
    still_open c.args.bytes.now never (c.if-ends_in_target.ensures.0 refl)

pub returns-else-ends_in_target-clause-hopeless : goal.returns-else-ends_in_target-clause-hopeless
returns-else-ends_in_target-clause-hopeless c _ =
    let never : NeverHasRequest c.args.bytes.now =
    other_error c.in-Err.field-0 c.in-Err.ensures.invalid c.in-Err.ensures.too_many
    (never_too_many _ c.args.bytes.now c.requires.room c.requires.short) in
    hopeless c.args.bytes.now never (λ ends. false≢true (c.if-ends_in_target.ensures.1 ends))
