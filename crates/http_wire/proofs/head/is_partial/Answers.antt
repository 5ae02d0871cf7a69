use Rattle.http_wire.proofs.TargetLemmas.{other_error, never_too_many}
use Rattle.http_wire.proofs.head.is_partial.Goals as goal

pub returns-in_default-2-clause-no : goal.returns-in_default-2-clause-no
returns-in_default-2-clause-no c _ none =
    other_error c.in_default.field-0 (rw c.in_default.is at c.parse_request.ensures.invalid)
    (rw c.in_default.is at c.parse_request.ensures.too_many)
    (never_too_many _ c.args.bytes.now c.requires.room c.requires.short)
