use Rattle.std.proofs.Common.{sym, subst}
use Rattle.http_wire.specs.Parts.{IsFound, LiesIn}
use Rattle.http_wire.specs.Messages.{token_fields}
use Rattle.http_wire.specs.declared.fields.Found.{Found}
use Rattle.http_wire.proofs.FieldLemmas.{token_is, token_lies}
use Rattle.http_wire.proofs.fields.token_of.Goals as goal

pub returns-clause-is : goal.returns-clause-is
returns-clause-is c h covers =
    subst (λ (f : Found). IsFound c.args.bytes.now f (token_fields h)) (sym c.named.ensures) (token_is c.args.bytes.now c.args.headers.now h covers)

pub returns-clause-lies : goal.returns-clause-lies
returns-clause-lies c n all =
    subst (λ (f : Found). LiesIn n f) (sym c.named.ensures) (token_lies c.args.bytes.now n c.args.headers.now all)
