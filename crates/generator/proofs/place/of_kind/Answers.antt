use Rattle.generator.proofs.place.of_kind.Goals as goal

pub returns-in-10-clause-draft : goal.returns-in-10-clause-draft
returns-in-10-clause-draft c = rw c.in-10.is c.put_part.ensures.draft
