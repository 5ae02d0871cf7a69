use Rattle.entry_codec.proofs.Sizes.{spelling_short, other_small}
use Rattle.entry_codec.proofs.writing.short_spelling.Goals as goal

pub returns-clause-short : goal.returns-clause-short
returns-clause-short c = spelling_short

pub returns-clause-other : goal.returns-clause-other
returns-clause-other c = other_small
