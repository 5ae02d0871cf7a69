use Rattle.entry_codec.proofs.Laws.{spelling_tells}
use Rattle.entry_codec.proofs.reading.one_spelling.Goals as goal

pub returns : goal.returns
returns c = record { same = spelling_tells }
