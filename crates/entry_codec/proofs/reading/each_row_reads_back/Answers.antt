use Rattle.entry_codec.specs.Kinds.{fields_of}
use Rattle.entry_codec.proofs.Laws.{every_row, values_take, values_again, same_parts}
use Rattle.entry_codec.proofs.reading.each_row_reads_back.Goals as goal

pub returns-clause-again : goal.returns-clause-again
returns-clause-again c = λ kind values total rest has. values_again (fields_of kind) (every_row (fields_of kind)) total values rest has

pub returns-clause-only : goal.returns-clause-only
returns-clause-only c = λ kind read total bytes fits is. values_take (fields_of kind) (every_row (fields_of kind)) total bytes read fits is

pub returns-clause-parts : goal.returns-clause-parts
returns-clause-parts c = same_parts
