use Rattle.std.proofs.Common.{◌≡◌, ◌++◌, take, true}
use Rattle.std.specs.List.{flat_map, list_all}
use Rattle.entry_codec.specs.Formats.{pair}
use Rattle.checkpoint.specs.Parts.{sixteen, eight, triples}
use Rattle.checkpoint.proofs.sum_writers.put_triples.Given as goal

abbrev pub invariant-loop-class : goal.invariant-loop-class
invariant-loop-class l = record {
  bytes : l.out.items ≡ l.fn.out.items ++ flat_map (pair sixteen (pair sixteen eight)).written (take l.class (triples l.ended l.early l.moves));
  has : list_all (pair sixteen (pair sixteen eight)).has (take l.class (triples l.ended l.early l.moves)) ≡ true;
}
