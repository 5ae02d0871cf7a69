use Rattle.std.proofs.Common.{◌≡◌, ◌++◌, length, map, take, true}
use Rattle.std.specs.List.{flat_map, list_all}
use Rattle.checkpoint.specs.Parts.{four, head_format}
use Rattle.checkpoint.specs.Bodies.{head_of}
use Rattle.checkpoint.proofs.body_writers.put_heads.Given as goal

abbrev pub invariant-loop-part : goal.invariant-loop-part
invariant-loop-part l = record {
  bytes : l.out.items ≡ l.fn.out.items ++ (four.written (length l.buckets) ++ flat_map head_format.written (map head_of (take l.part-index l.buckets)));
  has : list_all head_format.has (map head_of (take l.part-index l.buckets)) ≡ true;
}
