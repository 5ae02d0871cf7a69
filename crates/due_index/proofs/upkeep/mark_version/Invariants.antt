use Rattle.std.proofs.Common.{All}
use Rattle.std.specs.List.{AllWithin}
use Rattle.stacks.specs.declared.version.Version.{Version}
use Rattle.due_index.specs.Blocks.{IsRightFor}
use Rattle.due_index.proofs.upkeep.mark_version.Given as goal

-- the blocks so far are right for the version, and no block is wrong for another one that it was right for
abbrev pub invariant-loop-block : goal.invariant-loop-block
invariant-loop-block l = record {
  right : AllWithin (λ block. IsRightFor l.mode l.rules l.key block l.version) l.block-items 0 l.block-index;
  others : (v : Version) → All (λ block. IsRightFor l.mode l.rules l.key block v) l.fn.blocks → All (λ block. IsRightFor l.mode l.rules l.key block v) l.block-items;
}
