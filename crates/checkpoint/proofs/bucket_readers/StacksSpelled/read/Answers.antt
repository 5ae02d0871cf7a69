use Rattle.checkpoint.proofs.Collecting.{names_apart}
use Rattle.checkpoint.proofs.bucket_readers.StacksSpelled.read.Goals as goal

pub map_of-requires : goal.map_of-requires
map_of-requires c = names_apart
