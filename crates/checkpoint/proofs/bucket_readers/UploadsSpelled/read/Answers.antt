use Rattle.checkpoint.proofs.Collecting.{numbers_apart}
use Rattle.checkpoint.proofs.bucket_readers.UploadsSpelled.read.Goals as goal

pub map_of-requires : goal.map_of-requires
map_of-requires c = numbers_apart
