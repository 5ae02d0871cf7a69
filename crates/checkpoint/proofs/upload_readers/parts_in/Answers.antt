use Rattle.checkpoint.proofs.Collecting.{numbers_apart}
use Rattle.checkpoint.proofs.upload_readers.parts_in.Goals as goal

pub map_of-requires : goal.map_of-requires
map_of-requires c = numbers_apart
