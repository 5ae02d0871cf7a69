use Rattle.std.proofs.Common.{codes, arith}
use Rattle.office_base.specs.Versions.{id_text}
use Rattle.http_text.proofs.Small.{id_part_small}
use Rattle.http_text.proofs.chosen.put_marker.Goals as goal

pub returns-in-Some-clause-short : goal.returns-in-Some-clause-short
returns-in-Some-clause-short c =
    rw c.in-Some.is (id_part_small (codes ",\"marker\":") (id_text c.in-Some.id) (omega arith) c.put_id.ensures.short)
