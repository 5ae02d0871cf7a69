use Rattle.std.proofs.Common.{codes, arith}
use Rattle.office_base.specs.Versions.{id_text}
use Rattle.http_text.proofs.Small.{id_part_small}
use Rattle.http_text.proofs.chosen.put_target.Goals as goal

pub returns-in-Version-clause-puts : goal.returns-in-Version-clause-puts
returns-in-Version-clause-puts c = rw c.in-Version.is c.put_id.ensures.puts

pub returns-in-Version-clause-short : goal.returns-in-Version-clause-short
returns-in-Version-clause-short c =
    rw c.in-Version.is (id_part_small (codes ",\"version\":") (id_text c.in-Version.id) (omega arith) c.put_id.ensures.short)
