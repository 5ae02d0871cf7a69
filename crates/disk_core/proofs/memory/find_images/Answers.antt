use Rattle.std.proofs.Common.{subst, IfOk}
use Rattle.disk_core.specs.Choices.{GivesEach}
use Rattle.disk_core.specs.Files.{File}
use Rattle.disk_core.specs.Pending.{AreImages}
use Rattle.disk_core.proofs.memory.find_images.Goals as goal

pub returns-clause-images : goal.returns-clause-images
returns-clause-images c =
    subst (λ (f : File). IfOk c.images.result (λ images. AreImages f images.items)) c.in_ok-pending.ensures c.images.ensures.images

pub returns-clause-each : goal.returns-clause-each
returns-clause-each c =
    subst (λ (f : File). IfOk c.images.result (λ images. GivesEach f images.items)) c.in_ok-pending.ensures c.images.ensures.each
