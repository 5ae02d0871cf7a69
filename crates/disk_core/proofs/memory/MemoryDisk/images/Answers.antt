use Rattle.std.proofs.Common.{◌≡◌, ◌∙◌, ap, take, subst, rules, ℕ, List, min, length}
use Rattle.std.proofs.lemmas.List.{take_min}
use Rattle.disk_core.specs.Kept.{Call}
use Rattle.disk_core.specs.Choices.{GivesEach}
use Rattle.disk_core.specs.Files.{file_in}
use Rattle.disk_core.specs.Pending.{AreImages}
use Rattle.disk_core.specs.Replay.{after}
use Rattle.disk_core.proofs.memory.MemoryDisk.images.Goals as goal

pub returns-in-Ok : goal.returns-in-Ok
returns-in-Ok c =
    let all : List Call = c.args.self.now.calls in
    let count : c.min-count.result ≡ min c.args.after (length all) = search rules in
    let calls : take c.min-count.result all ≡ take c.args.after all =
    ap (λ (k : ℕ). take k all) count ∙ take_min c.args.after all in
    record {
      images = subst (λ (l : List Call). AreImages (file_in c.args.file (after l)) c.in-Ok.images.items) calls c.in-Ok.ensures.images;
      each = subst (λ (l : List Call). GivesEach (file_in c.args.file (after l)) c.in-Ok.images.items) calls c.in-Ok.ensures.each;
    }
