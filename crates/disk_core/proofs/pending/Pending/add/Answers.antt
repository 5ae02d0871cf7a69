use Rattle.std.proofs.Common.{◌≡◌, rules, [], ◌∷◌, ◌++◌}
use Rattle.disk_core.specs.Pending.{file_of}
use Rattle.disk_core.proofs.Choices.{chosen_image, added_images, added_kept, added_given}
use Rattle.disk_core.proofs.pending.Pending.add.Goals as goal

pub returns-clause-images : goal.returns-clause-images
returns-clause-images c =
    let file = file_of c.args.self.now in
    let items : c.push.new.self.items ≡ c.args.images.now.items ++ c.in_ok-image.image ∷ [] = search rules in
    added_images file c.args.images.now.items c.push.new.self.items c.in_ok-image.image items c.requires.images
    (chosen_image file c.args.choice c.in_ok-image.image.items c.requires.size c.in_ok-image.ensures)

pub returns-clause-kept : goal.returns-clause-kept
returns-clause-kept c =
    let items : c.push.new.self.items ≡ c.args.images.now.items ++ c.in_ok-image.image ∷ [] = search rules in
    added_kept (file_of c.args.self.now) c.args.images.now.items c.push.new.self.items c.in_ok-image.image items

pub returns-clause-given : goal.returns-clause-given
returns-clause-given c =
    let items : c.push.new.self.items ≡ c.args.images.now.items ++ c.in_ok-image.image ∷ [] = search rules in
    added_given (file_of c.args.self.now) c.args.images.now.items c.push.new.self.items c.in_ok-image.image items c.args.choice c.in_ok-image.ensures
