use Rattle.std.proofs.Common.{◌∙◌, ap, arith, drop}
use Rattle.http_text.specs.Pieces.{left_text, rest_text}
use Rattle.http_text.proofs.PieceTexts.{begins_empty, front_begins}
use Rattle.http_text.specs.declared.pieces.Left.TheVariants.{All}
use Rattle.http_text.proofs.pieces.StackPieces.next.Goals as goal

pub returns-in-All-clause-text : goal.returns-in-All-clause-text
returns-in-All-clause-text c =
    let self = c.args.self.now in
    let is = c.noncurrent.ensures ∙ ap (drop 1) c.versions.ensures.same in
    ap (left_text self.key.now self.stack.now self.size) c.in-All.is
    ∙ c.fill.ensures.text (left_text self.key.now self.stack.now self.size All) (omega (arith, c.requires.room, c.put_front-at.auto.room))
    (front_begins c.args.room.now c.put_front-at.new.room c.put_front-at.result self.size self.key.now self.stack.now c.noncurrent.result.now is c.put_front-at.ensures.puts
    c.put_front-at.ensures.small)

pub returns-in-All-clause-within : goal.returns-in-All-clause-within
returns-in-All-clause-within c =
    let self = c.args.self.now in
    let is = c.noncurrent.ensures ∙ ap (drop 1) c.versions.ensures.same in
    c.fill.ensures.within (left_text self.key.now self.stack.now self.size All) (omega (arith, c.requires.room, c.put_front-at.auto.room))
    (front_begins c.args.room.now c.put_front-at.new.room c.put_front-at.result self.size self.key.now self.stack.now c.noncurrent.result.now is c.put_front-at.ensures.puts
    c.put_front-at.ensures.small)

pub returns-in-Later-clause-text : goal.returns-in-Later-clause-text
returns-in-Later-clause-text c =
    let self = c.args.self.now in
    let left = rest_text c.in-Later.versions.now in
    ap (left_text self.key.now self.stack.now self.size) c.in-Later.is ∙ c.fill-in-Later.ensures.text left c.requires.room (begins_empty c.args.room.now left)

pub returns-in-Later-clause-within : goal.returns-in-Later-clause-within
returns-in-Later-clause-within c =
    let left = rest_text c.in-Later.versions.now in
    c.fill-in-Later.ensures.within left c.requires.room (begins_empty c.args.room.now left)
