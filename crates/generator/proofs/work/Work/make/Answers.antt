use Rattle.std.proofs.Common.{refl, ap, subst, ◌∙◌, Result, arith}
use Rattle.office_types.specs.declared.reply.Reply.{Reply}
use Rattle.office_types.specs.declared.refusal.Refusal.{Refusal}
use Rattle.generator.specs.Drafts.{draft_command}
use Rattle.generator.specs.Working.{IsCounted}
use Rattle.generator.specs.declared.work.Work.{Work}
use Rattle.generator.proofs.Works.{all_counted, worked}
use Rattle.generator.proofs.work.Work.make.Goals as goal

pub note-requires : goal.note-requires
note-requires c = omega (arith, all_counted c.args.self.now c.requires.work, c.requires.made)

pub returns-clause-work : goal.returns-clause-work
returns-clause-work c =
    let old = c.args.self.now in
    let new : Work = record { number = old.number; desk = c.ask_command.new.desk; place = c.next.new.self; answers = c.note.new.self; text = c.command.new.text } in
    worked old new c.in_ok-command.command c.in_ok-said.said c.requires.work c.requires.made refl c.next.ensures.place
    (c.in_ok-command.ensures ∙ ap draft_command c.next.ensures.draft) c.in_ok-said.ensures
    (subst (λ (r : Result Reply Refusal). IsCounted old.answers r c.note.new.self) c.reply.ensures.value c.note.ensures)
