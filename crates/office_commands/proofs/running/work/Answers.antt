use Rattle.office_commands.proofs.running.work.Goals as goal

pub returns-in-Ok-clause-no_text : goal.returns-in-Ok-clause-no_text
returns-in-Ok-clause-no_text g c = (c.answer.ensures.answers c.args.disk c.args.clock c.in-Ok.ensures.opens).no_text
