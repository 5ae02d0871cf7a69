use Rattle.std.proofs.Common.{◌∙◌, [], sym, subst, List}
use Rattle.office_types.specs.declared.command.Entry.{Entry}
use Rattle.desk_core.specs.Histories.{HasAcceptedHistory}
use Rattle.desk_core.specs.Opening.{opened_with}
use Rattle.office_commands.proofs.Closed.{same_disk, left, shown}
use Rattle.office_commands.proofs.MonthTold.{report_reply}
use Rattle.office_commands.proofs.reporting.say_report.Goals as goal

pub say_reply-status-requires-clause-of_report : goal.say_reply-status-requires-clause-of_report
say_reply-status-requires-clause-of_report g c =
    let office = shown c.requires.opens.2 in
    report_reply c.args.told c.args.month office.0 c.look-reply.result (c.look-reply.ensures.answered office.0 office.1)

pub returns-clause-disk : goal.returns-clause-disk
returns-clause-disk g c = same_disk c.requires.opens.2 c.finish-disk.ensures.closes

pub returns-clause-tells : goal.returns-clause-tells
returns-clause-tells g c disk clock opens =
    let d = g.D.Disk in
    let stays = left opens c.finish-disk.ensures.closes in
    record {
      desk = c.args.desk;
      opens = opens;
      writes = stays.writes;
      any_moment = stays.any_moment;
      quiet = stays.quiet;
      clock = c.finish-disk.ensures.clock ∙ opens.clock_is;
      reply = c.look-reply.result;
      answered = c.look-reply.ensures.answered;
      sound = λ tells sound.
          let known = opens.sound tells sound in
          let read = c.look-reply.ensures.reads (opened_with d known.history c.args.desk) [] known.stands in
          (read.0, subst (λ (h : List Entry). HasAcceptedHistory h (d.state disk).journal.seen) (sym read.1) known.read, read.2);
      told = c.say_reply-status.ensures.tells;
    }
