use Rattle.std.proofs.Common.{◌∙◌}
use Rattle.office_commands.proofs.Closed.{same_disk, left, shown, after_read}
use Rattle.office_commands.proofs.billing.bill_then_close.Goals as goal

pub bill_by-status-requires-clause-stands : goal.bill_by-status-requires-clause-stands
bill_by-status-requires-clause-stands g c = shown c.requires.opens.2

pub returns-clause-disk : goal.returns-clause-disk
returns-clause-disk g c = same_disk c.requires.opens.2 c.finish-disk.ensures.closes

pub returns-clause-bills : goal.returns-clause-bills
returns-clause-bills g c disk clock opens =
    let stays = left opens c.finish-disk.ensures.closes in
    record {
      desk = c.args.desk;
      opens = opens;
      writes = stays.writes;
      any_moment = stays.any_moment;
      quiet = stays.quiet;
      clock = c.finish-disk.ensures.clock ∙ opens.clock_is;
      billed = c.bill_by-status.ensures.bills;
      sound = λ tells sound.
          let after = after_read opens tells sound in
          let told = c.bill_by-status.ensures.bills after.office after.stands in
          (after.history, after.read, record { office = after.office; is_run = after.is_run; bills = told });
    }
