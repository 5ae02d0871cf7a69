use Rattle.std.proofs.Common.{◌∙◌}
use Rattle.office_commands.proofs.Closed.{same_disk, left, shown, after_read}
use Rattle.office_commands.proofs.forecasting.foretell_then_close.Goals as goal

pub foretell_by-status-requires-clause-stands : goal.foretell_by-status-requires-clause-stands
foretell_by-status-requires-clause-stands g c = shown c.requires.opens.2

pub returns-clause-disk : goal.returns-clause-disk
returns-clause-disk g c = same_disk c.requires.opens.2 c.finish-disk.ensures.closes

pub returns-clause-forecasts : goal.returns-clause-forecasts
returns-clause-forecasts g c disk clock opens =
    let stays = left opens c.finish-disk.ensures.closes in
    record {
      desk = c.args.desk;
      opens = opens;
      writes = stays.writes;
      any_moment = stays.any_moment;
      quiet = stays.quiet;
      clock = c.finish-disk.ensures.clock ∙ opens.clock_is;
      forecasts = c.foretell_by-status.ensures.forecasts;
      sound = λ tells sound.
          let after = after_read opens tells sound in
          let told = c.foretell_by-status.ensures.forecasts after.office after.stands in
          (after.history, after.read, record { office = after.office; is_run = after.is_run; forecasts = told });
    }
