use Rattle.std.proofs.Common.{◌∙◌, ap}
use Rattle.disk_core.specs.Files.{State}
use Rattle.disk_core.proofs.Time.{only_reads_then}
use Rattle.desk_core.proofs.Offices.{run_is}
use Rattle.stay_explain.specs.Table.{tables_csv}
use Rattle.stay_explain.proofs.explaining.explain.Goals as goal

pub returns-in-Ok-clause-table : goal.returns-in-Ok-clause-table
returns-in-Ok-clause-table g c =
    let read = c.in_ok-ledger.ensures.read in
    record {
      file = read.file;
      seen = λ told. read.seen told ∙ ap (λ (s : State). s.journal.seen) (c.measure.ensures.untouched.files told).now;
      table = record {
        history = read.history;
        office = read.is.office.plain;
        entries = read.entries;
        is_run = run_is read.history read.is.office.is_run;
        table = c.in-Ok.ensures ∙ ap tables_csv (c.tables.ensures ∙ read.is.tables);
      };
    }

pub returns-in-Ok-clause-untouched : goal.returns-in-Ok-clause-untouched
returns-in-Ok-clause-untouched g c = only_reads_then c.measure.ensures.untouched c.read.ensures.untouched

pub returns-in-Err-clause-untouched : goal.returns-in-Err-clause-untouched
returns-in-Err-clause-untouched g c = only_reads_then c.measure.ensures.untouched c.read.ensures.untouched
