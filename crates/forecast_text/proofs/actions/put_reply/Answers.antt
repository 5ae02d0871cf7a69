use Rattle.std.proofs.Common.{◌≡◌, sym, subst}
use Rattle.std.specs.Prelude.{OnOk}
use Rattle.std.specs.Io.KnownBytes.{append_known}
use Rattle.csv_sheet.specs.Sheets.{bytes_written}
use Rattle.office_types.specs.declared.reply.Reply.{Reply}
use Rattle.forecast_text.specs.Tables.{action_rows, text_of_rows}
use Rattle.forecast_text.proofs.actions.put_reply.Goals as goal

pub returns-in-Chosen-clause-bytes : goal.returns-in-Chosen-clause-bytes
returns-in-Chosen-clause-bytes c =
    subst (λ (r : Reply). OnOk c.put_action.result (bytes_written c.put_action.new.sheet ≡ append_known (bytes_written c.args.sheet.now) (text_of_rows (action_rows r))))
    (sym c.in-Chosen.is) (c.put_action.ensures.bytes c.in-Chosen.marker)
