-- What making a journal did.
use Rattle.std.proofs.Common.{◌≡◌, [], refl}
use Rattle.disk_core.specs.Files.{State, synced_file}
use Rattle.plain_office.proofs.Runs.{run_none}
use Rattle.meter_journal.specs.History.{header, IsAtRest}
use Rattle.meter_journal.specs.Reading.{IsMade, IsNotMade}
use Rattle.meter_journal.specs.declared.making.Made.{Made}
use Rattle.meter_journal.specs.declared.making.Made.TheVariants as mades
use Rattle.plain_office.specs.Office.{empty_office}
use Rattle.desk_core.proofs.Serving.{rest_image}
use Rattle.office_commands.specs.Making.{IsMadeSo}

pub made_so : (made : Made) (old new : State) → (made ≡ mades.Before → IsMade old.journal.seen × (new.journal ≡ synced_file old.journal.seen))
    → (made ≡ mades.Now → IsNotMade old.journal.seen × IsAtRest header new 10 []) → IsMadeSo made old new
made_so mades.Before old new before now = before refl
made_so mades.Now old new before now = ((now refl).0, λ image is. rest_image new 10 [] empty_office (now refl).1 run_none image is)
