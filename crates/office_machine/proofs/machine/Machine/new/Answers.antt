use Rattle.std.proofs.Common.{◌≡◌, refl}
use Rattle.office_types.specs.declared.refusal.What.{What}
use Rattle.office_types.specs.declared.refusal.What.TheVariants.{Buckets, Versions, Uploads, Parts, Names, Rules, Tariffs}
use Rattle.bucket_account.specs.declared.counts.Counts.{Counts}
use Rattle.bucket_account.specs.Counting.{amount}
use Rattle.office_machine.proofs.Offices.{empty_stands, empty_kept}
use Rattle.office_machine.proofs.machine.Machine.new.Goals as goal

abbrev nothing : Counts
nothing = record { buckets = 0; versions = 0; uploads = 0; parts = 0; names = 0; rules = 0; tariffs = 0 }

none : (what : What) → amount what nothing ≡ 0
none Buckets = refl
none Versions = refl
none Uploads = refl
none Parts = refl
none Names = refl
none Rules = refl
none Tariffs = refl

pub invariant_of-result : goal.invariant_of-result
invariant_of-result c = empty_kept c.new.result.items c.new-2.result.items c.new-3.result.entries nothing 0 c.new.ensures.items c.new-2.ensures.items c.new-3.ensures.empty none

pub returns-clause-stands : goal.returns-clause-stands
returns-clause-stands c = empty_stands c.new.result.items c.new-2.result.items c.new-3.result.entries nothing 0 c.new.ensures.items c.new-2.ensures.items c.new-3.ensures.empty none
