use Rattle.bill_rows.proofs.Posted.{month_added, still_headed}
use Rattle.bill_rows.proofs.Made.{well_made}
use Rattle.bill_rows.proofs.a_month_is_added.Goals as goal

pub returns-clause-adds : goal.returns-clause-adds
returns-clause-adds c = λ k total count bills before after small headed puts rise few. month_added k small total count bills before after headed puts rise few

pub returns-clause-headed : goal.returns-clause-headed
returns-clause-headed c = λ k total count bills before after small headed puts. still_headed k small total count bills before after headed puts

pub returns-clause-made : goal.returns-clause-made
returns-clause-made c = λ k bills before after small made puts rise each sum. well_made k small bills before after made puts rise each sum
