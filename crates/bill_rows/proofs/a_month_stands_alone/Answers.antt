use Rattle.bill_rows.proofs.Alone.{had_none, bills_alone}
use Rattle.bill_rows.proofs.a_month_stands_alone.Goals as goal

pub returns-clause-none : goal.returns-clause-none
returns-clause-none c = λ month total count before between answer puts it single. had_none month total count before between answer puts it single

pub returns-clause-bills : goal.returns-clause-bills
returns-clause-bills c = λ month total count bills before after puts none rise few. bills_alone month total count bills before after puts none rise few
