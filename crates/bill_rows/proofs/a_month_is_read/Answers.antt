use Rattle.bill_rows.proofs.Read.{there_read, bills_read}
use Rattle.bill_rows.proofs.a_month_is_read.Goals as goal

pub returns-clause-there : goal.returns-clause-there
returns-clause-there c = λ month rows answer bills it read. there_read month rows answer it bills read

pub returns-clause-bills : goal.returns-clause-bills
returns-clause-bills c = λ month rows answer bills it read. bills_read month rows answer it bills read
