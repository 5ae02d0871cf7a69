-- What reading the rows of a month returns.
use Rattle.std.specs.Prelude.{◌≡◌, pos, decimal, List, [], ◌∷◌, length, Option, Some, None}
use Rattle.std.specs.Global.{Vec}
use Rattle.std.specs.List.{AllByRecursion}
use Rattle.sqlite.specs.declared.types.Value.TheVariants.{Int, Text}
use Rattle.sqlite.specs.Order.{Row, column}
use Rattle.bill_book.specs.declared.bill.Bill.{Bill}
use Rattle.bill_book.specs.Bills.{total_of}
use Rattle.bill_rows.specs.Answers.{answer_bill, NamesBucket, AreRead}

-- the row is written by the bill that is read of it: the total in digits, without a leading zero
pub record IsWritten (row : Row) : Type 0 where
  pub bucket : column row 0 ≡ Text (answer_bill row).bucket
  pub total : column row 1 ≡ Text (decimal (answer_bill row).total)
  pub lines : column row 2 ≡ Int (pos (answer_bill row).lines)

-- the bill is that of the row
pub record IsBillRead (row : Row) (bill : Bill) : Type 0 where
  pub bill_is : bill ≡ answer_bill row
  pub named : NamesBucket row
  pub written : IsWritten row

-- the row is the header of these bills: it has what they come to, and how many they are
pub record IsHeaderOf (row : Row) (bills : List Bill) : Type 0 where
  pub written : IsWritten row
  pub bucket : column row 0 ≡ Text []
  pub total : (answer_bill row).total ≡ total_of bills
  pub lines : (answer_bill row).lines ≡ length bills

-- the rows of a month are well made: its header agrees with its bills, and each row has its form
pub record AreMade (rows : List Row) (bills : List Bill) : Type 0 where
  pub header : Row
  pub rest : List Row
  pub are : rows ≡ header ∷ rest
  pub agrees : IsHeaderOf header bills
  pub written : AllByRecursion IsWritten rest

-- the bills of a month are read out of its rows, which are well made; none if it has no rows
abbrev pub ReadsBills : List Row → Option (Vec Bill) → Type 0
ReadsBills rows None = rows ≡ []
ReadsBills rows (Some bills) = AreRead rows bills.items × AreMade rows bills.items
