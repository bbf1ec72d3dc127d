-- The build paper's numbers of the replies. Rests on nothing.
use Rattle.std.specs.Prelude.{ℕ, Result, Ok, Err}
use Rattle.register.specs.declared.Refusal.{Refusal}
use Rattle.register.specs.declared.Refusal.TheVariants.{Size, ShortList, MalformedListing, ListingsDiffer, OrderUnsound, ColumnNumber, NewColumn, NoRoom, SheetCut, SheetNumber, SheetRange, SheetSurplus}

-- The number of a refusal in the paper's table.
abbrev pub number : Refusal → ℕ
number Size = 1
number ShortList = 2
number MalformedListing = 3
number ListingsDiffer = 4
number OrderUnsound = 5
number ColumnNumber = 6
number NewColumn = 7
number NoRoom = 8
number SheetCut = 9
number SheetNumber = 10
number SheetRange = 11
number SheetSurplus = 12

-- What the check of a register replies: the number of its first fault, and 0, which is no reply of the table, where it is sound.
abbrev pub fault : Result Unit Refusal → ℕ
fault (Ok x) = 0
fault (Err r) = number r
