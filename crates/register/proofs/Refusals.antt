-- Every refusal has a number other than 0. Rests on specs/Reply.antt.
use mathlib.Core.Logic.{◌≢◌}
use native.Mathlib.Omega.{arith}
use Rattle.register.specs.Reply.{number}
use Rattle.register.specs.declared.Refusal.{Refusal}
use Rattle.register.specs.declared.Refusal.TheVariants.{Size, ShortList, MalformedListing, ListingsDiffer, OrderUnsound, ColumnNumber, NewColumn, NoRoom, SheetCut, SheetNumber, SheetRange, SheetSurplus}

pub number_some : (r : Refusal) → number r ≢ 0
number_some Size e = omega arith
number_some ShortList e = omega arith
number_some MalformedListing e = omega arith
number_some ListingsDiffer e = omega arith
number_some OrderUnsound e = omega arith
number_some ColumnNumber e = omega arith
number_some NewColumn e = omega arith
number_some NoRoom e = omega arith
number_some SheetCut e = omega arith
number_some SheetNumber e = omega arith
number_some SheetRange e = omega arith
number_some SheetSurplus e = omega arith
