-- Lists that are lent to be written stay the lender's from one call to the next. Rests on specs/Loan.antt.
use mathlib.Core.Path.{◌∙◌}
use Rattle.listing.specs.declared.listed_mut.ListedMut.{ListedMut}
use Rattle.listing.specs.Loan.{SameListed}

pub same_on : {old mid new : ListedMut} → SameListed old mid → SameListed mid new → SameListed old new
same_on p q = record { starts = q.starts ∙ p.starts; entries = q.entries ∙ p.entries }
