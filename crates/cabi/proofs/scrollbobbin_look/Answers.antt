-- `scrollbobbin_look`: the part's end less its beginning, which is not past it.
use mathlib.Core.Path.{refl}
use native.Mathlib.Omega.{arith}
use Rattle.listing.proofs.Spans.{in_order}
use Rattle.cabi.proofs.Parts.{by_length}
use Rattle.cabi.proofs.scrollbobbin_look.Goals as goal

pub overflow_sub-result : goal.overflow_sub-result
overflow_sub-result c = omega (arith, in_order c.span-span.ensures)

pub returns : goal.returns
returns c = by_length c.span-span.ensures refl refl
