-- `set_out`: the first starts are copied.
use mathlib.Core.List.{List}
use mathlib.Core.Path.{ap, ◌∙◌}
use Prim.Native.Nat.{ℕ}
use native.Mathlib.Omega.{arith}
use lib.Seq.{length-take-le, get_or-take}
use Rattle.pattern.specs.Places.{at}
use Rattle.listing.proofs.Holding.{over_new}
use Rattle.register.proofs.same.set_out.Goals as goal

pub returns : goal.returns
returns c = λ r h.
    ap (λ (l : List ℕ). at l r) c.copy.ensures
    ∙ over_new _ _ r (omega (arith, length-take-le c.args.m c.args.starts.now (omega arith)))
    ∙ get_or-take c.args.m c.args.starts.now r 0 h
