-- `rising`: of numbers that rise the last bounds them all.
use Rattle.std.proofs.Common.{rules}
use Rattle.std.proofs.lemmas.List.Sorted.{answers_always}
use mathlib.Core.Path.{◌≡◌}
use Prim.Native.Nat.{◌-◌}
use native.Mathlib.Omega.{arith}
use lib.Dec.{ltb}
use lib.ListN.{length}
use Rattle.pattern.specs.Places.{at}
use Rattle.listing.proofs.Rises.{rising_told}
use Rattle.listing.proofs.listing.rising.Goals as goal

pub returns-then-wide-m : goal.returns-then-wide-m
returns-then-wide-m c =
    let l = c.args.numbers.now in
    let last : c.in-Some.last.now ≡ at l (length l - 1) = search rules in
    rising_told l (omega arith) (c.is_sorted_by.ensures.cases ltb (answers_always _ _ _ (λ f a r g h. search rules)))
