-- `changing`: the columns of row r, or column c alone.
use mathlib.Core.List.{[], ◌∷◌}
use mathlib.Core.Path.{◌≡◌, ap, ◌∙◌}
use Prim.Native.Nat.{ℕ}
use native.Mathlib.Omega.{arith}
use lib.ListN.{length, set, length-set}
use lib.Seq.{get_or-set_same}
use Rattle.listing.specs.Limits.{max_size}
use Rattle.listing.proofs.Between.{between_one}
use Rattle.listing.proofs.Rises.{rising_few}
use Rattle.store.proofs.store.changing.Goals as goal

pub returns-then-rows-r : goal.returns-then-rows-r
returns-then-rows-r c =
    let l = set c.args.list.now 0 c.args.c in
    let long : length l ≡ max_size = omega (arith, length-set c.args.list.now 0 c.args.c) in (
      omega (arith, long),
      long,
      λ h. absurd (omega arith),
      λ h. between_one 0 l (omega (arith, long)) ∙ ap (λ (x : ℕ). x ∷ []) (get_or-set_same c.args.list.now 0 c.args.c 0 (omega arith)),
    )

-- There is room for a row's columns.
pub copy-requires : goal.copy-requires
copy-requires c =
    omega (arith, ap length c.part-columns.ensures, rising_few (c.args.rows.good.formed.rise c.args.r (omega arith)), c.args.rows.good.small)
