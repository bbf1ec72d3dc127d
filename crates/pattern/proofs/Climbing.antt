-- What does not fall from one number to the next does not fall over any distance. Rests on Search.antt.
use mathlib.Core.Logic.{⊎_elim}
use mathlib.Core.Path.{◌≡◌, ap}
use Prim.Native.Nat.{ℕ, zero, suc, ◌+◌, ◌≤◌, ◌<◌}
use native.Mathlib.Numerals.{add-one}
use native.Mathlib.Omega.{arith}
use Rattle.pattern.proofs.Search.{last_or}

pub climbs : (f : ℕ → ℕ) (m : ℕ) → ((k : ℕ) → k < m → f k ≤ f (k + 1)) → (j k : ℕ) → j ≤ k → k ≤ m → f j ≤ f k
climbs f m up j zero h b = let e : j ≡ 0 = omega arith in omega (arith, ap f e)
climbs f m up j (suc k) h b =
    ⊎_elim
    (λ u. omega (arith, climbs f m up j k (omega arith) (omega arith), up k (omega arith), ap f (add-one k)))
    (λ e. omega (arith, ap f e))
    (last_or (suc k) j (omega arith))
