-- The places of a look's part. Rests on specs/Look.antt.
use mathlib.Core.List.{List}
use mathlib.Core.Path.{ap}
use Prim.Native.Nat.{ℕ, ◌≤◌}
use native.Mathlib.Omega.{arith}
use lib.ListN.{length}
use Rattle.pattern.specs.Ladder.{fails, holds}
use Rattle.listing.specs.Look.{Spans}

-- They stand in their order within the list.
pub in_order : {m column : ℕ} {starts rows : List ℕ} {from to : ℕ} → Spans m column starts rows (from, to) → (from ≤ to) × (to ≤ length rows)
in_order (fails n e) = omega (arith, ap (λ (s : ℕ × ℕ). s.0) e, ap (λ (s : ℕ × ℕ). s.1) e)
in_order (holds p e) = omega (arith, p.within, ap (λ (s : ℕ × ℕ). s.0) e, ap (λ (s : ℕ × ℕ). s.1) e)
