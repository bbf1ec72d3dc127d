-- The pairs of an order, place by place. Rests on Each.antt.
use mathlib.Core.List.{List}
use mathlib.Core.Path.{◌≡◌}
use Prim.Native.Nat.{ℕ, ◌<◌}
use lib.ListN.{length, get_or}
use Rattle.pattern.specs.Order.{pairs}
use Rattle.pattern.specs.Places.{at}
use Rattle.pattern.proofs.Each.{length_each, each_at}

module _ (m : ℕ) (or oc : List ℕ) where
  pub pairs_length : length (pairs m or oc) ≡ m
  pairs_length = length_each {A = ℕ × ℕ} (λ t. (at or t, at oc t)) m

  pub pair_is : (t : ℕ) → t < m → get_or (pairs m or oc) t (0, 0) ≡ (at or t, at oc t)
  pair_is t h = each_at {A = ℕ × ℕ} (λ t. (at or t, at oc t)) m t (0, 0) h
