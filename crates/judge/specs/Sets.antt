-- Sets of numbers below 1,024, by their tests: nothing here says how a set is kept. Rests on `pattern` and `listing`.
use Rattle.std.specs.Prelude.{Bool, true, false, ◌≢◌, ◌≡◌, ℕ, ◌<◌}
use Rattle.pattern.specs.Series.{tally}
use Rattle.listing.specs.Limits.{max_mark}

-- The set `q` is `p` with the number `i`.
pub record With (p q : ℕ → Bool) (i : ℕ) : Type 0 where
  pub here : q i ≡ true
  pub others : (k : ℕ) → k < max_mark → k ≢ i → q k ≡ p k

-- 1 for a number that is in the set, and 0 for one that is not.
abbrev pub one : Bool → ℕ
one true = 1
one false = 0

-- How many of the numbers below `n` are in the set.
abbrev pub counted : (ℕ → Bool) → ℕ → ℕ
counted p n = tally (λ k. one (p k)) n
