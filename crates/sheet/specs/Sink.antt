-- What holds of everything that bytes are put into, one behind the other. Rests on nothing.
use Rattle.std.specs.Prelude.{List, [], ◌++◌, ℕ, ◌+◌, ◌≤◌, length}

-- `room s n`: there is room for `n` bytes more. `after s l t`: with the bytes `l` behind it, `s` is `t`.
pub record SinkLaws {S : Type 0} (room : S → ℕ → Type 0) (after : S → List ℕ → S → Type 0) : Type 0 where
  -- Nothing put leaves it.
  pub none : (s : S) → after s [] s
  -- Room for more is room for less.
  pub less : (s : S) (m n : ℕ) → m ≤ n → room s n → room s m
  -- What is put uses up room.
  pub left : (s : S) (l : List ℕ) (t : S) (n : ℕ) → room s (length l + n) → after s l t → room t n
  -- Two puts are one of both.
  pub both : (s : S) (a : List ℕ) (t : S) (b : List ℕ) (u : S) → room s (length a) → after s a t → after t b u → after s (a ++ b) u
