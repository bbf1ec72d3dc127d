-- A list that is filled place by place from its beginning. Rests on `pattern`.
use mathlib.Core.List.{List}
use mathlib.Core.Logic.{⊎_elim}
use mathlib.Core.Path.{◌≡◌, ◌∙◌}
use Prim.Native.Nat.{ℕ, ◌+◌, ◌<◌}
use native.Mathlib.Omega.{arith}
use lib.ListN.{length, set}
use lib.Seq.{get_or-set_same, get_or-set_other}
use Rattle.pattern.specs.Places.{at}
use Rattle.pattern.proofs.Search.{last_or}

-- The places below `i` hold what `f` gives; with one more stored, so do those below `i + 1`.
pub stored_more : (f : ℕ → ℕ) (l : List ℕ) (i v : ℕ) → i < length l → v ≡ f i → ((x : ℕ) → x < i → at l x ≡ f x)
    → (x : ℕ) → x < i + 1 → at (set l i v) x ≡ f x
stored_more f l i v h e all x b =
    ⊎_elim
    (λ u. get_or-set_other l i x v 0 (λ z. omega arith) ∙ all x u)
    (λ z. rw z (get_or-set_same l i v 0 h ∙ e))
    (last_or i x (omega arith))
