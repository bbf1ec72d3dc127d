-- The eta rows in a reply line, where there are none. Rests on specs/Replies.antt.
use mathlib.Core.List.{List, [], ◌∷◌}
use mathlib.Core.Path.{◌≡◌, refl}
use Prim.Native.Nat.{ℕ}
use native.Mathlib.Omega.{arith}
use lib.ListN.{length}
use Rattle.replies.specs.Replies.{none_word, eta_text}

pub eta_none : (l : List ℕ) → length l ≡ 0 → eta_text l ≡ none_word
eta_none [] e = refl
eta_none (r ∷ l) e = absurd (omega arith)
