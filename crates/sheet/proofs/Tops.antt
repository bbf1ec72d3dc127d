-- One more than the greatest place of some rows, and 0 where there are none: what it says of a column. Rests on `pattern`,
-- `listing` and `register`.
use mathlib.Core.Bool.{Bool}
use mathlib.Core.List.{List, [], ◌∷◌}
use mathlib.Core.Path.{◌≡◌, sym, ◌∙◌}
use Prim.Native.Nat.{ℕ, suc, ◌+◌, ◌≤◌, ◌<◌}
use native.Mathlib.Omega.{arith}
use lib.ListN.{length}
use Rattle.pattern.specs.Order.{Sound}
use Rattle.pattern.specs.Pattern.{column, Entry}
use Rattle.pattern.specs.Places.{at}
use Rattle.pattern.specs.Rising.{Rising}
use Rattle.pattern.specs.Series.{greatest}
use Rattle.pattern.proofs.Greatest.{greatest_low}
use Rattle.pattern.proofs.Rises.{rising_below}
use Rattle.pattern.proofs.Turning.{Columns}
use Rattle.listing.specs.Says.{Says}
use Rattle.listing.proofs.Answers.{says_as}
use Rattle.register.specs.Order.{Placed, Topped}
use Rattle.register.proofs.Orders.{topped_sound, sound_topped}

module _ (f : ℕ → ℕ) where
  -- Where there is a row, it is one more than the greatest; and where it is one more than something, there is a row.
  next_greatest : (l : List ℕ) → 0 < length l → greatest (λ (x : ℕ). suc (f x)) l ≡ suc (greatest f l)
  unfolding greatest
  next_greatest [] h = absurd (omega arith)
  next_greatest (x ∷ []) h = omega arith
  next_greatest (x ∷ y ∷ l) h = omega (arith, next_greatest (y ∷ l) (omega arith))

  some_greatest : (l : List ℕ) (t : ℕ) → greatest (λ (x : ℕ). suc (f x)) l ≡ t + 1 → 0 < length l
  unfolding greatest
  some_greatest [] t e = absurd (omega arith)
  some_greatest (x ∷ l) t e = omega arith

  -- Of rows in range whose places are.
  pub top_low : {m : ℕ} {l : List ℕ} → Rising m l → ((x : ℕ) → x < m → f x < m) → greatest (λ (x : ℕ). suc (f x)) l ≤ m
  top_low {m} {l} R h = greatest_low (λ (x : ℕ). suc (f x)) l m (λ x u. h x (rising_below R x u))

-- A column may stand at a place exactly when that is one less.
module _ {m : ℕ} {places : List ℕ} {P : List (List ℕ)} {c t : ℕ} where
  top_topped : c < m → greatest (λ (x : ℕ). suc (at places x)) (column P c) ≡ t + 1 → Topped m places P c t
  top_topped h e =
      let some = some_greatest (at places) (column P c) t e in
      record { below = h; some = some; top = omega (arith, next_greatest (at places) (column P c) some) }

  topped_top : Topped m places P c t → greatest (λ (x : ℕ). suc (at places x)) (column P c) ≡ t + 1
  topped_top T = omega (arith, T.top, next_greatest (at places) (column P c) T.some)

-- So what every column's is says whether an order is sound.
pub tops_sound : {m : ℕ} {P : List (List ℕ)} {row col top : ℕ → ℕ} {places : List ℕ} {answer : Bool} → Columns m P → Placed m row places
    → ((t : ℕ) → t < m → col t < m) → ((c : ℕ) → c < m → top c ≡ greatest (λ (x : ℕ). suc (at places x)) (column P c))
    → Says answer ((t : ℕ) → t < m → top (col t) ≡ t + 1) → Says answer (Sound (Entry P) m row col)
tops_sound {col = col} C L below are =
    says_as
    (λ all. topped_sound C L col (λ t h. top_topped (below t h) (sym (are (col t) (below t h)) ∙ all t h)))
    (λ S t h. are (col t) (below t h) ∙ topped_top (sound_topped C L col S t h))
