-- When a list is another written over the beginning of a third, place by place. Rests on specs/Held.antt.
use mathlib.Core.List.{List}
use mathlib.Core.Path.{◌≡◌, sym, ap, ◌∙◌}
use Prim.Native.Nat.{ℕ, ◌+◌, ◌-◌, ◌≤◌, ◌<◌}
use native.Mathlib.Decide.{dec_lt}
use native.Mathlib.Omega.{arith}
use lib.ListN.{length, drop, length-append, length-drop, get_or-append}
use lib.Seq.{ext_get_or, get_or-append-add, get_or-drop}
use Rattle.pattern.specs.Places.{at}
use Rattle.listing.specs.Held.{over}
use Rattle.listing.specs.Walk.{Kept}

module _ (new old : List ℕ) where
  pub over_new : (i : ℕ) → i < length new → at (over new old) i ≡ at new i
  over_new i h = get_or-append new (drop (length new) old) 0 i h

  pub over_rest : (i : ℕ) → length new ≤ i → at (over new old) i ≡ at old i
  over_rest i h =
      let e : length new + (i - length new) ≡ i = omega arith in
      ap (at (over new old)) (sym e) ∙ get_or-append-add new (drop (length new) old) (i - length new) 0 ∙ get_or-drop (length new) old (i - length new) 0 ∙ ap (at old) e

  pub over_length : length new ≤ length old → length (over new old) ≡ length old
  over_length h = length-append new (drop (length new) old) ∙ omega (arith, length-drop (length new) old)

  pub over_is : {n : ℕ} {l : List ℕ} → length new ≡ n → n ≤ length old → Kept n old l → ((i : ℕ) → i < n → at l i ≡ at new i) → l ≡ over new old
  over_is {n} {l} e h K same = ext_get_or 0 l (over new old) (K.long ∙ sym (over_length (omega arith))) (λ i b. go i (dec_lt i n))
    where
      go : (i : ℕ) → Dec (i < n) → at l i ≡ at (over new old) i
      go i (yes u) = same i u ∙ sym (over_new i (omega arith))
      go i (no u) = K.rest i (omega arith) ∙ sym (over_rest i (omega arith))
