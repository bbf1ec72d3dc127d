-- A list that is stored number by number, from place `k` of another on. Rests on Puts.antt.
use mathlib.Core.List.{List, [], ◌∷◌, ◌++◌}
use mathlib.Core.Path.{◌≡◌, refl, sym, ap, ◌∙◌}
use Prim.Native.Nat.{ℕ, ◌+◌, ◌≤◌, ◌<◌}
use native.Mathlib.Numerals.{add-one}
use native.Mathlib.Omega.{arith}
use lib.ListN.{length, take, set}
use lib.Seq.{take-suc, take_all, length-take-le}
use Rattle.pattern.specs.Places.{at}
use Rattle.listing.specs.Held.{put}
use Rattle.listing.proofs.Puts.{put_none, put_more, put_length}

module _ (k : ℕ) (new old : List ℕ) where
  -- The first `i` numbers have been stored.
  pub record Stored (i : ℕ) (l : List ℕ) : Type 0 where
    pub now : l ≡ put k (take i new) old
    pub long : length l ≡ length old

module _ {k : ℕ} {new old : List ℕ} where
  pub stored_none : Stored k new old 0 old
  stored_none = record { now = sym (put_none k old); long = refl }

  pub stored_more : {i : ℕ} {l : List ℕ} (q v : ℕ) → i < length new → k + length new ≤ length old → q ≡ k + i → v ≡ at new i → Stored k new old i l → Stored k new old (i + 1) (set l q v)
  stored_more {i} {l} q v h fits eq ev s = record { now = now_more; long = ap length now_more ∙ put_length k (take (i + 1) new) old (omega (arith, length-take-le (i + 1) new (omega arith))) }
    where
      now_more : set l q v ≡ put k (take (i + 1) new) old
      now_more =
          ap (λ (j : List ℕ). set j q v) s.now
          ∙ put_more k (take i new) old q v (omega (arith, length-take-le i new (omega arith))) (omega arith)
          ∙ ap (λ (j : List ℕ). put k j old) (ap (λ (x : ℕ). take i new ++ (x ∷ [])) ev ∙ sym (ap (λ (n : ℕ). take n new) (add-one i) ∙ take-suc new i 0 h))

  pub stored_all : {i : ℕ} {l : List ℕ} → i ≡ length new → Stored k new old i l → l ≡ put k new old
  stored_all {i} e s = s.now ∙ ap (λ (j : List ℕ). put k j old) (take_all i new (omega arith))
