-- The beginning of a list, up to a place: what lists with the same one have in common, and what it is after a list was written
-- over. Rests on `pattern` and `listing`.
use mathlib.Core.List.{List, [], ◌∷◌, ◌++◌}
use mathlib.Core.Path.{◌≡◌, sym, ap, ◌∙◌}
use Prim.Native.Nat.{ℕ, ◌+◌, ◌≤◌, ◌<◌}
use native.Mathlib.Omega.{arith}
use lib.ListN.{length, take, drop, set, length-append}
use lib.Seq.{get_or-take, length-take-le, take_at}
use Rattle.pattern.specs.Places.{at}
use Rattle.listing.specs.Held.{over, put}
use Rattle.listing.proofs.Puts.{put_none, put_front, put_is_over}

-- Lists with the same beginning have the same number at each of its places.
pub head_at : (n : ℕ) (k l : List ℕ) → take n k ≡ take n l → (i : ℕ) → i < n → at k i ≡ at l i
head_at n k l e i h = sym (get_or-take n k i 0 h) ∙ ap (λ (j : List ℕ). at j i) e ∙ get_or-take n l i 0 h

-- What was written over lists is the same in both.
pub over_same : {n : ℕ} (new k l : List ℕ) → length new ≡ n → take n (over new k) ≡ take n (over new l)
over_same {n} new k l e = take_at new (drop (length new) k) n e ∙ sym (take_at new (drop (length new) l) n e)

-- Up to the end of what was put from a place on, or set there.
pub put_head : (k : ℕ) (new l : List ℕ) → k ≤ length l → take (k + length new) (put k new l) ≡ take k l ++ new
put_head k new l h =
    ap (take (k + length new)) (put_is_over k new l h)
    ∙ take_at (take k l ++ new) (drop (length (take k l ++ new)) l) (k + length new) (length-append (take k l) new ∙ omega (arith, length-take-le k l h))

pub set_head : (k v : ℕ) (l : List ℕ) → k < length l → take (k + 1) (set l k v) ≡ take k l ++ (v ∷ [])
set_head k v l h =
    ap (λ (j : List ℕ). take (k + 1) (set j k v)) (sym (put_none (k + 1) l))
    ∙ ap (take (k + 1)) (put_front k [] l v h)
    ∙ put_head k (v ∷ []) l (omega arith)
