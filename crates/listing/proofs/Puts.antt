-- A list written over another from a place on: what it leaves, one number more, and one such list over another.
-- Rests on Between.antt and Holding.antt.
use mathlib.Core.List.{List, [], ◌∷◌, ◌++◌, append_assoc}
use mathlib.Core.Path.{◌≡◌, refl, sym, ap, ap₂, ◌∙◌}
use Prim.Native.Nat.{ℕ, suc, ◌+◌, ◌-◌, ◌≤◌, ◌<◌}
use native.Mathlib.Numerals.{add-one}
use native.Mathlib.Omega.{arith}
use lib.ListN.{length, take, drop, set, length-append, take-append-drop, get_or-append}
use lib.Seq.{length-take-le, get_or-take, take-suc, drop-cons, drop-drop, set_at, take_at, drop_at, append_snoc, drop-append-add, take-append-le, take-take}
use Rattle.pattern.specs.Places.{at}
use Rattle.listing.specs.Held.{over, put}
use Rattle.listing.specs.Listing.{between}
use Rattle.listing.proofs.Between.{between_front}
use Rattle.listing.proofs.Holding.{over_rest, over_length}

-- ---- Over the beginning

-- What is written over is gone.
pub over_over : (new mid old : List ℕ) → length mid ≤ length new → over new (over mid old) ≡ over new old
over_over new mid old h = ap (λ (l : List ℕ). new ++ l) gone
  where
    gone : drop (length new) (mid ++ drop (length mid) old) ≡ drop (length new) old
    gone =
        let e : length new ≡ length mid + (length new - length mid) = omega arith in
        ap (λ (n : ℕ). drop n (mid ++ drop (length mid) old)) e
        ∙ drop-append-add mid (drop (length mid) old) (length new - length mid)
        ∙ drop-drop (length new - length mid) (length mid) old
        ∙ ap (λ (n : ℕ). drop n old) (sym e)

-- Behind what has been written.
pub put_over : (first new old : List ℕ) (k : ℕ) → k ≡ length first → put k new (over first old) ≡ over (first ++ new) old
put_over first new old k e =
    ap₂ (λ (l j : List ℕ). l ++ over new j) (take_at first (drop (length first) old) k (sym e)) (drop_at first (drop (length first) old) k (sym e))
    ∙ sym (append_assoc first new (drop (length new) (drop (length first) old)))
    ∙ ap (λ (l : List ℕ). (first ++ new) ++ l)
    (drop-drop (length new) (length first) old ∙ ap (λ (n : ℕ). drop n old) (sym (length-append first new)))

-- At the beginning it is read off again.
pub put_read : (new old : List ℕ) → between 0 (length new) (put 0 new old) ≡ new
put_read new old = between_front (length new) (over new old) ∙ take_at new (drop (length new) old) (length new) refl

-- ---- From place `k` on

module _ (k : ℕ) (new l : List ℕ) where
  pub put_is_over : k ≤ length l → put k new l ≡ over (take k l ++ new) l
  put_is_over h =
      let n : length (take k l) ≡ k = length-take-le k l h in
      ap (put k new) (sym (ap (λ (i : ℕ). take k l ++ drop i l) n ∙ take-append-drop k l)) ∙ put_over (take k l) new l k (sym n)

  pub put_before : k ≤ length l → (i : ℕ) → i < k → at (put k new l) i ≡ at l i
  put_before h i b =
      get_or-append (take k l) (over new (drop k l)) 0 i (omega (arith, length-take-le k l h)) ∙ get_or-take k l i 0 b

  pub put_rest : k ≤ length l → (i : ℕ) → k + length new ≤ i → at (put k new l) i ≡ at l i
  put_rest h i b =
      ap (λ (j : List ℕ). at j i) (put_is_over h)
      ∙ over_rest (take k l ++ new) l i (omega (arith, length-append (take k l) new, length-take-le k l h))

  pub put_length : k + length new ≤ length l → length (put k new l) ≡ length l
  put_length h =
      ap length (put_is_over (omega arith))
      ∙ over_length (take k l ++ new) l (omega (arith, length-append (take k l) new, length-take-le k l (omega arith)))

pub put_none : (k : ℕ) (l : List ℕ) → put k [] l ≡ l
put_none k l = take-append-drop k l

-- One number more, behind.
pub put_more : (k : ℕ) (new l : List ℕ) (i v : ℕ) → i ≡ k + length new → i < length l → set (put k new l) i v ≡ put k (new ++ (v ∷ [])) l
put_more k new l i v e h =
    ap (λ (j : List ℕ). set j i v) (split new ∙ ap (λ (j : List ℕ). (take k l ++ new) ++ j) (tail ∙ drop-cons l i 0 h))
    ∙ set_at (take k l ++ new) (at l i) (drop (suc i) l) v i (length-append (take k l) new ∙ omega (arith, length-take-le k l (omega arith)))
    ∙ sym (append_snoc (take k l ++ new) v (drop (suc i) l))
    ∙ ap₂ (λ (a b : List ℕ). a ++ b) (append_assoc (take k l) new (v ∷ [])) (sym rest)
    ∙ sym (split (new ++ (v ∷ [])))
  where
    split : (new : List ℕ) → put k new l ≡ (take k l ++ new) ++ drop (length new) (drop k l)
    split new = sym (append_assoc (take k l) new (drop (length new) (drop k l)))

    tail : drop (length new) (drop k l) ≡ drop i l
    tail = drop-drop (length new) k l ∙ ap (λ (n : ℕ). drop n l) (sym e)

    rest : drop (length (new ++ (v ∷ []))) (drop k l) ≡ drop (suc i) l
    rest =
        let n : k + length (new ++ (v ∷ [])) ≡ suc i = omega (arith, length-append new (v ∷ [])) in
        drop-drop (length (new ++ (v ∷ []))) k l ∙ ap (λ (n : ℕ). drop n l) n

pub put_one : (k : ℕ) (l : List ℕ) (v : ℕ) → k < length l → set l k v ≡ put k (v ∷ []) l
put_one k l v h = ap (λ (j : List ℕ). set j k v) (sym (put_none k l)) ∙ put_more k [] l k v (omega arith) h

-- And in front.
pub put_front : (k : ℕ) (new l : List ℕ) (v : ℕ) → k < length l → set (put (k + 1) new l) k v ≡ put k (v ∷ new) l
put_front k new l v h =
    ap (λ (n : ℕ). set (put n new l) k v) (add-one k)
    ∙ ap (λ (j : List ℕ). set (j ++ over new (drop (suc k) l)) k v) (take-suc l k 0 h)
    ∙ ap (λ (j : List ℕ). set j k v) (append_snoc (take k l) (at l k) (over new (drop (suc k) l)))
    ∙ set_at (take k l) (at l k) (over new (drop (suc k) l)) v k (length-take-le k l (omega arith))
    ∙ ap (λ (j : List ℕ). take k l ++ (v ∷ (new ++ drop (suc (length new)) j))) (sym (drop-cons l k 0 h))

-- Behind what has been written.
pub put_behind : (k : ℕ) (new more l : List ℕ) (i : ℕ) → i ≡ k + length new → k ≤ length l → put i more (put k new l) ≡ put k (new ++ more) l
put_behind k new more l i e h =
    ap (put i more) (put_is_over k new l h)
    ∙ put_over (take k l ++ new) more l i (e ∙ omega (arith, length-append (take k l) new, length-take-le k l h))
    ∙ ap (λ (j : List ℕ). over j l) (append_assoc (take k l) new more)
    ∙ sym (put_is_over k (new ++ more) l h)

-- In front of what has been written further on.
pub put_put : (k : ℕ) (new more l : List ℕ) (i : ℕ) → i ≡ k + length new → i ≤ length l → put k new (put i more l) ≡ put k (new ++ more) l
put_put k new more l i e h =
    ap₂ (λ (a b : List ℕ). a ++ (new ++ b)) front back
    ∙ ap (λ (b : List ℕ). take k l ++ b) (sym (append_assoc new more (drop (length more) (drop i l))) ∙ ap (λ (b : List ℕ). (new ++ more) ++ b) rest)
  where
    n : length (take i l) ≡ i
    n = length-take-le i l h

    front : take k (put i more l) ≡ take k l
    front = take-append-le k (take i l) (over more (drop i l)) (omega (arith, n)) ∙ take-take k i l (omega arith)

    back : drop (length new) (drop k (put i more l)) ≡ over more (drop i l)
    back = drop-drop (length new) k (put i more l) ∙ drop_at (take i l) (over more (drop i l)) (k + length new) (n ∙ e)

    rest : drop (length more) (drop i l) ≡ drop (length (new ++ more)) (drop k l)
    rest =
        let u : i + length more ≡ k + length (new ++ more) = omega (arith, length-append new more) in
        drop-drop (length more) i l ∙ ap (λ (j : ℕ). drop j l) u ∙ sym (drop-drop (length (new ++ more)) k l)
