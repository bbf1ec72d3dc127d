-- A number joined to a list that rises: at its place there. Rests on specs/Store.antt and `pattern`.
use mathlib.Core.Bool.{◌||◌}
use mathlib.Core.List.{List, [], ◌∷◌, ◌++◌}
use mathlib.Core.Logic.{◌⊎◌, inl, inr, ⊎_elim}
use mathlib.Core.Path.{◌≡◌, refl, sym, ap, ap₂, ◌∙◌, subst}
use Prim.Native.Nat.{ℕ, suc, ◌+◌, ◌-◌, ◌≤◌, ◌<◌}
use native.Mathlib.Decide.{ℕ_discrete, dec_lt, dec_le}
use native.Mathlib.Omega.{arith}
use lib.Dec.{T, eqb, eqb→eq}
use lib.ListN.{length, take, drop, set, length-append, length-drop, take-append-drop}
use lib.Seq.{length-take-le, get_or-take, get_or-drop, take_all, take_at, append_snoc}
use Rattle.pattern.specs.Pattern.{has}
use Rattle.pattern.specs.Places.{at}
use Rattle.pattern.specs.Rising.{Rising}
use Rattle.pattern.proofs.Numbers.{numbers_rise, numbers_are, numbers_few, numbers_skip}
use Rattle.pattern.proofs.Rises.{rising_below, rising_tail, rising_after, rising_front, rising_less, rising_same}
use Rattle.pattern.proofs.Search.{find}
use Rattle.pattern.proofs.Tests.{T_false, or_cases, or_left, or_right, eq-eqb, has_append, has_left, has_right, has_cases, has_here, has_there, has_among, among_has}
use Rattle.listing.specs.Held.{over, put}
use Rattle.listing.specs.Limits.{max_size}
use Rattle.listing.specs.Listing.{between}
use Rattle.listing.proofs.Between.{between_length, between_at, between_front}
use Rattle.listing.proofs.Puts.{put_more, put_over}
use Rattle.store.specs.Store.{joined, Cut}

-- ---- Its numbers

module _ (m c : ℕ) (l : List ℕ) where
  pub joined_rises : Rising m (joined m c l)
  joined_rises = numbers_rise (λ k. eqb k c || has l k) m

  pub joined_short : length (joined m c l) ≤ m
  joined_short = numbers_few (λ k. eqb k c || has l k) m

  pub joined_has : (y : ℕ) → T (has (joined m c l) y) → (y ≡ c) ⊎ T (has l y)
  joined_has y t = ⊎_elim (λ u. inl (eqb→eq y c u)) inr (or_cases (eqb y c) (has l y) ((numbers_are (λ k. eqb k c || has l k) m y).0 t).1)

  pub has_joined : (y : ℕ) → y < m → (y ≡ c) ⊎ T (has l y) → T (has (joined m c l) y)
  has_joined y h d = (numbers_are (λ k. eqb k c || has l k) m y).1 (h, ⊎_elim (λ e. or_left (eqb y c) (has l y) (eq-eqb y c e)) (λ t. or_right (eqb y c) (has l y) t) d)

-- No number is at or above `m`, so a greater bound has no more.
pub joined_wider : {m n c : ℕ} {l : List ℕ} → Rising m l → c < m → m ≤ n → joined n c l ≡ joined m c l
joined_wider {m} {n} {c} {l} R h b =
    numbers_skip (λ k. eqb k c || has l k) m n b
    (λ k u v. T_false (eqb k c || has l k) (λ t. ⊎_elim (λ e. omega (arith, eqb→eq k c e)) (λ w. omega (arith, rising_below R k w)) (or_cases (eqb k c) (has l k) t)))

-- ---- At its place

pub rising_drop : {m : ℕ} {l : List ℕ} (n : ℕ) → Rising m l → Rising m (drop n l)
rising_drop {m} {l} n R =
    record {
      below = λ i h. omega (arith, get_or-drop n l i 0, R.below (n + i) (omega (arith, length-drop n l)));
      rises = λ i h. omega (arith, get_or-drop n l i 0, get_or-drop n l (suc i) 0, rising_less R (n + i) (n + suc i) (omega arith) (omega (arith, length-drop n l)));
    }

rising_append : {m : ℕ} (k l : List ℕ) → Rising m k → Rising m l → ((x y : ℕ) → T (has k x) → T (has l y) → x < y) → Rising m (k ++ l)
rising_append [] l R S less = S
rising_append (x ∷ k) l R S less =
    rising_front (R.below 0 (omega arith)) (λ y t. ⊎_elim (λ u. rising_after R y u) (λ u. less x y (has_here x x k refl) u) (has_append k l y t))
    (rising_append k l (rising_tail R) S (λ z y t. less z y (has_there x z k t)))

-- The numbers before place `n` are below `c`, those from place `rest` on above it, and in between there is only `c`.
module _ {m c n rest : ℕ} {l : List ℕ} (R : Rising m l) (in_size : c < m) (upto : n ≤ rest) (within : rest ≤ length l)
    (low : (i : ℕ) → i < n → at l i < c) (mid : (i : ℕ) → n ≤ i → i < rest → at l i ≡ c) (high : rest < length l → c < at l rest) where
  first : length (take n l) ≡ n
  first = length-take-le n l (omega arith)

  first_at : (i : ℕ) → i < n → at (take n l) i ≡ at l i
  first_at i h = get_or-take n l i 0 h

  last_at : (i : ℕ) → at (drop rest l) i ≡ at l (rest + i)
  last_at i = get_or-drop rest l i 0

  above : (i : ℕ) → rest + i < length l → c < at l (rest + i)
  above i h = go (dec_lt rest (rest + i))
    where
      go : Dec (rest < rest + i) → c < at l (rest + i)
      go (yes u) = omega (arith, high (omega arith), rising_less R rest (rest + i) u h)
      go (no u) = let e : rest + i ≡ rest = omega arith in omega (arith, high (omega arith), ap (at l) e)

  first_rises : Rising m (take n l)
  first_rises =
      record {
        below = λ i h. omega (arith, first_at i (omega (arith, first)), R.below i (omega (arith, first)));
        rises = λ i h. omega (arith, first, first_at i (omega (arith, first)), first_at (suc i) (omega (arith, first)), R.rises i (omega (arith, first)));
      }

  last_above : (y : ℕ) → T (has (drop rest l) y) → c < y
  last_above y t = let a = has_among (drop rest l) y t in omega (arith, a.2, last_at a.0, above a.0 (omega (arith, a.1, length-drop rest l)))

  first_below : (x : ℕ) → T (has (take n l) x) → x < c
  first_below x t = let a = has_among (take n l) x t in omega (arith, a.1, a.2, first, first_at a.0 (omega (arith, a.1, first)), low a.0 (omega (arith, a.1, first)))

  -- Then it stands between them.
  pub joined_there : take n l ++ (c ∷ drop rest l) ≡ joined m c l
  joined_there =
      rising_same (take n l ++ (c ∷ drop rest l)) (joined m c l)
      (rising_append (take n l) (c ∷ drop rest l) first_rises (rising_front in_size last_above (rising_drop rest R))
      (λ x y t u. ⊎_elim (λ e. omega (arith, first_below x t)) (λ v. omega (arith, first_below x t, last_above y v)) (has_cases c y (drop rest l) u)))
      (joined_rises m c l)
      (λ y t. ⊎_elim
      (λ u. has_joined m c l y (rising_below first_rises y u) (inr (subst (λ (j : List ℕ). T (has j y)) (take-append-drop n l) (has_left (take n l) (drop n l) y u))))
      (λ u. ⊎_elim
      (λ e. has_joined m c l y (omega arith) (inl (sym e)))
      (λ v. has_joined m c l y (rising_below (rising_drop rest R) y v) (inr (subst (λ (j : List ℕ). T (has j y)) (take-append-drop rest l) (has_right (take rest l) (drop rest l) y v))))
      (has_cases c y (drop rest l) u))
      (has_append (take n l) (c ∷ drop rest l) y t))
      (λ y t. ⊎_elim
      (λ e. has_right (take n l) (c ∷ drop rest l) y (has_here c y (drop rest l) (sym e)))
      (λ u. let a = has_among l y u in stands y a.0 a.1 a.2 (dec_lt a.0 n) (dec_lt a.0 rest))
      (joined_has m c l y t))
    where
      stands : (y i : ℕ) → i < length l → at l i ≡ y → Dec (i < n) → Dec (i < rest) → T (has (take n l ++ (c ∷ drop rest l)) y)
      stands y i h e (yes u) d =
          has_left (take n l) (c ∷ drop rest l) y (subst (λ (x : ℕ). T (has (take n l) x)) (first_at i u ∙ e) (among_has (take n l) i (omega (arith, first))))
      stands y i h e (no u) (yes v) = has_right (take n l) (c ∷ drop rest l) y (has_here c y (drop rest l) (sym (mid i (omega arith) v) ∙ e))
      stands y i h e (no u) (no v) =
          let z : rest + (i - rest) ≡ i = omega arith in
          has_right (take n l) (c ∷ drop rest l) y (has_there c y (drop rest l)
          (subst (λ (x : ℕ). T (has (drop rest l) x)) (last_at (i - rest) ∙ ap (at l) z ∙ e) (among_has (drop rest l) (i - rest) (omega (arith, length-drop rest l)))))

-- It is not in the list yet.
pub joined_in : {m c n : ℕ} {l : List ℕ} → Rising m l → c < m → Cut c n l → ¬ T (has l c) → take n l ++ (c ∷ drop n l) ≡ joined m c l
joined_in {m} {c} {n} {l} R in_size C none =
    joined_there {rest = n} R in_size (omega arith) C.within C.below (λ i u v. absurd (omega arith)) (λ h. go h (ℕ_discrete (at l n) c))
  where
    go : n < length l → Dec (at l n ≡ c) → c < at l n
    go h (yes e) = absurd (none (subst (λ (x : ℕ). T (has l x)) e (among_has l n h)))
    go h (no e) = omega (arith, C.next h)

-- Or it may be: then the numbers below `c + 1` end behind it.
module _ {m c n x : ℕ} {l : List ℕ} (R : Rising m l) (in_size : c < m) (C : Cut c n l) (D : Cut (c + 1) x (between n (length l) l)) where
  within : n + x ≤ length l
  within = omega (arith, C.within, D.within, between_length n (length l) l (omega arith))

  next_at : (i : ℕ) → n + i < length l → at (between n (length l) l) i ≡ at l (n + i)
  next_at i h = between_at n (length l) l i h

  pieces : between 0 n l ++ (c ∷ between (n + x) (length l) l) ≡ joined m c l
  pieces =
      ap₂ (λ (a b : List ℕ). a ++ (c ∷ b)) (between_front n l) last
      ∙ joined_there R in_size (omega arith) within C.below mid (λ h. omega (arith, next_at x h, D.next (omega (arith, between_length n (length l) l (omega arith)))))
    where
      last : between (n + x) (length l) l ≡ drop (n + x) l
      last = take_all (length l - (n + x)) (drop (n + x) l) (omega (arith, length-drop (n + x) l))

      mid : (i : ℕ) → n ≤ i → i < n + x → at l i ≡ c
      mid i u v = go (dec_lt n i)
        where
          e : n + (i - n) ≡ i
          e = omega arith

          low : at l i < c + 1
          low = omega (arith, D.below (i - n) (omega arith), next_at (i - n) (omega (arith, within)), ap (at l) e)

          go : Dec (n < i) → at l i ≡ c
          go (yes h) = omega (arith, low, C.next (omega (arith, within)), rising_less R n i h (omega (arith, within)))
          go (no h) = let z : i ≡ n = omega arith in omega (arith, low, C.next (omega (arith, within)), ap (at l) z)

  -- How many they are; so they are no more than there are places.
  pub joined_many : n + 1 + (length l - (n + x)) ≡ length (joined m c l)
  joined_many =
      omega (
        arith,
        ap length pieces,
        length-append (between 0 n l) (c ∷ between (n + x) (length l) l),
        between_length 0 n l C.within,
        between_length (n + x) (length l) l (omega arith),
      )

  pub joined_few : n + 1 + (length l - (n + x)) ≤ m
  joined_few = omega (arith, joined_many, joined_short m c l)

  -- They have been written at the head of a list one piece after another.
  pub joined_written : {a b d : List ℕ} (list : List ℕ) (v : ℕ) → m ≤ length list → v ≡ c → a ≡ put 0 (between 0 n l) list → b ≡ set a n v
      → d ≡ put (n + 1) (between (n + x) (length l) l) b → d ≡ over (joined m c l) list
  joined_written list v room ev ea eb ed =
      let front : List ℕ = between 0 n l in
      let rest : List ℕ = between (n + x) (length l) l in
      ed
      ∙ ap (put (n + 1) rest) (eb ∙ ap (λ (j : List ℕ). set j n v) ea ∙ put_more 0 front list n v (omega (arith, between_length 0 n l C.within)) (omega (arith, joined_few)))
      ∙ put_over (front ++ (v ∷ [])) rest list (n + 1) (omega (arith, length-append front (v ∷ []), between_length 0 n l C.within))
      ∙ ap (λ (j : List ℕ). over j list) (append_snoc front v rest ∙ ap (λ (w : ℕ). front ++ (w ∷ rest)) ev ∙ pieces)

-- A list has a place for each number, so with it the list is one longer.
cut_of : (c : ℕ) (l : List ℕ) → (n : ℕ) × Cut c n l
cut_of c l =
    ⊎_elim
    (λ f. (f.number, record { within = omega (arith, f.in_range); below = λ i h. omega (arith, f.none_before i h); next = λ h. f.is_so }))
    (λ none. (length l, record { within = omega arith; below = λ i h. omega (arith, none i h); next = λ h. absurd (omega arith) }))
    (find (λ i. c ≤ at l i) (λ i. dec_le c (at l i)) (length l))

pub joined_length : {m c : ℕ} {l : List ℕ} → Rising m l → c < m → ¬ T (has l c) → length (joined m c l) ≡ length l + 1
joined_length {m} {c} {l} R h none =
    let C = cut_of c l in
    let n : ℕ = C.0 in
    omega (
      arith,
      ap length (joined_in R h C.1 none),
      length-append (take n l) (c ∷ drop n l),
      length-take-le n l C.1.within,
      length-drop n l,
      C.1.within,
    )

-- Written at the head of a list under the greatest bound, it is read off it.
pub joined_read : {m n c : ℕ} {l list' : List ℕ} (list : List ℕ) → Rising m l → c < m → m ≤ max_size → n ≡ length (joined max_size c l) → list' ≡ over (joined max_size c l) list
    → between 0 n list' ≡ joined m c l
joined_read {m} {n} {c} {l} {list'} list R h b en el =
    between_front n list' ∙ ap (take n) el ∙ take_at (joined max_size c l) (drop (length (joined max_size c l)) list) n (sym en) ∙ joined_wider R h b
