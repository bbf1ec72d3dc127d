-- The peel, computed: from nothing, at each place the first column in a given order of priority that is available. Where it
-- comes to full length it is greedy; where it stops there is no sound order. Rests on Growing.antt.
use mathlib.Core.Bool.{Bool, true, false, cond, not, ◌&&◌, ◌||◌}
use mathlib.Core.List.{List, [], ◌∷◌, ◌++◌}
use mathlib.Core.Logic.{◌⊎◌, inl, inr}
use mathlib.Core.Path.{◌≡◌, refl, sym, ap, ◌∙◌, subst}
use Prim.Native.Nat.{ℕ, zero, suc, ◌+◌, ◌≤◌, ◌<◌}
use native.Mathlib.Decide.{dec_lt}
use native.Mathlib.Omega.{arith}
use lib.Dec.{T, T_not, not_T, eqb, eqb→eq, ltb, ltb→lt, lt→ltb}
use lib.ListN.{length}
use Rattle.pattern.specs.Order.{Triangular}
use Rattle.pattern.specs.Pattern.{has, column, Entry, RowsBelow}
use Rattle.pattern.specs.Peel.{Available, Whole}
use Rattle.pattern.specs.Places.{at, Outside, Once, least, place}
use Rattle.pattern.proofs.Tests.{T_dec, T_true, T_false, eq-eqb, and_both, and_left, and_right, or_cases, or_left, or_right, has_cases, has_here, has_there, has_among, among_has}
use Rattle.pattern.proofs.Search.{None, Sought, least_is}
use Rattle.pattern.proofs.Finding.{place_at, place_of}
use Rattle.pattern.proofs.Growing.{Grown, grown_none, grown_more, grown_full, grown_stuck}

-- ---- The test for an available column

-- The first number of a list that is not in `ps`, and 0 where all are.
unfoldable pub left : List ℕ → List ℕ → ℕ
left ps [] = 0
left ps (r ∷ l) = cond (has ps r) (left ps l) r

-- Every number of a list is in `ps` or is `r`.
unfoldable pub all_but : List ℕ → ℕ → List ℕ → Bool
all_but ps r [] = true
all_but ps r (s ∷ l) = (has ps s || eqb s r) && all_but ps r l

-- With the rows `ps` and the columns `qs` taken, column `y` is not taken, and of its rows `l` exactly one, `r`, is not.
abbrev free : List ℕ → List ℕ → List ℕ → ℕ → ℕ → Bool
free ps qs l y r = not (has qs y) && (has l r && (not (has ps r) && all_but ps r l))

unfoldable pub available : List (List ℕ) → List ℕ → List ℕ → ℕ → Bool
available P ps qs y = free ps qs (column P y) y (left ps (column P y))

all_but_is : (ps : List ℕ) (r : ℕ) (l : List ℕ) → T (all_but ps r l) → (s : ℕ) → T (has l s) → ¬ T (has ps s) → s ≡ r
unfolding all_but
all_but_is ps r [] t s h n = absurd h
all_but_is ps r (x ∷ l) t s h n = go (has_cases x s l h) (λ v. all_but_is ps r l (and_right (has ps x || eqb x r) (all_but ps r l) t) s v n)
  where
    head : x ≡ s → T (has ps x) ⊎ T (eqb x r) → s ≡ r
    head e (inl u) = absurd (n (subst (λ (y : ℕ). T (has ps y)) e u))
    head e (inr u) = sym e ∙ eqb→eq x r u

    go : (x ≡ s) ⊎ T (has l s) → (T (has l s) → s ≡ r) → s ≡ r
    go (inl e) f = head e (or_cases (has ps x) (eqb x r) (and_left (has ps x || eqb x r) (all_but ps r l) t))
    go (inr v) f = f v

is_all_but : (ps : List ℕ) (r : ℕ) (l : List ℕ) → ((s : ℕ) → T (has l s) → ¬ T (has ps s) → s ≡ r) → T (all_but ps r l)
unfolding all_but
is_all_but ps r [] f = tt
is_all_but ps r (x ∷ l) f =
    and_both (has ps x || eqb x r) (all_but ps r l) (go (T_dec (has ps x))) (is_all_but ps r l (λ s h. f s (has_there x s l h)))
  where
    go : Dec (T (has ps x)) → T (has ps x || eqb x r)
    go (yes u) = or_left (has ps x) (eqb x r) u
    go (no u) = or_right (has ps x) (eqb x r) (eq-eqb x r (f x (has_here x x l refl) u))

left_is : (ps : List ℕ) (r : ℕ) (l : List ℕ) → T (has l r) → ¬ T (has ps r) → ((s : ℕ) → T (has l s) → ¬ T (has ps s) → s ≡ r) → left ps l ≡ r
unfolding left
left_is ps r [] h n f = absurd h
left_is ps r (x ∷ l) h n f = go (has ps x) refl (has_cases x r l h) (λ v. left_is ps r l v n (λ s u. f s (has_there x s l u)))
  where
    go : (b : Bool) → has ps x ≡ b → (x ≡ r) ⊎ T (has l r) → (T (has l r) → left ps l ≡ r) → cond b (left ps l) x ≡ r
    go true e (inl u) k = absurd (n (subst T (sym e ∙ ap (has ps) u) tt))
    go true e (inr v) k = k v
    go false e d k = f x (has_here x x l refl) (λ t. subst T e t)

-- What the test says: that the column is available, with the row that is left.
module _ (P : List (List ℕ)) (m : ℕ) (b : RowsBelow (Entry P) m) (n : ℕ) (ps qs : List ℕ) (lp : length ps ≡ n) (lq : length qs ≡ n) where
  outside : (l : List ℕ) → length l ≡ n → (x : ℕ) → ¬ T (has l x) → Outside (at l) n x
  outside l e x t i h u = t (subst (λ (y : ℕ). T (has l y)) u (among_has l i (omega arith)))

  not_has : (l : List ℕ) → length l ≡ n → (x : ℕ) → Outside (at l) n x → ¬ T (has l x)
  not_has l e x o t = let a = has_among l x t in o a.0 (omega (arith, a.1)) a.2

  test_available : (y : ℕ) → y < m → T (available P ps qs y) → Available (Entry P) m n (at ps) (at qs) y (left ps (column P y))
  unfolding available
  test_available y h t = go (left ps (column P y)) (and_left (not (has qs y)) _ t) (and_right (not (has qs y)) _ t)
    where
      go : (r : ℕ) → T (not (has qs y)) → T (has (column P y) r && (not (has ps r) && all_but ps r (column P y)))
          → Available (Entry P) m n (at ps) (at qs) y r
      go r u v =
          record {
            col_below = h;
            col_left = outside qs lq y (T_not (has qs y) u);
            row_below = b r y present;
            row_left = outside ps lp r (T_not (has ps r) (and_left (not (has ps r)) (all_but ps r (column P y)) rest));
            present = present;
            only = λ s e o. all_but_is ps r (column P y) (and_right (not (has ps r)) (all_but ps r (column P y)) rest) s e (not_has ps lp s o);
          }
        where
          present : T (has (column P y) r)
          present = and_left (has (column P y) r) (not (has ps r) && all_but ps r (column P y)) v

          rest : T (not (has ps r) && all_but ps r (column P y))
          rest = and_right (has (column P y) r) (not (has ps r) && all_but ps r (column P y)) v

  available_test : (y r : ℕ) → Available (Entry P) m n (at ps) (at qs) y r → T (available P ps qs y)
  unfolding available
  available_test y r v = subst (λ (z : ℕ). T (free ps qs (column P y) y z)) (sym (left_is ps r (column P y) v.present gone one)) whole
    where
      gone : ¬ T (has ps r)
      gone = not_has ps lp r v.row_left

      one : (s : ℕ) → T (has (column P y) s) → ¬ T (has ps s) → s ≡ r
      one s h t = v.only s h (outside ps lp s t)

      whole : T (free ps qs (column P y) y r)
      whole =
          and_both (not (has qs y)) _ (not_T (has qs y) (not_has qs lq y v.col_left))
          (and_both (has (column P y) r) _ v.present (and_both (not (has ps r)) _ (not_T (has ps r) gone) (is_all_but ps r (column P y) one)))

-- ---- The peel

-- At most `k` places more, after the rows `ps` and the columns `qs`: each time the first column of `first 0 .. first (m - 1)`
-- that is available.
unfoldable pub grow : List (List ℕ) → ℕ → (ℕ → ℕ) → ℕ → List ℕ → List ℕ → List ℕ × List ℕ
grow P m first zero ps qs = (ps, qs)
grow P m first (suc k) ps qs =
    let t = least (λ i. available P ps qs (first i)) m in
    cond (ltb t m) (grow P m first k (ps ++ (left ps (column P (first t)) ∷ [])) (qs ++ (first t ∷ []))) (ps, qs)

-- From nothing: the whole peel.
unfoldable pub peeled : List (List ℕ) → ℕ → (ℕ → ℕ) → List ℕ × List ℕ
peeled P m first = grow P m first m [] []

-- What the whole peel comes to: a full greedy peel; or there is no sound order at all.
abbrev pub Full : List (List ℕ) → ℕ → (ℕ → ℕ) → List ℕ × List ℕ → Type 0
Full P m key g = Whole (Entry P) m key g.0 g.1

abbrev pub Stuck : List (List ℕ) → ℕ → List ℕ × List ℕ → Type 0
Stuck P m g = (length g.0 < m) × ¬ Triangular (Entry P) m

module _ (P : List (List ℕ)) (m : ℕ) (b : RowsBelow (Entry P) m) (first : ℕ → ℕ) (o : Once first m m) where
  abbrev key : ℕ → ℕ
  key = place first m

  -- An available column passes the test at its key.
  test_at_key : (n : ℕ) (ps qs : List ℕ) → length ps ≡ n → length qs ≡ n → (y r : ℕ) → Available (Entry P) m n (at ps) (at qs) y r
      → T (available P ps qs (first (key y)))
  test_at_key n ps qs lp lq y r v =
      subst (λ (z : ℕ). T (available P ps qs z)) (sym (place_of o y v.col_below).1) (available_test P m b n ps qs lp lq y r v)

  -- The first available column in the order of priority has no greater key than another.
  first_lowest : (n : ℕ) (ps qs : List ℕ) → Grown (Entry P) m key n ps qs → (t : ℕ) → t < m → None (λ i. T (available P ps qs (first i))) t
      → (y r : ℕ) → Available (Entry P) m n (at ps) (at qs) y r → key (first t) ≤ key y
  first_lowest n ps qs g t l none y r v = go (dec_lt (key y) t)
    where
      go : Dec (key y < t) → key (first t) ≤ key y
      go (yes u) = absurd (none (key y) u (test_at_key n ps qs g.rows g.cols y r v))
      go (no u) = omega (arith, place_at o t l)

  grow_is : (k n : ℕ) (ps qs : List ℕ) → n + k ≡ m → Grown (Entry P) m key n ps qs
      → Full P m key (grow P m first k ps qs) ⊎ Stuck P m (grow P m first k ps qs)
  unfolding grow
  grow_is zero n ps qs e g =
      inl (grown_full (subst (λ (j : ℕ). Grown (Entry P) m key j ps qs) full g))
    where
      full : n ≡ m
      full = omega arith
  grow_is (suc k) n ps qs e g =
      go (least_is (λ i. available P ps qs (first i)) m) (λ h. grow_is k (suc n) (ps ++ (left ps (column P (first t)) ∷ [])) (qs ++ (first t ∷ [])) (omega arith) h)
    where
      t : ℕ
      t = least (λ i. available P ps qs (first i)) m

      further : List ℕ × List ℕ
      further = grow P m first k (ps ++ (left ps (column P (first t)) ∷ [])) (qs ++ (first t ∷ []))

      Ends : List ℕ × List ℕ → Type 0
      Ends x = Full P m key x ⊎ Stuck P m x

      stuck : None (λ i. T (available P ps qs (first i))) m → ¬ Triangular (Entry P) m
      stuck none = grown_stuck b g (omega arith) (λ y r v. none (key y) (place_of o y v.col_below).0 (test_at_key n ps qs g.rows g.cols y r v))

      go : Sought (λ i. available P ps qs (first i)) m t
          → (Grown (Entry P) m key (suc n) (ps ++ (left ps (column P (first t)) ∷ [])) (qs ++ (first t ∷ [])) → Ends further)
          → Ends (cond (ltb t m) further (ps, qs))
      go (inl s) f = subst (λ (x : Bool). Ends (cond x further (ps, qs))) (sym (T_true (ltb t m) (lt→ltb t m s.0))) (f (grown_more g (test_available P m b n ps qs g.rows g.cols (first t) (o.below t s.0) s.1) (first_lowest n ps qs g t s.0 s.2)))
      go (inr s) f = subst (λ (x : Bool). Ends (cond x further (ps, qs))) (sym (T_false (ltb t m) (λ u. beyond (ltb→lt t m u)))) (inr (omega (arith, g.rows), stuck s.1))
        where
          beyond : t < m → ⊥
          beyond l = omega (arith, s.0)

  pub peeled_is : Full P m (place first m) (peeled P m first) ⊎ Stuck P m (peeled P m first)
  unfolding peeled
  peeled_is = grow_is m 0 [] [] (omega arith) grown_none
