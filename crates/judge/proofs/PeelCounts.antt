-- The counts of a peel: how many numbers of a list have no place, what a place given to one of them changes, and counts that are
-- lowered one by one. Rests on specs/Peel.antt, `pattern` and `listing`.
use mathlib.Core.List.{List}
use mathlib.Core.Logic.{◌≢◌, ⊎_elim}
use mathlib.Core.Path.{◌≡◌, sym, ap, ◌∙◌, subst}
use Prim.Native.Nat.{ℕ, ◌+◌, ◌-◌, ◌≤◌, ◌<◌}
use native.Mathlib.Decide.{dec_lt}
use native.Mathlib.Omega.{arith}
use lib.Dec.{T, leb, leb→le, le→leb}
use lib.ListN.{length, set, length-set}
use lib.Seq.{get_or-set_same, get_or-set_other}
use Rattle.pattern.specs.Pattern.{has}
use Rattle.pattern.specs.Places.{at}
use Rattle.pattern.specs.Rising.{Rising}
use Rattle.pattern.proofs.Search.{last_or}
use Rattle.pattern.proofs.Tallies.{tally_next, tally_more, tally_zero, tally_same, tally_one}
use Rattle.pattern.proofs.Tests.{T_true, T_false, has_among, among_has}
use Rattle.listing.specs.Limits.{max_size}
use Rattle.listing.proofs.Rises.{rising_once}
use Rattle.judge.specs.Peel.{unplaced, Searched, Hit, Strikes, Struck}
use Rattle.judge.specs.Sets.{one}

-- ---- Numbers that have no place

module _ (places : List ℕ) where
  -- What a number counts for.
  abbrev counts_for : ℕ → ℕ
  counts_for x = one (leb max_size (at places x))

  for_one : (x : ℕ) → max_size ≤ at places x → counts_for x ≡ 1
  for_one x e = ap one (T_true (leb max_size (at places x)) (le→leb max_size (at places x) e))

  for_none : (x : ℕ) → at places x < max_size → counts_for x ≡ 0
  for_none x n = ap one (T_false (leb max_size (at places x)) (λ t. omega (arith, leb→le max_size (at places x) t)))

  module _ (l : List ℕ) where
    pub unplaced_none : ((k : ℕ) → k < length l → at places (at l k) < max_size) → unplaced places l ≡ 0
    unplaced_none h = tally_zero (λ k. counts_for (at l k)) (length l) (λ k u. for_none (at l k) (h k u))

    pub unplaced_some : (x : ℕ) → T (has l x) → max_size ≤ at places x → 0 < unplaced places l
    unplaced_some x t e =
        let a = has_among l x t in
        omega (
          arith,
          tally_next (λ k. counts_for (at l k)) a.0,
          tally_more (λ k. counts_for (at l k)) (a.0 + 1) (length l) (omega (arith, a.1)),
          for_one (at l a.0) (omega (arith, ap (at places) a.2, e)),
        )

-- One of them gets the place `n`.
module _ (places : List ℕ) (x n : ℕ) (h : x < length places) (e : max_size ≤ at places x) (b : n < max_size) where
  pub unplaced_less : {m : ℕ} (l : List ℕ) → Rising m l → T (has l x) → unplaced places l ≡ unplaced (set places x n) l + 1
  unplaced_less l R t =
      let a = has_among l x t in
      let z : at (set places x n) (at l a.0) ≡ n = ap (at (set places x n)) a.2 ∙ get_or-set_same places x n 0 h in
      tally_one (λ k. counts_for (set places x n) (at l k)) (λ k. counts_for places (at l k)) (length l) a.0 a.1
      (omega (arith, for_one places (at l a.0) (omega (arith, ap (at places) a.2, e)), for_none (set places x n) (at l a.0) (omega arith)))
      (λ k u d. ap (λ (p : ℕ). one (leb max_size p)) (sym (get_or-set_other places x (at l k) n 0 (λ w. d ((rising_once R).once k a.0 u a.1 (w ∙ sym a.2))))))

  pub unplaced_same : (l : List ℕ) → ¬ T (has l x) → unplaced places l ≡ unplaced (set places x n) l
  unplaced_same l t =
      tally_same (λ k. counts_for places (at l k)) (λ k. counts_for (set places x n) (at l k)) (length l)
      (λ k u. ap (λ (p : ℕ). one (leb max_size p)) (sym (get_or-set_other places x (at l k) n 0 (λ w. t (subst (λ (y : ℕ). T (has l y)) w (among_has l k u))))))

-- ---- Counts that are lowered

-- The search goes on from `from`.
pub searched_on : {counts : List ℕ} {p from t : ℕ} → Searched counts p from → Searched counts from t → Searched counts p t
searched_on {counts} {p} {from} {t} N F = record { after = omega (arith, N.after, F.after); none = λ u h b. go u h b (dec_lt u from) }
  where
    go : (u : ℕ) → p ≤ u → u < t → Dec (u < from) → at counts u ≢ 1
    go u h b (yes d) = N.none u h d
    go u h b (no d) = F.none u (omega arith) b

module _ {cols : List ℕ} {c e : ℕ} {old counts : List ℕ} (S : Strikes cols c e old counts) where
  module _ {k : ℕ} {counts' : List ℕ} (h : k < length cols) (K : Struck cols c e old counts k counts') where
    -- The count of the next column is still what it was.
    next_same : Hit cols c e old k → at counts' (at old (at cols k)) ≡ at counts (at old (at cols k))
    next_same n = K.others (at old (at cols k)) (λ i u d z. omega (arith, S.apart i k (omega arith) h d n z))

    pub next_some : Hit cols c e old k → 0 < at counts' (at old (at cols k))
    next_some n = omega (arith, next_same n, S.some k h n)

    -- The next column is not struck.
    pub struck_not : ¬ Hit cols c e old k → Struck cols c e old counts (k + 1) counts'
    struck_not n =
        record {
          long = K.long;
          less = λ i u d. ⊎_elim (λ b. K.less i b d) (λ z. absurd (n (subst (Hit cols c e old) z d))) (last_or k i (omega arith));
          others = λ t f. K.others t (λ i u. f i (omega arith));
        }

    -- It is.
    pub struck_more : Hit cols c e old k → (p v : ℕ) → p ≡ at old (at cols k) → v ≡ at counts' p - 1 → Struck cols c e old counts (k + 1) (set counts' p v)
    struck_more n p v ep ev =
        record {
          long = length-set counts' p v ∙ K.long;
          less = λ i u d. ⊎_elim (λ b. before i b d) (λ z. here i z) (last_or k i (omega arith));
          others = λ t f. get_or-set_other counts' p t v 0 (λ z. f k (omega arith) n (sym (z ∙ ep))) ∙ K.others t (λ i u. f i (omega arith));
        }
      where
        before : (i : ℕ) → i < k → Hit cols c e old i → at counts (at old (at cols i)) ≡ at (set counts' p v) (at old (at cols i)) + 1
        before i b d =
            K.less i b d
            ∙ ap (λ (w : ℕ). w + 1)
            (sym (get_or-set_other counts' p (at old (at cols i)) v 0 (λ z. omega (arith, S.apart i k (omega arith) h d n (z ∙ ep)))))

        here : (i : ℕ) → i ≡ k → at counts (at old (at cols i)) ≡ at (set counts' p v) (at old (at cols i)) + 1
        here i z =
            let q : at old (at cols i) ≡ p = ap (λ (j : ℕ). at old (at cols j)) z ∙ sym ep in
            let b : p < length counts' = omega (arith, K.long, S.small, n.1) in
            omega (
              arith,
              ap (at counts) (q ∙ ep),
              ap (at (set counts' p v)) q,
              get_or-set_same counts' p v 0 b,
              ap (at counts') ep,
              next_same n,
              S.some k h n,
            )
