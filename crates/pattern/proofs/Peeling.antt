-- Peels: a sound order is a peel of full length and the other way round; every full choice takes a peel's pairs; and while a
-- sound order exists no peel is stuck. Rests on Pairing.antt.
use mathlib.Core.Logic.Dec
use mathlib.Core.Logic.{◌⊎◌, inl, inr}
use mathlib.Core.Path.{◌≡◌, sym, ap, ◌∙◌, subst}
use Prim.Native.Nat.{ℕ, suc, ◌≤◌, ◌<◌}
use native.Mathlib.Decide.{ℕ_discrete}
use native.Mathlib.Omega.{arith}
use Rattle.pattern.specs.Choice.{Choice}
use Rattle.pattern.specs.Order.{Sound}
use Rattle.pattern.specs.Pattern.{Pattern, RowsBelow}
use Rattle.pattern.specs.Peel.{Peel, Available}
use Rattle.pattern.specs.Places.{Among, Outside, Same, place}
use Rattle.pattern.proofs.Search.{Found, None, find, strong, outside_dec, not_outside}
use Rattle.pattern.proofs.Once.{once_part, onto}
use Rattle.pattern.proofs.Finding.{one_outside}
use Rattle.pattern.proofs.Pairing.{partner, partner_at, col_place, order_choice}

-- ---- A sound order is a peel of full length

pub sound_peel : {E : Pattern} {m : ℕ} {row col : ℕ → ℕ} → RowsBelow E m → Sound E m row col → Peel E m m row col
sound_peel {E} {m} {row} {col} b s =
    record {
      rows = s.rows;
      cols = s.cols;
      paired = s.paired;
      passed =
          λ i h r e.
          let a = onto s.rows r (b r (col i) e) in
          (a.0, omega (arith, s.upper a.0 i a.1 h (subst (λ (x : ℕ). E x (col i)) (sym a.2) e)), a.2);
    }

pub peel_sound : {E : Pattern} {m : ℕ} {row col : ℕ → ℕ} → Peel E m m row col → Sound E m row col
peel_sound {E} {m} {row} {col} k =
    record {
      rows = k.rows;
      cols = k.cols;
      paired = k.paired;
      upper =
          λ s t hs ht e.
          let a = k.passed t ht (row s) e in
          omega (arith, a.1, k.rows.once a.0 s (omega (arith, a.1)) hs a.2);
    }

-- The first places of a peel are a peel.
pub peel_part : {E : Pattern} {m n : ℕ} {row col : ℕ → ℕ} (k : ℕ) → k ≤ n → Peel E m n row col → Peel E m k row col
peel_part k l p =
    record {
      rows = once_part k l p.rows;
      cols = once_part k l p.cols;
      paired = λ i h. p.paired i (omega arith);
      passed = λ i h. p.passed i (omega arith);
    }

-- ---- One pairing

-- Whatever full choice is made, it takes in each column of a peel the row that the peel pairs with it.
pub one_pairing : {E : Pattern} {m n : ℕ} {row col σ : ℕ → ℕ} → Peel E m n row col → Choice E m σ → (i : ℕ) → i < n → σ (col i) ≡ row i
one_pairing {E} {m} {n} {row} {col} {σ} k c =
    strong (λ i. i < n → σ (col i) ≡ row i) (λ i before h. step i before h (k.passed i h (σ (col i)) (c.chosen (col i) (k.cols.below i h))))
  where
    -- the row chosen in column `col i` stands at a place up to `i`; at an earlier place it is the choice of that place's column
    settle : (i : ℕ) → ((j : ℕ) → j < i → j < n → σ (col j) ≡ row j) → i < n → (a : Among row (suc i) (σ (col i))) → Dec (a.0 ≡ i)
        → σ (col i) ≡ row i
    settle i before h a (yes e) = sym a.2 ∙ ap row e
    settle i before h a (no d) =
        absurd (d (k.cols.once a.0 i small h (c.rows.once (col a.0) (col i) (k.cols.below a.0 small) (k.cols.below i h) (before a.0 (omega (arith, a.1)) small ∙ a.2))))
      where
        small : a.0 < n
        small = omega (arith, a.1)

    step : (i : ℕ) → ((j : ℕ) → j < i → j < n → σ (col j) ≡ row j) → i < n → Among row (suc i) (σ (col i)) → σ (col i) ≡ row i
    step i before h a = settle i before h a (ℕ_discrete a.0 i)

-- So a pattern with a sound order has exactly one full choice: `order_choice`, and no other.
pub one_choice : {E : Pattern} {m : ℕ} {row col σ : ℕ → ℕ} → RowsBelow E m → Sound E m row col → Choice E m σ → Same m σ (partner m row col)
one_choice {E} {m} {row} {col} {σ} b s c x h =
    ap σ (sym (col_place s x h).1) ∙ one_pairing (sound_peel b s) c (place col m x) (col_place s x h).0

-- ---- Never stuck

module _ {E : Pattern} {m n : ℕ} {row col row' col' : ℕ → ℕ} (b : RowsBelow E m) (s : Sound E m row' col') (k : Peel E m n row col) where
  -- The sound order pairs as the peel does.
  same_pairs : (i : ℕ) → i < n → partner m row' col' (col i) ≡ row i
  same_pairs = one_pairing k (order_choice s)

  -- A column of the sound order that is not in the peel is available, with the row that the order pairs with it, where the columns
  -- that the order pairs with its other rows are in the peel.
  pub next_available : (t : ℕ) → t < m → Outside col n (col' t) → ((j : ℕ) → j < t → E (row' j) (col' t) → Among col n (col' j))
      → Available E m n row col (col' t) (row' t)
  next_available t l left taken =
      record {
        col_below = s.cols.below t l;
        col_left = left;
        row_below = s.rows.below t l;
        row_left = λ i h e. left i h ((order_choice s).rows.once (col i) (col' t) (k.cols.below i h) (s.cols.below t l) (same_pairs i h ∙ e ∙ sym (partner_at s t l)));
        present = s.paired t l;
        only = λ r e o. which r e o ((sound_peel b s).passed t l r e);
      }
    where
      earlier : (r j : ℕ) → Outside row n r → j < t → row' j ≡ r → Among col n (col' j) → ⊥
      earlier r j o h e a = o a.0 a.1 (sym (same_pairs a.0 a.1) ∙ ap (partner m row' col') a.2 ∙ partner_at s j (omega arith) ∙ e)

      which : (r : ℕ) → E r (col' t) → Outside row n r → Among row' (suc t) r → r ≡ row' t
      which r e o a = settle (ℕ_discrete a.0 t)
        where
          settle : Dec (a.0 ≡ t) → r ≡ row' t
          settle (yes z) = sym a.2 ∙ ap row' z
          settle (no d) =
              let h : a.0 < t = omega (arith, a.1) in
              absurd (earlier r a.0 o h a.2 (taken a.0 h (subst (λ (x : ℕ). E x (col' t)) (sym a.2) e)))

  -- Let `K` be columns of which each has only rows that the order pairs with columns of `K`. While one of them is not in the
  -- peel, one is available.
  pub never_stuck_in : (K : ℕ → Type 0) → ((y : ℕ) → Dec (K y))
      → ((t j : ℕ) → t < m → j < m → K (col' t) → E (row' j) (col' t) → K (col' j))
      → (y : ℕ) → y < m → K y → Outside col n y → (z : ℕ) × (r : ℕ) × K z × Available E m n row col z r
  never_stuck_in K d closed y h u o = start (find Left left_dec m)
    where
      Left : ℕ → Type 0
      Left t = K (col' t) × Outside col n (col' t)

      left_dec : (t : ℕ) → Dec (Left t)
      left_dec t = Dec.and (d (col' t)) (outside_dec col n (col' t))

      start : Found Left m ⊎ None Left m → (z : ℕ) × (r : ℕ) × K z × Available E m n row col z r
      start (inr none) = let q = col_place s y h in absurd (none (place col' m y) q.0 (subst K (sym q.1) u, subst (Outside col n) (sym q.1) o))
      start (inl f) = (
        col' f.number,
        row' f.number,
        f.is_so.0,
        next_available f.number f.in_range f.is_so.1
            (λ j l e. not_outside col n (col' j) (λ w. f.none_before j l (closed f.number j f.in_range (omega (arith, f.in_range)) f.is_so.0 e, w))),
      )

  -- A peel of fewer than `m` places can go on.
  pub never_stuck : n < m → (y : ℕ) × (r : ℕ) × Available E m n row col y r
  never_stuck l =
      let a = one_outside {g = col} l s.cols in
      let f = never_stuck_in (λ y. Unit {0}) (λ y. yes tt) (λ t j h u v e. tt) (col' a.0) (s.cols.below a.0 a.1) tt a.2 in
      (f.0, f.1, f.3)
