-- A column is exchanged and some new row is paired with a reached column: then a full choice is made by moving the pairs
-- along the way. Rests on Pairing.antt.
use mathlib.Core.Logic.{◌≢◌, ◌⊎◌, inl, inr, ite}
use mathlib.Core.Path.{◌≡◌, refl, sym, ap, ◌∙◌, subst, subst₂}
use Prim.Native.Nat.{ℕ, ◌≤◌, ◌<◌}
use native.Mathlib.Decide.{ℕ_discrete}
use native.Mathlib.Omega.{arith}
use Rattle.pattern.specs.Choice.{Choice}
use Rattle.pattern.specs.Order.{Sound, Paired}
use Rattle.pattern.specs.Pattern.{Pattern, Spiked}
use Rattle.pattern.specs.Places.{Once, place}
use Rattle.pattern.specs.Reach.{Reach, itself, onward}
use Rattle.pattern.proofs.Search.{ite_cases}
use Rattle.pattern.proofs.Once.{once_through}
use Rattle.pattern.proofs.Finding.{place_at}
use Rattle.pattern.proofs.Pairing.{partner, col_place, paired_partner, order_choice}

-- ---- Two numbers change places

swap : ℕ → ℕ → ℕ → ℕ
swap a b z = ite (ℕ_discrete z a) b (ite (ℕ_discrete z b) a z)

abbrev Swapped : ℕ → ℕ → ℕ → ℕ → Type 0
Swapped a b z w = ((z ≡ a) × (w ≡ b)) ⊎ ((z ≡ b) × (w ≡ a)) ⊎ ((z ≢ a) × (z ≢ b) × (w ≡ z))

swap_cases : (a b z : ℕ) → Swapped a b z (swap a b z)
unfolding swap
swap_cases a b z = go (ite_cases (ℕ_discrete z a) b (ite (ℕ_discrete z b) a z)) (ite_cases (ℕ_discrete z b) a z)
  where
    go : ((z ≡ a) × (swap a b z ≡ b)) ⊎ (¬ (z ≡ a) × (swap a b z ≡ ite (ℕ_discrete z b) a z))
        → ((z ≡ b) × (ite (ℕ_discrete z b) a z ≡ a)) ⊎ (¬ (z ≡ b) × (ite (ℕ_discrete z b) a z ≡ z)) → Swapped a b z (swap a b z)
    go (inl p) q = inl p
    go (inr p) (inl q) = inr (inl (q.0, p.1 ∙ q.1))
    go (inr p) (inr q) = inr (inr (p.0, q.0, p.1 ∙ q.1))

swap_within : (a b z m : ℕ) → a < m → b < m → z < m → swap a b z < m
swap_within a b z m ha hb hz = go (swap_cases a b z)
  where
    go : Swapped a b z (swap a b z) → swap a b z < m
    go (inl p) = omega arith
    go (inr (inl p)) = omega arith
    go (inr (inr p)) = omega arith

swap_left : (a b : ℕ) → swap a b a ≡ b
swap_left a b = go (swap_cases a b a)
  where
    go : Swapped a b a (swap a b a) → swap a b a ≡ b
    go (inl p) = p.1
    go (inr (inl p)) = omega arith
    go (inr (inr p)) = absurd (p.0 refl)

swap_other : (a b z : ℕ) → z ≢ a → z ≢ b → swap a b z ≡ z
swap_other a b z na nb = go (swap_cases a b z)
  where
    go : Swapped a b z (swap a b z) → swap a b z ≡ z
    go (inl p) = absurd (na p.0)
    go (inr (inl p)) = absurd (nb p.0)
    go (inr (inr p)) = p.2

swap_once : (a b z w : ℕ) → swap a b z ≡ swap a b w → z ≡ w
swap_once a b z w e = go (swap_cases a b z) (swap_cases a b w)
  where
    go : Swapped a b z (swap a b z) → Swapped a b w (swap a b w) → z ≡ w
    go (inl p) (inl q) = omega arith
    go (inl p) (inr (inl q)) = omega arith
    go (inl p) (inr (inr q)) = omega arith
    go (inr (inl p)) (inl q) = omega arith
    go (inr (inl p)) (inr (inl q)) = omega arith
    go (inr (inl p)) (inr (inr q)) = omega arith
    go (inr (inr p)) (inl q) = omega arith
    go (inr (inr p)) (inr (inl q)) = omega arith
    go (inr (inr p)) (inr (inr q)) = omega arith

-- ---- The pairs moved along a way

-- With the pairs moved along a way from `c` to `x`, column `c` has the row of `x`, every other column still has an entry of
-- its own, and the columns at later places than `x` have kept their rows.
record Freed (E : Pattern) (m : ℕ) (row col : ℕ → ℕ) (c x : ℕ) : Type 0 where
  τ : ℕ → ℕ
  rows : Once τ m m
  chosen : (y : ℕ) → y < m → y ≢ c → E (τ y) y
  given : τ c ≡ partner m row col x
  kept : (y : ℕ) → y < m → place col m x < place col m y → τ y ≡ partner m row col y
  later : place col m c ≤ place col m x

module _ {E : Pattern} {m : ℕ} {row col : ℕ → ℕ} (s : Sound E m row col) where
  -- A way goes to later places only: what is present in the paired row of `w` is `w` or stands later.
  ahead : (w r x : ℕ) → Paired m row col r w → x < m → E r x → w ≢ x → place col m w < place col m x
  ahead w r x p xm e n = omega (arith, here, s.upper p.0 (place col m x) p.1 (col_place s x xm).0 (subst₂ E (sym p.2) (sym (col_place s x xm).1) e), differ)
    where
      here : place col m w ≡ p.0
      here = ap (place col m) (sym p.3) ∙ place_at s.cols p.0 p.1

      differ : p.0 ≢ place col m x
      differ v = n (sym p.3 ∙ ap col v ∙ (col_place s x xm).1)

  -- One step more along the way: `c` and the next column change their rows.
  moved : (c w r x : ℕ) → c < m → x < m → Paired m row col r w → E r x → place col m w < place col m x → Freed E m row col c w → Freed E m row col c x
  moved c w r x cm xm p e l f =
      record {
        τ = λ z. f.τ (swap c x z);
        rows = once_through (record { below = λ y h. swap_within c x y m cm xm h; once = λ y z hy hz u. swap_once c x y z u }) f.rows;
        chosen = λ y h n. own y h n (swap_cases c x y);
        given = ap f.τ (swap_left c x) ∙ f.kept x xm l;
        kept = λ y h k. ap f.τ (swap_other c x y (λ u. behind y k (ap (place col m) u)) (λ u. past y k (ap (place col m) u))) ∙ f.kept y h (omega arith);
        later = omega (arith, f.later);
      }
    where
      own : (y : ℕ) → y < m → y ≢ c → Swapped c x y (swap c x y) → E (f.τ (swap c x y)) y
      own y h n (inl q) = absurd (n q.0)
      own y h n (inr (inl q)) = subst₂ E (sym (ap f.τ q.1 ∙ f.given ∙ paired_partner s r w p)) (sym q.0) e
      own y h n (inr (inr q)) = subst (λ (z : ℕ). E (f.τ z) y) (sym q.2) (f.chosen y h n)

      behind : (y : ℕ) → place col m x < place col m y → place col m y ≢ place col m c
      behind y k = omega (arith, f.later)

      past : (y : ℕ) → place col m x < place col m y → place col m y ≢ place col m x
      past y k = omega arith

  freed : {c : ℕ} → c < m → {x : ℕ} → Reach E m row col c x → Freed E m row col c x
  freed {c} cm (itself e) = subst (λ (y : ℕ). Freed E m row col c y) (sym e) still
    where
      still : Freed E m row col c c
      still =
          record {
            τ = partner m row col;
            rows = (order_choice s).rows;
            chosen = λ y h n. (order_choice s).chosen y h;
            given = refl;
            kept = λ y h l. refl;
            later = omega arith;
          }
  freed {c} cm (onward {x = x} w r k p xm e) = go (freed cm k) (ℕ_discrete w x)
    where
      go : Freed E m row col c w → Dec (w ≡ x) → Freed E m row col c x
      go f (yes u) = subst (λ (y : ℕ). Freed E m row col c y) u f
      go f (no u) = moved c w r x cm xm p e (ahead w r x p xm e u) f

  -- A reached column stands at no earlier place than `c`.
  pub reach_later : {c : ℕ} → c < m → {x : ℕ} → Reach E m row col c x → place col m c ≤ place col m x
  reach_later cm k = (freed cm k).later

  -- A new row is paired with a reached column: a full choice takes it in column `c`, and so not SINGULAR.
  pub reached_choice : {E' : Pattern} {c : ℕ} {New : ℕ → Type 0} → Spiked E E' c New → c < m
      → (x r : ℕ) → Reach E m row col c x → Paired m row col r x → New r
      → (σ : ℕ → ℕ) × Choice E' m σ × (σ c ≡ r)
  reached_choice {E'} {c} {New} w cm x r k p n = (f.τ, record { rows = f.rows; chosen = λ y h. own y h (ℕ_discrete y c) }, taken)
    where
      f : Freed E m row col c x
      f = freed cm k

      taken : f.τ c ≡ r
      taken = f.given ∙ paired_partner s r x p

      own : (y : ℕ) → y < m → Dec (y ≡ c) → E' (f.τ y) y
      own y h (yes u) = subst (λ (z : ℕ). E' (f.τ z) z) (sym u) ((w.changed (f.τ c)).1 (subst New (sym taken) n))
      own y h (no u) = (w.others (f.τ y) y u).0 (f.chosen y h u)
