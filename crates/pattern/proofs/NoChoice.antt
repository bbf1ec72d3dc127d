-- A column is exchanged and no new row is paired with a reached column: then no full choice is left. Rests on Pairing.antt.
use mathlib.Core.Logic.Dec
use mathlib.Core.Logic.{◌≢◌, ◌⊎◌, inl, inr, ite}
use mathlib.Core.Path.{◌≡◌, refl, sym, ap, ◌∙◌, subst}
use Prim.Native.Nat.{ℕ, zero, suc, ◌<◌}
use native.Mathlib.Decide.{ℕ_discrete, dec_lt}
use native.Mathlib.Omega.{arith}
use Rattle.pattern.specs.Choice.{Choice, NoChoice}
use Rattle.pattern.specs.Order.{Sound, Paired}
use Rattle.pattern.specs.Pattern.{Pattern, Spiked}
use Rattle.pattern.specs.Reach.{Reach, itself, onward}
use Rattle.pattern.proofs.Search.{ite_cases, last_or}
use Rattle.pattern.proofs.Once.{onto}
use Rattle.pattern.proofs.Pairing.{partner, partner_paired, order_choice}

-- With `ρ` a full choice of the old pattern: a set of columns that contains `c`, holds with a column `x` each column present
-- in row `ρ x`, and has no new row as its `ρ x`, leaves no full choice.
hall : {E E' : Pattern} {m c : ℕ} {New : ℕ → Type 0} {ρ : ℕ → ℕ} → Choice E m ρ → Spiked E E' c New → c < m
    → (R : ℕ → Type 0) → ((x : ℕ) → Dec (R x)) → R c
    → ((x y : ℕ) → x < m → y < m → R x → E (ρ x) y → R y)
    → ((x : ℕ) → x < m → R x → ¬ New (ρ x))
    → NoChoice E' m
hall {E} {E'} {m} {c} {New} {ρ} o w cm R d rc closed none σ k =
    let a = onto (record { below = λ y l. low y l (split y); once = λ y z hy hz e. apart y z hy hz e (split y) (split z) }) (ρ c) (o.rows.below c cm) in
    missed a.0 a.1 a.2 (split a.0)
  where
    -- the columns of the set other than `c` keep their old row
    Kept : ℕ → Type 0
    Kept y = R y × (y ≢ c)

    h : ℕ → ℕ
    h y = ite (Dec.and (d y) (Dec.not (ℕ_discrete y c))) (ρ y) (σ y)

    Split : ℕ → Type 0
    Split y = (Kept y × (h y ≡ ρ y)) ⊎ (¬ Kept y × (h y ≡ σ y))

    split : (y : ℕ) → Split y
    split y = ite_cases (Dec.and (d y) (Dec.not (ℕ_discrete y c))) (ρ y) (σ y)

    low : (y : ℕ) → y < m → Split y → h y < m
    low y l (inl a) = omega (arith, a.1, o.rows.below y l)
    low y l (inr a) = omega (arith, a.1, k.rows.below y l)

    -- a column that does not keep its row is not given one from the set
    clash : (y z : ℕ) → y < m → z < m → ¬ Kept y → R z → σ y ≢ ρ z
    clash y z hy hz n rz e = go (ℕ_discrete y c)
      where
        go : Dec (y ≡ c) → ⊥
        go (yes u) = none z hz rz (subst New (ap σ (sym u) ∙ e) ((w.changed (σ c)).0 (k.chosen c cm)))
        go (no u) = n (closed z y hz hy rz (subst (λ (r : ℕ). E r y) e ((w.others (σ y) y u).1 (k.chosen y hy))), u)

    apart : (y z : ℕ) → y < m → z < m → h y ≡ h z → Split y → Split z → y ≡ z
    apart y z hy hz e (inl a) (inl b) = o.rows.once y z hy hz (sym a.1 ∙ e ∙ b.1)
    apart y z hy hz e (inl a) (inr b) = absurd (clash z y hz hy b.0 a.0.0 (sym b.1 ∙ sym e ∙ a.1))
    apart y z hy hz e (inr a) (inl b) = absurd (clash y z hy hz a.0 b.0.0 (sym a.1 ∙ e ∙ b.1))
    apart y z hy hz e (inr a) (inr b) = k.rows.once y z hy hz (sym a.1 ∙ e ∙ b.1)

    missed : (y : ℕ) → y < m → h y ≡ ρ c → Split y → ⊥
    missed y l e (inl a) = a.0.1 (o.rows.once y c l cm (sym a.1 ∙ e))
    missed y l e (inr a) = clash y c l cm a.0 rc (sym a.1 ∙ e)

-- A property of the numbers below `n` may be taken as decided where a contradiction is sought.
decided : (n : ℕ) (A : ℕ → Type 0) → ¬ ((x : ℕ) → Dec ((x < n) × A x)) → ⊥
decided n A f = upto n (λ d. f (λ x. total d x (dec_lt x n)))
  where
    total : ((x : ℕ) → x < n → Dec (A x)) → (x : ℕ) → Dec (x < n) → Dec ((x < n) × A x)
    total d x (yes l) = Dec.and (yes l) (d x l)
    total d x (no h) = no (λ a. h a.0)

    upto : (n : ℕ) → ¬ ((x : ℕ) → x < n → Dec (A x)) → ⊥
    upto zero g = g (λ x h. absurd (omega arith))
    upto (suc n) g = upto n (λ d. either (λ e. g (λ x h. more d e x (last_or n x h))))
      where
        either : ¬ Dec (A n) → ⊥
        either k = k (no (λ a. k (yes a)))

        more : ((x : ℕ) → x < n → Dec (A x)) → Dec (A n) → (x : ℕ) → (x < n) ⊎ (x ≡ n) → Dec (A x)
        more d e x (inl l) = d x l
        more d e x (inr u) = subst (λ (y : ℕ). Dec (A y)) (sym u) e

-- No new row is paired with a reached column: SINGULAR.
pub unreached_no_choice : {E E' : Pattern} {m c : ℕ} {New : ℕ → Type 0} {row col : ℕ → ℕ} → Sound E m row col → Spiked E E' c New → c < m
    → ((x r : ℕ) → Reach E m row col c x → Paired m row col r x → ¬ New r)
    → NoChoice E' m
unreached_no_choice {E} {E'} {m} {c} {New} {row} {col} s w cm none σ k =
    decided m (Reach E m row col c)
    (λ d. hall (order_choice s) w cm (λ x. (x < m) × Reach E m row col c x) d (cm, itself refl)
    (λ x y hx hy a e. (hy, onward x (partner m row col x) a.1 (partner_paired s x hx) hy e))
    (λ x hx a n. none x (partner m row col x) a.1 (partner_paired s x hx) n) σ k)
