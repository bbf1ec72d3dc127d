-- The pairs of a sound order, and the full choice that they are. Rests on Finding.antt.
use mathlib.Core.Logic.{◌↔◌}
use mathlib.Core.Path.{◌≡◌, refl, sym, ap, ◌∙◌, subst₂}
use Prim.Native.Nat.{ℕ, ◌<◌}
use Rattle.pattern.specs.Choice.{Choice}
use Rattle.pattern.specs.Order.{Sound, Paired}
use Rattle.pattern.specs.Pattern.{Pattern}
use Rattle.pattern.specs.Places.{Same, place}
use Rattle.pattern.proofs.Once.{once_same, once_through}
use Rattle.pattern.proofs.Finding.{place_at, place_of, place_once}

-- The row that is paired with column `x`: the one at its place.
abbrev pub partner : ℕ → (ℕ → ℕ) → (ℕ → ℕ) → ℕ → ℕ
partner m row col x = row (place col m x)

module _ {E : Pattern} {m : ℕ} {row col : ℕ → ℕ} (s : Sound E m row col) where
  pub col_place : (x : ℕ) → x < m → (place col m x < m) × (col (place col m x) ≡ x)
  col_place = place_of s.cols

  -- The partner of a column is paired with it, and nothing else is.
  pub partner_paired : (x : ℕ) → x < m → Paired m row col (partner m row col x) x
  partner_paired x h = (place col m x, (col_place x h).0, refl, (col_place x h).1)

  pub paired_partner : (r x : ℕ) → Paired m row col r x → partner m row col x ≡ r
  paired_partner r x p = ap row (ap (place col m) (sym p.3) ∙ place_at s.cols p.0 p.1) ∙ p.2

  pub partner_at : (t : ℕ) → t < m → partner m row col (col t) ≡ row t
  partner_at t h = paired_partner (row t) (col t) (t, h, refl, refl)

  -- One entry in each column, and no row twice.
  pub order_choice : Choice E m (partner m row col)
  order_choice =
      record {
        rows = once_through (place_once s.cols) s.rows;
        chosen = λ c h. subst₂ E refl (col_place c h).1 (s.paired (place col m c) (col_place c h).0);
      }

-- An order read from functions with the same numbers is sound too.
pub sound_same : {E : Pattern} {m : ℕ} {row col row' col' : ℕ → ℕ} → Same m row row' → Same m col col' → Sound E m row col → Sound E m row' col'
sound_same {E} {m} {row} {col} {row'} {col'} a b s =
    record {
      rows = once_same a s.rows;
      cols = once_same b s.cols;
      paired = λ i h. subst₂ E (a i h) (b i h) (s.paired i h);
      upper = λ i j hi hj e. s.upper i j hi hj (subst₂ E (sym (a i hi)) (sym (b j hj)) e);
    }

-- And an order that is sound for a pattern is so for one with the same entries.
pub sound_as : {E E' : Pattern} {m : ℕ} {row col : ℕ → ℕ} → ((r c : ℕ) → E r c ↔ E' r c) → Sound E m row col → Sound E' m row col
sound_as {row = row} {col = col} same s =
    record {
      rows = s.rows;
      cols = s.cols;
      paired = λ t h. (same (row t) (col t)).0 (s.paired t h);
      upper = λ i j hi hj e. s.upper i j hi hj ((same (row i) (col j)).1 e);
    }
