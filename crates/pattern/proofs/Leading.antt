-- The first of all sound orders: a greedy full peel leads them under any key, and no two orders lead. Rests on Peeling.antt.
use mathlib.Core.Logic.Dec
use mathlib.Core.Logic.{◌≢◌, ◌⊎◌, inl, inr}
use mathlib.Core.Path.{◌≡◌, sym, ap, ◌∙◌}
use Prim.Native.Nat.{ℕ, ◌≤◌, ◌<◌}
use native.Mathlib.Decide.{ℕ_discrete, dec_lt}
use native.Mathlib.Omega.{arith}
use Rattle.pattern.specs.Dictionary.{NotAfter, Leading}
use Rattle.pattern.specs.Order.{Sound}
use Rattle.pattern.specs.Pattern.{Pattern, RowsBelow}
use Rattle.pattern.specs.Peel.{Available, Greedy}
use Rattle.pattern.specs.Places.{Once, Same, place}
use Rattle.pattern.proofs.Search.{Found, None, find}
use Rattle.pattern.proofs.Finding.{place_at}
use Rattle.pattern.proofs.Pairing.{partner, col_place, partner_at, order_choice}
use Rattle.pattern.proofs.Peeling.{sound_peel, peel_sound, peel_part, one_pairing, next_available}

-- Of two rows neither of which is after the other, each is the other.
not_after_same : (m : ℕ) (a b : ℕ → ℕ) → NotAfter m a b → NotAfter m b a → Same m a b
not_after_same m a b (inl s) k = s
not_after_same m a b (inr h) (inl s) = λ i l. sym (s i l)
not_after_same m a b (inr h) (inr k) = absurd (clash (dec_lt h.0 k.0) (dec_lt k.0 h.0))
  where
    clash : Dec (h.0 < k.0) → Dec (k.0 < h.0) → ⊥
    clash (yes l) d = omega (arith, h.3, k.2 h.0 l)
    clash (no n) (yes l) = omega (arith, k.3, h.2 k.0 l)
    clash (no n) (no o) = apart (omega arith)
      where
        apart : h.0 ≡ k.0 → ⊥
        apart e = omega (arith, h.3, k.3, ap a e, ap b e)

-- A greedy full peel is the first of all sound orders in dictionary order.
pub greedy_leads : {E : Pattern} {m : ℕ} {key row col : ℕ → ℕ} → RowsBelow E m → Once key m m → Greedy E m key row col → Leading E m key row col
greedy_leads {E} {m} {key} {row} {col} b d g = record { sound = s; leads = λ row' col' t. compare row' col' t }
  where
    s : Sound E m row col
    s = peel_sound g.peel

    compare : (row' col' : ℕ → ℕ) → Sound E m row' col' → NotAfter m (λ i. key (col i)) (λ i. key (col' i))
    compare row' col' t = go (find (λ i. key (col i) ≢ key (col' i)) (λ i. Dec.not (ℕ_discrete (key (col i)) (key (col' i)))) m)
      where
        agree : (i : ℕ) → ¬ (key (col i) ≢ key (col' i)) → key (col i) ≡ key (col' i)
        agree i n = (Dec.not-not (ℕ_discrete (key (col i)) (key (col' i)))).0 n

        go : Found (λ i. key (col i) ≢ key (col' i)) m ⊎ None (λ i. key (col i) ≢ key (col' i)) m → NotAfter m (λ i. key (col i)) (λ i. key (col' i))
        go (inr n) = inl (λ i h. agree i (n i h))
        go (inl f) = inr (f.number, f.in_range, (λ j l. agree j (f.none_before j l)), omega (arith, f.is_so, g.least f.number f.in_range (col' f.number) (row' f.number) free))
          where
            small : (j : ℕ) → j < f.number → j < m
            small j l = omega (arith, f.in_range)

            before : Same f.number col col'
            before j l = d.once (col j) (col' j) (s.cols.below j (small j l)) (t.cols.below j (small j l)) (agree j (f.none_before j l))

            apart : (j : ℕ) → j < f.number → j ≢ f.number
            apart j l = omega arith

            -- the other order's column at the first difference was available too
            free : Available E m f.number row col (col' f.number) (row' f.number)
            free =
                next_available b t (peel_part f.number (omega (arith, f.in_range)) g.peel) f.number f.in_range
                (λ j l e. apart j l (t.cols.once j f.number (small j l) f.in_range (sym (before j l) ∙ e)))
                (λ j l e. (j, l, before j l))

-- A sound order is greedy for its own places.
pub own_greedy : {E : Pattern} {m : ℕ} {row col : ℕ → ℕ} → RowsBelow E m → Sound E m row col → Greedy E m (place col m) row col
own_greedy {E} {m} {row} {col} b s = record { peel = sound_peel b s; least = λ i h y r v. go i h y r v (dec_lt (place col m y) i) }
  where
    go : (i : ℕ) → i < m → (y r : ℕ) → Available E m i row col y r → Dec (place col m y < i) → place col m (col i) ≤ place col m y
    go i h y r v (yes l) = absurd (v.col_left (place col m y) l (col_place s y v.col_below).1)
    go i h y r v (no l) = omega (arith, place_at s.cols i h)

-- Sound orders with the same columns have the same rows.
pub same_rows : {E : Pattern} {m : ℕ} {row col row' col' : ℕ → ℕ} → RowsBelow E m → Sound E m row col → Sound E m row' col' → Same m col col'
    → Same m row row'
same_rows {m = m} {row' = row'} {col' = col'} b s t e i h =
    sym (one_pairing (sound_peel b s) (order_choice t) i h) ∙ ap (partner m row' col') (e i h) ∙ partner_at t i h

-- So one order leads, rows too.
pub leading_unique : {E : Pattern} {m : ℕ} {key row col row' col' : ℕ → ℕ} → RowsBelow E m → Once key m m → Leading E m key row col
    → Leading E m key row' col'
    → Same m row row' × Same m col col'
leading_unique {E} {m} {key} {row} {col} {row'} {col'} b d l r = (same_rows b l.sound r.sound cols, cols)
  where
    keys : Same m (λ i. key (col i)) (λ i. key (col' i))
    keys = not_after_same m (λ i. key (col i)) (λ i. key (col' i)) (l.leads row' col' r.sound) (r.leads row col l.sound)

    cols : Same m col col'
    cols i h = d.once (col i) (col' i) (l.sound.cols.below i h) (r.sound.cols.below i h) (keys i h)
