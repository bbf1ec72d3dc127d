-- A column is exchanged, and place `e` is past those of its new rows. The columns of the places before `e` have rows of such places
-- alone, and every sound order pairs them with these rows. So a peel that has not taken them all can go on with one of them, where
-- there is a sound order. Rests on Peeling.antt, Growing.antt and Finding.antt.
use mathlib.Core.Path.{◌≡◌, sym, ap, ◌∙◌, subst}
use mathlib.Core.List.{List}
use Prim.Native.Nat.{ℕ, ◌≤◌, ◌<◌}
use native.Mathlib.Decide.{ℕ_discrete, dec_lt}
use native.Mathlib.Omega.{arith}
use Rattle.pattern.specs.Order.{Sound, Triangular}
use Rattle.pattern.specs.Pattern.{Pattern, RowsBelow, Spiked}
use Rattle.pattern.specs.Peel.{Available}
use Rattle.pattern.specs.Places.{at, Once, place}
use Rattle.pattern.proofs.Finding.{place_at, place_of, place_once, one_outside}
use Rattle.pattern.proofs.Growing.{Grown}
use Rattle.pattern.proofs.Once.{once_part, once_through, onto}
use Rattle.pattern.proofs.Pairing.{partner, partner_at, order_choice}
use Rattle.pattern.proofs.Peeling.{never_stuck_in}

module _ {E E' : Pattern} {m c e : ℕ} {New : ℕ → Type 0} {row col : ℕ → ℕ} (s : Sound E m row col) (w : Spiked E E' c New) (b : RowsBelow E' m)
    (within : e ≤ m) (new_low : (r : ℕ) → New r → place row m r < e) where
  -- A column of a place before `e` has rows of such places alone.
  pub rows_low : (t r : ℕ) → t < e → E' r (col t) → place row m r < e
  rows_low t r h u = go (ℕ_discrete (col t) c)
    where
      go : Dec (col t ≡ c) → place row m r < e
      go (yes z) = new_low r ((w.changed r).0 (subst (E' r) z u))
      go (no n) =
          let q = place_of s.rows r (b r (col t) u) in
          let up = s.upper (place row m r) t q.0 (omega arith) (subst (λ (x : ℕ). E x (col t)) (sym q.1) ((w.others r (col t) n).1 u)) in
          omega arith

  module _ {row' col' : ℕ → ℕ} (s' : Sound E' m row' col') where
    -- The place of the row that the order pairs with the column of place `i`.
    abbrev row_of : ℕ → ℕ
    row_of i = place row m (partner m row' col' (col i))

    row_of_once : Once row_of e e
    row_of_once =
        record {
          below = λ i h. rows_low i (partner m row' col' (col i)) h ((order_choice s').chosen (col i) (s.cols.below i (omega arith)));
          once = (once_part e within (once_through s.cols (once_through (order_choice s').rows (place_once s.rows)))).once;
        }

    -- A row of a place before `e` is paired with a column of such a place.
    paired_low : (j : ℕ) → j < m → place row m (row' j) < e → place col m (col' j) < e
    paired_low j h u =
        let a = onto row_of_once (place row m (row' j)) u in
        let i = a.0 in
        let v : i < m = omega (arith, a.1) in
        let r : partner m row' col' (col i) ≡ partner m row' col' (col' j) =
        (place_once s.rows).once (partner m row' col' (col i)) (row' j) ((order_choice s').rows.below (col i) (s.cols.below i v)) (s'.rows.below j h) a.2 ∙ sym (partner_at s' j h) in
        let z : col i ≡ col' j = (order_choice s').rows.once (col i) (col' j) (s.cols.below i v) (s'.cols.below j h) r in
        omega (arith, a.1, ap (place col m) z, place_at s.cols i v)

  pub window_stuck : {key : ℕ → ℕ} {n : ℕ} {ps qs : List ℕ} → Grown E' m key n ps qs → n < e
      → ((y r : ℕ) → place col m y < e → ¬ Available E' m n (at ps) (at qs) y r) → ¬ Triangular E' m
  window_stuck {n = n} {qs = qs} g h none t =
      let f = one_outside {g = at qs} h (once_part e within s.cols) in
      let i = f.0 in
      let u : i < m = omega (arith, f.1) in
      let a =
      never_stuck_in b t.2 g.peel (λ y. place col m y < e) (λ y. dec_lt (place col m y) e)
      (λ x j hx hj k v. paired_low t.2 j hj (closed t.1 t.2.cols x hx k v))
      (col i) (s.cols.below i u) (omega (arith, f.1, place_at s.cols i u)) f.2 in
      none a.0 a.1 a.2 a.3
    where
      closed : (col' : ℕ → ℕ) → Once col' m m → (x : ℕ) → x < m → place col m (col' x) < e → {r : ℕ} → E' r (col' x) → place row m r < e
      closed col' o x h k {r} v = let q = place_of s.cols (col' x) (o.below x h) in rows_low (place col m (col' x)) r k (rw q.1 v)
