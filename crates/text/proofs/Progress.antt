-- How far a series has been measured or put: one thing more, all. Rests on SeriesLaws.antt and `listing`.
use mathlib.Core.List.{List, ◌++◌, append-nil, append_assoc}
use mathlib.Core.Path.{◌≡◌, refl, sym, ap, ◌∙◌, subst}
use Prim.Native.Nat.{ℕ, ◌+◌, ◌≤◌, ◌<◌}
use native.Mathlib.Omega.{arith}
use lib.ListN.{length, get_or, take, length-append}
use lib.Seq.{length-take-le}
use Rattle.listing.specs.Held.{over, put}
use Rattle.listing.proofs.Puts.{put_over, put_is_over, put_length}
use Rattle.text.specs.Puts.{Puts}
use Rattle.text.specs.Series.{series}
use Rattle.text.proofs.SeriesLaws.{left, left_more, left_all}

-- The bytes of the things before place `k` have been gone through, and something holds of them.
pub record Gone {A : Type 0} (one : ℕ → A → List ℕ) (after : ℕ → A → ℕ) (L : List A) (k s : ℕ) (F : List ℕ → Type 0) : Type 0 where
  pub bytes : List ℕ
  pub parts : bytes ++ left one after L k s ≡ series one after 0 L
  pub so : F bytes

module _ {A : Type 0} {one : ℕ → A → List ℕ} {after : ℕ → A → ℕ} {L : List A} {k s : ℕ} {F : List ℕ → Type 0} (g : Gone one after L k s F) where
  pub gone_more : {G : List ℕ → Type 0} (d : A) → k < length L → (F g.bytes → G (g.bytes ++ one s (get_or L k d)))
      → Gone one after L (k + 1) (after s (get_or L k d)) G
  gone_more d h f =
      record {
        bytes = g.bytes ++ one s (get_or L k d);
        parts = append_assoc g.bytes (one s (get_or L k d)) _ ∙ ap (λ (l : List ℕ). g.bytes ++ l) (sym (left_more one after L d k s h)) ∙ g.parts;
        so = f g.so;
      }

  pub gone_length : length g.bytes ≤ length (series one after 0 L)
  gone_length = omega (arith, ap length g.parts, length-append g.bytes (left one after L k s))

  pub gone_all : length L ≤ k → F (series one after 0 L)
  gone_all h = subst F (sym (append-nil g.bytes) ∙ ap (λ (l : List ℕ). g.bytes ++ l) (sym (left_all one after L k s h)) ∙ g.parts) g.so

-- ---- Measured

abbrev pub Measured : {A : Type 0} (one : ℕ → A → List ℕ) (after : ℕ → A → ℕ) (L : List A) (k s n : ℕ) → Type 0
Measured one after L k s n = Gone one after L k s (λ l. n ≡ length l)

module _ {A : Type 0} {one : ℕ → A → List ℕ} {after : ℕ → A → ℕ} {L : List A} {k s n : ℕ} (m : Measured one after L k s n) where
  pub measured_more : (d : A) {w : ℕ} → k < length L → w ≡ length (one s (get_or L k d)) → Measured one after L (k + 1) (after s (get_or L k d)) (n + w)
  measured_more d h e = gone_more m d h (λ u. omega (arith, length-append m.bytes (one s (get_or L k d))))

-- ---- Put

-- Bytes have been put, and others behind them.
pub puts_both : {k : ℕ} {a b old new newer : List ℕ} {i j : ℕ} → k ≤ length old → Puts k a old i new → Puts i b new j newer → Puts k (a ++ b) old j newer
puts_both {k} {a} {b} {old} {new} {newer} {i} {j} h p q =
    record {
      after = omega (arith, p.after, q.after, length-append a b);
      stand =
          q.stand
          ∙ ap (put i b) (p.stand ∙ put_is_over k a old h)
          ∙ put_over (take k old ++ a) b old i (omega (arith, p.after, length-append (take k old) a, length-take-le k old h))
          ∙ ap (λ (l : List ℕ). over l old) (append_assoc (take k old) a b)
          ∙ sym (put_is_over k (a ++ b) old h);
    }

pub puts_length : {k : ℕ} {l old new : List ℕ} {i : ℕ} → k + length l ≤ length old → Puts k l old i new → length new ≡ length old
puts_length {k} {l} {old} h p = ap length p.stand ∙ put_length k l old h

abbrev pub Putting : {A : Type 0} (one : ℕ → A → List ℕ) (after : ℕ → A → ℕ) (L : List A) (k s place here : ℕ) (old new : List ℕ) → Type 0
Putting one after L k s place here old new = Gone one after L k s (λ l. Puts place l old here new)

module _ {A : Type 0} {one : ℕ → A → List ℕ} {after : ℕ → A → ℕ} {L : List A} {k s place here : ℕ} {old new : List ℕ} (p : Putting one after L k s place here old new) (d : A)
    (h : k < length L) (room : place + length (series one after 0 L) ≤ length old) where
  pub putting_more : {here' : ℕ} {new' : List ℕ} → Puts here (one s (get_or L k d)) new here' new'
      → Putting one after L (k + 1) (after s (get_or L k d)) place here' old new'
  putting_more q = gone_more p d h (λ u. puts_both (omega arith) u q)

  pub putting_room : here + length (one s (get_or L k d)) ≤ length new
  putting_room =
      let q = putting_more (record { after = refl; stand = refl }) in
      omega (arith, p.so.after, puts_length (omega (arith, gone_length p)) p.so, gone_length q, length-append p.bytes (one s (get_or L k d)))

  -- A thing of two parts, one put behind the other.
  module _ (a b : List ℕ) (e : one s (get_or L k d) ≡ a ++ b) where
    pub first_room : here + length a ≤ length new
    first_room = omega (arith, putting_room, ap length e, length-append a b)

    module _ {here₁ : ℕ} {new₁ : List ℕ} (q : Puts here a new here₁ new₁) where
      pub second_room : here₁ + length b ≤ length new₁
      second_room = omega (arith, q.after, puts_length first_room q, putting_room, ap length e, length-append a b)

      pub putting_both : {here₂ : ℕ} {new₂ : List ℕ} → Puts here₁ b new₁ here₂ new₂ → Putting one after L (k + 1) (after s (get_or L k d)) place here₂ old new₂
      putting_both r = putting_more (rw e (puts_both (omega (arith, first_room)) q r))
