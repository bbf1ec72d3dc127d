-- How far a series has been put into what bytes go into. Rests on specs/Sink.antt, `listing` and `text`.
use mathlib.Core.List.{List, ◌++◌}
use mathlib.Core.Path.{◌≡◌}
use Prim.Native.Nat.{ℕ, ◌+◌, ◌<◌}
use native.Mathlib.Omega.{arith}
use lib.ListN.{length, get_or, length-append}
use Rattle.text.specs.Series.{series}
use Rattle.text.proofs.Progress.{Gone, gone_more, gone_length}
use Rattle.sheet.specs.Sink.{SinkLaws}

-- The bytes of the things before place `k` have been put.
abbrev pub Putting : {S A : Type 0} (after : S → List ℕ → S → Type 0) (one : ℕ → A → List ℕ) (next : ℕ → A → ℕ) (L : List A) (k n : ℕ) (start here : S) → Type 0
Putting after one next L k n start here = Gone one next L k n (λ l. after start l here)

module _ {S : Type 0} {room : S → ℕ → Type 0} {after : S → List ℕ → S → Type 0} (laws : SinkLaws room after) where
  -- A thing of two parts.
  module _ (s : S) (a b : List ℕ) (r : room s (length (a ++ b))) where
    pub first_room : room s (length a)
    first_room = laws.less s (length a) (length (a ++ b)) (omega (arith, length-append a b)) r

    module _ {t : S} (p : after s a t) where
      pub second_room : room t (length b)
      second_room = laws.left s a t (length b) (laws.less s (length a + length b) (length (a ++ b)) (omega (arith, length-append a b)) r) p

      pub put_both : {u : S} → after t b u → after s (a ++ b) u
      put_both {u} q = laws.both s a t b u first_room p q

  module _ {A : Type 0} {one : ℕ → A → List ℕ} {next : ℕ → A → ℕ} {L : List A} {k n : ℕ} {start here : S}
      (g : Putting after one next L k n start here) (d : A) (h : k < length L) (r : room start (length (series one next 0 L))) where
    pub putting_room : room here (length (one n (get_or L k d)))
    putting_room =
        let a = one n (get_or L k d) in
        let q = gone_more g {G = λ l. length l ≡ length g.bytes + length a} d h (λ u. length-append g.bytes a) in
        laws.left start g.bytes here (length a) (laws.less start _ (length (series one next 0 L)) (omega (arith, gone_length q, q.so)) r) g.so

    pub putting_more : {t : S} → after here (one n (get_or L k d)) t → Putting after one next L (k + 1) (next n (get_or L k d)) start t
    putting_more {t} p =
        gone_more g d h (λ u. laws.both start g.bytes here (one n (get_or L k d)) t (laws.less start (length g.bytes) (length (series one next 0 L)) (gone_length g) r) u p)
