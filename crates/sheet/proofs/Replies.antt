-- The two kinds of reply are apart. Rests on specs/Reply.antt.
use mathlib.Core.Path.{◌≡◌, ap}
use Prim.Native.Nat.{ℕ}
use native.Mathlib.Omega.{arith}
use Rattle.sheet.specs.Reply.{Reply, REFUSED, ACCEPTED}

figure_of : Reply → ℕ
figure_of (REFUSED n) = 0
figure_of (ACCEPTED n) = n

pub same_figure : {n k : ℕ} → ACCEPTED n ≡ ACCEPTED k → n ≡ k
unfolding figure_of
same_figure e = ap figure_of e

pub not_both : {A : Type 0} {n k : ℕ} → REFUSED n ≡ ACCEPTED k → A
not_both e = let z : ◌≡◌ {A = ℕ} 0 1 = cc e in absurd (omega arith)
