-- A part by its beginning and its length. Rests on `listing`.
use mathlib.Core.List.{List}
use mathlib.Core.Path.{◌≡◌, subst}
use Prim.Native.Nat.{ℕ, ◌+◌, ◌-◌}
use native.Mathlib.Omega.{arith}
use Rattle.listing.specs.Look.{Spans}
use Rattle.listing.proofs.Spans.{in_order}

pub by_length : {m c : ℕ} {starts rows : List ℕ} {from to b n : ℕ} → Spans m c starts rows (from, to) → b ≡ from → n ≡ to - from
    → Spans m c starts rows (b, b + n)
by_length {m} {c} {starts} {rows} {from} {to} {b} {n} s eb en =
    let et : to ≡ b + n = omega (arith, in_order s) in
    subst (Spans m c starts rows) (cc (eb, et)) s
