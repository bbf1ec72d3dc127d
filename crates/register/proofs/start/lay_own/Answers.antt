-- `lay_own`: the places before t hold their own numbers.
use mathlib.Core.List.{List, ◌++◌}
use mathlib.Core.Path.{◌≡◌, sym, ap₂, ◌∙◌}
use Prim.Native.Nat.{ℕ}
use native.Mathlib.Omega.{arith}
use lib.ListN.{length, drop}
use lib.Seq.{ext_get_or, length-take-le}
use Rattle.pattern.proofs.Each.{length_each, each_at}
use Rattle.register.specs.Start.{own_places}
use Rattle.register.proofs.start.lay_own.Goals as goal

pub returns : goal.returns
returns c =
    let m = c.args.m in
    let l = c.args.list.now in
    let n = length-take-le m l (omega arith) in
    let own : length (own_places m) ≡ m = length_each (λ t. t) m in
    let all : c.loop-t.number-items ≡ own_places m = ext_get_or 0 _ (own_places m) (omega (arith, n, own)) (λ i h. c.loop-t.invariant i (omega (arith, n)) ∙ sym (each_at (λ t. t) m i 0 (omega (arith, n)))) in
    ap₂ (λ (j : List ℕ) (k : ℕ). j ++ drop k l) all (sym own)
