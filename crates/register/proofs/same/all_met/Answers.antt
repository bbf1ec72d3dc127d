-- `all_met`: the first cursors are the starts behind the first.
use Rattle.std.proofs.lemmas.Bool.Decides.{Decides-eqb}
use Rattle.std.proofs.lemmas.Slice.Eq.{slice_eq-Decides}
use mathlib.Core.List.{List}
use mathlib.Core.Path.{◌≡◌, sym, ap, ◌∙◌}
use Prim.Native.Nat.{ℕ, ◌+◌, ◌<◌}
use native.Mathlib.Omega.{arith}
use lib.ListN.{take}
use lib.Seq.{ext_get_or, length-take-le, get_or-take}
use Rattle.pattern.specs.Places.{at}
use Rattle.listing.specs.Listing.{between}
use Rattle.listing.proofs.Answers.{says_as, told_decides}
use Rattle.listing.proofs.Between.{between_length, between_at}
use Rattle.register.proofs.same.all_met.Goals as goal

pub returns : goal.returns
returns c =
    let m = c.args.m in
    let next = c.args.next.now in
    let starts = c.args.starts.now in
    let long = length-take-le m next (omega arith) in
    let cursor : (r : ℕ) → r < m → at (take m next) r ≡ at next r = λ r h. get_or-take m next r 0 h in
    let end : (r : ℕ) → r < m → at (between 1 (m + 1) starts) r ≡ at starts (r + 1) = λ r h. between_at 1 (m + 1) starts r (omega arith) ∙ ap (at starts) (omega arith) in
    says_as
    (λ e r h. sym (cursor r h) ∙ ap (λ (l : List ℕ). at l r) e ∙ end r h)
    (λ all. ext_get_or 0 (take m next) (between 1 (m + 1) starts) (omega (arith, long, between_length 1 (m + 1) starts (omega arith)))
    (λ r h. let u : r < m = omega (arith, long) in cursor r u ∙ all r u ∙ sym (end r u)))
    (told_decides (slice_eq-Decides Decides-eqb _ _ _ c.eq.ensures))
