-- What may be printed after a replacement: the order and the eta rows stand in their lists. Rests on specs/Shown.antt, `pattern`,
-- `listing`, `judge` and `replace`.
use mathlib.Core.List.{List}
use mathlib.Core.Path.{◌≡◌, sym, subst}
use Prim.Native.Nat.{ℕ, ◌+◌, ◌≤◌}
use native.Mathlib.Omega.{arith}
use lib.ListN.{length, drop, length-append, length-drop}
use Rattle.pattern.specs.Verdict.{Verdict, Singular, Permuted, Elimination, Judged}
use Rattle.pattern.proofs.Rungs.{unless_both}
use Rattle.listing.specs.Held.{over}
use Rattle.listing.proofs.Rises.{rising_few}
use Rattle.judge.specs.Call.{Call, asked}
use Rattle.judge.specs.Judge.{Judgeable}
use Rattle.judge.proofs.Asked.{call_size}
use Rattle.replace.specs.Replace.{Outcome, after, Replaces}
use Rattle.replies.specs.Shown.{Printable}

-- A list that was written over is as long as both.
module _ (new old : List ℕ) where
  over_sum : length (over new old) ≡ length new + length (drop (length new) old)
  over_sum = length-append new (drop (length new) old)

  pub over_long : length old ≤ length (over new old)
  over_long = omega (arith, over_sum, length-drop (length new) old)

  pub over_new_long : length new ≤ length (over new old)
  over_new_long = omega (arith, over_sum)

module _ (a : Call) where
  -- After an outcome.
  abbrev Shows : Outcome → Type 0
  Shows o = Printable a.size o.reply o.lists.order_rows o.lists.order_cols o.eta

  verdict_shown : Judgeable a → a.size ≤ length a.eta → (v : Verdict) → Judged (asked a) v → Shows (after a v)
  verdict_shown J h Singular j =
      let l = J.sound.long in
      record { small = J.sound.sized.1; in_rows = l.order_rows_fit; in_cols = l.order_cols_fit; few = omega arith; in_eta = omega arith }
  verdict_shown J h (Permuted p q) j =
      let l = J.sound.long in
      record {
        small = J.sound.sized.1;
        in_rows = omega (arith, l.order_rows_fit, over_long p a.lists.order_rows);
        in_cols = omega (arith, l.order_cols_fit, over_long q a.lists.order_cols);
        few = omega arith;
        in_eta = omega arith;
      }
  verdict_shown J h (Elimination p q b e) j =
      let l = J.sound.long in
      record {
        small = J.sound.sized.1;
        in_rows = omega (arith, l.order_rows_fit, over_long p a.lists.order_rows);
        in_cols = omega (arith, l.order_cols_fit, over_long q a.lists.order_cols);
        few = omega (arith, J.sound.sized.1, call_size J, rising_few j.eta_rises);
        in_eta = over_new_long e a.eta;
      }

  pub replaces_shown : (o : Outcome) → Replaces a o → Shows o
  replaces_shown o =
      unless_both Shows tt (λ p.
      unless_both Shows tt (λ q.
      unless_both Shows tt (λ f.
      unless_both Shows tt (λ g.
      unless_both Shows tt (λ t.
      unless_both Shows tt (λ c.
      unless_both Shows tt (λ n.
      unless_both Shows tt (λ w x.
      let J : Judgeable a = record { sound = record { sized = p; long = q.0; formed = f; agree = g; order = t }; column_below = c; new_rise = n } in
      subst Shows (sym x.2) (verdict_shown J q.1 x.0 x.1)))))))))
