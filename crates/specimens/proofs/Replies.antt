-- Replies to replacements of sound registers: one, computed, is right, and no other is. Rests on `pattern`.
use mathlib.Core.Bool.{Bool, true, false, cond}
use mathlib.Core.Path.{◌≡◌, refl, sym, ap, ◌∙◌, subst}
use Prim.Native.Nat.{◌<◌}
use lib.Dec.{T, ltb, ltb→lt, lt→ltb}
use Rattle.pattern.specs.Ladder.{Unless, fails, holds}
use Rattle.pattern.specs.Order.{SoundRegister}
use Rattle.pattern.specs.Rising.{Rising}
use Rattle.pattern.specs.Verdict.{Replacement, size, Taken, Verdict, Judged}
use Rattle.pattern.proofs.Computed.{verdict_of, verdict_right}
use Rattle.pattern.proofs.Rises.{rising, test_rising, rising_test}
use Rattle.pattern.proofs.Rungs.{unless_one}
use Rattle.pattern.proofs.Verdicts.{judged_unique}
use Rattle.specimens.specs.Reply.{Reply, Refused, Given, Replied}

unfoldable pub reply_of : Replacement → Reply
reply_of a = cond (ltb a.replaced (size a)) (cond (rising (size a) a.new_rows) (Given (verdict_of a)) (Refused 7)) (Refused 6)

module _ (a : Replacement) (s : SoundRegister a.columns a.order_rows a.order_cols) where
  taken : a.replaced < size a → Rising (size a) a.new_rows → Taken a
  taken c n = record { register = s; column_below = c; new_rise = n }

  pub reply_right : Replied a (reply_of a)
  unfolding reply_of
  reply_right = column (ltb a.replaced (size a)) refl
    where
      rows : (b : Bool) → rising (size a) a.new_rows ≡ b → a.replaced < size a
          → Unless (Rising (size a) a.new_rows) (Refused 7) (λ r. (v : Verdict) × (r ≡ Given v) × Judged a v) (cond b (Given (verdict_of a)) (Refused 7))
      rows true e c = let n = test_rising (size a) a.new_rows (subst T (sym e) tt) in holds n (verdict_of a, refl, verdict_right a (taken c n))
      rows false e c = fails (λ n. subst T e (rising_test (size a) a.new_rows n)) refl

      column : (b : Bool) → ltb a.replaced (size a) ≡ b
          → Replied a (cond b (cond (rising (size a) a.new_rows) (Given (verdict_of a)) (Refused 7)) (Refused 6))
      column true e = let c = ltb→lt a.replaced (size a) (subst T (sym e) tt) in holds c (rows (rising (size a) a.new_rows) refl c)
      column false e = fails (λ c. subst T e (lt→ltb a.replaced (size a) c)) refl

  pub reply_unique : (r r' : Reply) → Replied a r → Replied a r' → r ≡ r'
  reply_unique = unless_one (λ c. unless_one (λ n r r' x y. x.1 ∙ ap Given (judged_unique a (taken c n) x.0 y.0 x.2 y.2) ∙ sym y.1))
