-- The outcome of a call, computed, and that it is right: so each call has one, and no other. Rests on specs/Replace.antt,
-- specs/ReplaceChecks.antt, `pattern`, `register` and `judge`.
use mathlib.Core.Bool.{◌&&◌}
use mathlib.Core.Path.{refl}
use Prim.Native.Nat.{ℕ}
use lib.Dec.{leb, ltb}
use lib.ListN.{length}
use Rattle.pattern.specs.Places.{at}
use Rattle.pattern.proofs.Computed.{verdict_of, verdict_right}
use Rattle.pattern.proofs.Rises.{rising}
use Rattle.register.specs.Lent.{Lists, columns}
use Rattle.register.proofs.Deciding.{says_most, says_below, says_both, checked, checked_right}
use Rattle.register.proofs.Decided.{sized, says_sized, long, says_long, formed, says_formed, agree, says_agree, ordered, says_ordered, says_rising, fitting, says_fitting}
use Rattle.judge.specs.Call.{Call, asked}
use Rattle.judge.proofs.Asked.{call_judged}
use Rattle.replace.specs.ReplaceChecks.{new_total}
use Rattle.replace.specs.Replace.{Outcome, refusal, after, Replaces}

module _ (a : Call) where
  abbrev m : ℕ
  m = a.size

  abbrev l : Lists
  l = a.lists

  -- The total with the new column.
  abbrev total : ℕ
  total = new_total m l.col_starts a.column (length a.new_rows)

  -- What comes of each check and those after it.
  abbrev from_8 : Outcome
  from_8 = checked (fitting total l.col_rows l.row_cols) (refusal a 8) (after a (verdict_of (asked a)))

  abbrev from_7 : Outcome
  from_7 = checked (rising m a.new_rows) (refusal a 7) from_8

  abbrev from_6 : Outcome
  from_6 = checked (ltb a.column m) (refusal a 6) from_7

  abbrev from_5 : Outcome
  from_5 = checked (ordered (columns m l) m (at l.order_rows) (at l.order_cols)) (refusal a 5) from_6

  abbrev from_4 : Outcome
  from_4 = checked (agree m l) (refusal a 4) from_5

  abbrev from_3 : Outcome
  from_3 = checked (formed m l) (refusal a 3) from_4

  abbrev from_2 : Outcome
  from_2 = checked (long m l && leb m (length a.eta)) (refusal a 2) from_3

  unfoldable pub outcome_of : Outcome
  outcome_of = checked (sized m) (refusal a 1) from_2

  pub outcome_right : Replaces a outcome_of
  unfolding outcome_of
  outcome_right =
      checked_right (sized m) from_2 (says_sized m) (λ p.
      checked_right (long m l && leb m (length a.eta)) from_3 (says_both (long m l) (leb m (length a.eta)) (says_long m l) (says_most m (length a.eta))) (λ q.
      checked_right (formed m l) from_4 (says_formed m l) (λ f.
      checked_right (agree m l) from_5 (says_agree m l f) (λ s.
      checked_right (ordered (columns m l) m (at l.order_rows) (at l.order_cols)) from_6 (says_ordered (columns m l) m (at l.order_rows) (at l.order_cols)) (λ t.
      checked_right (ltb a.column m) from_7 (says_below a.column m) (λ c.
      checked_right (rising m a.new_rows) from_8 (says_rising m a.new_rows) (λ n.
      checked_right (fitting total l.col_rows l.row_cols) (after a (verdict_of (asked a))) (says_fitting total l.col_rows l.row_cols) (λ w. (
        verdict_of (asked a),
        verdict_right (asked a)
            (call_judged {a = a} (record { sound = record { sized = p; long = q.0; formed = f; agree = s; order = t }; column_below = c; new_rise = n })),
        refl,
      )))))))))
