-- `put_line`: the replacement and its reply, or any other line.
use mathlib.Core.List.{List, ◌∷◌}
use mathlib.Core.Path.{◌≡◌, ap}
use Prim.Native.Nat.{ℕ, suc}
use native.Mathlib.Omega.{arith}
use lib.ListN.{length, take}
use Rattle.text.specs.Text.{Speaks}
use Rattle.text.proofs.HeardNumbers.{heard_are, heard_some}
use Rattle.text.proofs.Kept.{kept_rows}
use Rattle.register.specs.Lent.{Lists}
use Rattle.replies.specs.Replies.{put_word}
use Rattle.replies.proofs.Showing.{replaces_shown}
use Rattle.turns.proofs.Makings.{makes_bad}
use Rattle.turns.proofs.PutSteps.{makes_put}
use Rattle.turns.proofs.put_turn.put_line.Goals as goal
use Rattle.turns.proofs.put_turn.put_line.Goals.{After-view-lent, Else-count-eq0}

-- A column number and rows were heard.
module _ (c : Else-count-eq0) where
  abbrev line : List ℕ
  line = take c.args.state.used c.args.line.now

  abbrev column : ℕ
  column = c.in-Some.field-0.first

  rows : (rows : List ℕ) × Speaks line put_word (column ∷ rows) × (c.in-Some.field-0.count ≡ suc (length rows))
  unfolding put_word
  rows = heard_some put_word line c.in-Some.ensures c.if-count-eq0.false

pub returns-in_default-clause-makes : goal.returns-in_default-clause-makes
unfolding put_word
returns-in_default-clause-makes c =
    let b = c.bad.ensures in makes_bad _ (λ x s. c.in_default.ensures (x.0 ∷ x.1, s)) b.0 b.1

pub returns-then-count-eq0-clause-makes : goal.returns-then-count-eq0-clause-makes
unfolding put_word
returns-then-count-eq0-clause-makes c =
    let b = c.bad-then-count-eq0.ensures in
    makes_bad _ (λ x s. absurd (omega (arith, c.if-count-eq0.true, (heard_are put_word (take c.args.state.used c.args.line.now) c.in-Some.ensures s).1))) b.0 b.1

-- What is printed of the lists stands in them.
module _ (c : After-view-lent) where
  rows_seen : c.view-lent.result.order_rows.now ≡ c.replace-replaced.new.lists.order_rows.now
  rows_seen = ap (λ (l : Lists). l.order_rows) c.view-lent.ensures

  cols_seen : c.view-lent.result.order_cols.now ≡ c.replace-replaced.new.lists.order_cols.now
  cols_seen = ap (λ (l : Lists). l.order_cols) c.view-lent.ensures

pub put_reply-requires : goal.put_reply-requires
put_reply-requires c =
    let seen = (goal.at.put_reply-requires c).After-view-lent in (
      (rows (goal.at.put_reply-requires c).Else-count-eq0).1.small 0 (omega arith),
      rw (rows_seen seen, cols_seen seen) (replaces_shown _ _ c.replace-replaced.ensures.replaces),
      c.requires.0.room,
    )

pub returns-clause-makes : goal.returns-clause-makes
unfolding put_word
returns-clause-makes c =
    let heard = (goal.at.returns-clause-makes c).Else-count-eq0 in
    let seen = (goal.at.returns-clause-makes c).After-view-lent in
    let kept = c.keep.ensures (column heard ∷ (rows heard).0) (rows heard).1 in
    makes_put _ c.args.size (column heard) (rows heard).0 (rows heard).1 (kept_rows (column heard) (rows heard).0 c.args.numbers.now kept (rows heard).2) kept c.replace-replaced.ensures.replaces c.next_line.ensures
    (rw (rows_seen seen, cols_seen seen) at c.put_reply.ensures)
