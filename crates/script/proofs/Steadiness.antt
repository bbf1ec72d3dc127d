-- What a byte leaves of a run's state: the wanted column stays one of the register's, no more than a line is being read, and there is
-- one line more at most. Rests on specs/Feed.antt and `pattern`.
use mathlib.Core.Bool.{Bool, true, false, cond}
use mathlib.Core.List.{List, ◌∷◌}
use mathlib.Core.Path.{◌≡◌, refl, sym, subst}
use Prim.Native.Nat.{ℕ, ◌+◌, ◌≤◌}
use native.Mathlib.Omega.{arith}
use lib.Dec.{eqb, leb}
use borrow.Author.Tests.{eqb-false, leb-false}
use Rattle.pattern.proofs.Rungs.{unless_both}
use Rattle.text.specs.Text.{LF, max_line}
use Rattle.register.specs.Lent.{Lists}
use Rattle.turns.specs.Turns.{Run, state, After, InTurn, taken, other, still_fits, with_column, StartDoes, ColEnds, LineDoes}
use Rattle.turns.specs.declared.State.{State}
use Rattle.turns.specs.declared.Turn.{Turn}
use Rattle.turns.specs.declared.Turn.TheVariants as turn
use Rattle.script.specs.Feed.{TurnRight}
use Rattle.script.specs.Tryout.{has_ended, ByteDoes, Byte}

pub record Still (s s' : State) : Type 0 where
  pub turn_right : TurnRight s'.turn
  pub line_short : s'.used ≤ max_line
  pub number : s'.number ≤ s.number + 1

module _ (r : Run) (right : TurnRight r.state.turn) (short : r.state.used ≤ max_line) where
  abbrev Stays : After → Type 0
  Stays a = Still r.state a.run.state

  next_stays : (t : Turn) → TurnRight t → Still r.state (state t (r.state.number + 1) 0)
  next_stays t p = record { turn_right = p; line_short = omega arith; number = omega arith }

  ends_stays : Still r.state (state turn.Ended r.state.number r.state.used)
  ends_stays = record { turn_right = tt; line_short = short; number = omega arith }

  so : {a b : After} → Stays b → a ≡ b → Stays a
  so s e = subst Stays (sym e) s

  stays : Still r.state r.state
  stays = record { turn_right = right; line_short = short; number = omega arith }

  in_turn_stays : {A : Type 0} {word : List ℕ} {numbers : A → List ℕ} {Does : A → After → Type 0} {a : After} → ((x : A) → Does x a → Stays a) → InTurn word numbers Does r a → Stays a
  in_turn_stays f (taken x s d) = f x d
  in_turn_stays f (other n e) = so ends_stays e

  either : (b : Bool) (x y : After) → Stays x → Stays y → Stays (cond b x y)
  either true x y s t = s
  either false x y s t = t

  start_stays : (m : ℕ) (numbers : List ℕ) (l : Lists) (fits : Bool) (a : After) → StartDoes r m numbers l fits a → Stays a
  start_stays m numbers l false a e = so ends_stays e
  start_stays m numbers l true a (o, s, e) = so (either (eqb o.fault 0) _ _ (next_stays (turn.Put m) tt) ends_stays) e

  col_stays : (last : Bool) (m c : ℕ) → leb m (c + 1) ≡ last → m ≤ 1000 → (rows : List ℕ) (l : Lists) (fits : Bool) (a : After) → ColEnds last r m c rows l fits a → Stays a
  col_stays true m c e h rows l fits a d = start_stays m (c ∷ rows) l fits a d
  col_stays false m c e h rows l fits a d = so (next_stays (turn.Column m (c + 1) fits) (leb-false m (c + 1) e, h)) d

  line_stays : (t : Turn) → TurnRight t → (a : After) → LineDoes t r a → Stays a
  line_stays turn.Order p a d = in_turn_stays (λ m. unless_both Stays ends_stays (λ s e. so (next_stays (turn.Column m 0 true) (s.0, s.1)) e)) d
  line_stays (turn.Column m c fits) p a d =
      in_turn_stays (λ rows. let f = still_fits r.lent.lists c rows fits in col_stays (leb m (c + 1)) m c refl p.1 rows (with_column r.lent.lists c rows f) f a) d
  line_stays (turn.Put m) p a d = in_turn_stays (λ x e. so (next_stays (turn.Put m) tt) e.2) d
  line_stays turn.Ended p a d = so stays d

  byte_does_stays : (ended lf full : Bool) → eqb r.state.used max_line ≡ full → (b : ℕ) (a : After) → ByteDoes ended lf full r b a → Stays a
  byte_does_stays true lf full e b a d = so stays d
  byte_does_stays false true full e b a d = line_stays r.state.turn right a d
  byte_does_stays false false true e b a d = so ends_stays d
  byte_does_stays false false false e b a d =
      let n = eqb-false r.state.used max_line e in
      so (record { turn_right = right; line_short = omega arith; number = omega arith }) d

  pub byte_stays : (b : ℕ) (a : After) → Byte r b a → Stays a
  byte_stays b a d = byte_does_stays (has_ended r.state) (eqb b LF) (eqb r.state.used max_line) refl b a d
