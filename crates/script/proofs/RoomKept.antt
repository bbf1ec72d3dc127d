-- What comes of a byte has room for every tryout where its run had. Rests on Roominess.antt, `pattern` and `turns`.
use mathlib.Core.Bool.{Bool, true, false, cond}
use mathlib.Core.List.{List, ◌∷◌}
use mathlib.Core.Path.{◌≡◌, sym, subst}
use Prim.Native.Nat.{ℕ, ◌+◌}
use lib.Dec.{eqb, leb}
use Rattle.pattern.proofs.Rungs.{unless_both}
use Rattle.text.specs.Text.{LF, max_line}
use Rattle.register.specs.Lent.{Lists}
use Rattle.judge.specs.Call.{call}
use Rattle.turns.specs.Turns.{Run, After, InTurn, taken, other, still_fits, with_column, StartDoes, ColEnds, LineDoes}
use Rattle.turns.specs.declared.Turn.{Turn}
use Rattle.turns.specs.declared.Turn.TheVariants as turn
use Rattle.script.specs.Feed.{Roomy}
use Rattle.script.specs.Tryout.{has_ended, ByteDoes, Byte}
use Rattle.script.proofs.Roominess.{Ample, roomy_first, takes_column, takes_started, outcome_room, roomy_numbers, roomy_byte}

module _ (r : Run) (R : Roomy r.lent) where
  abbrev Keeps : After → Type 0
  Keeps a = Roomy a.run.lent

  so : {a b : After} → Keeps b → a ≡ b → Keeps a
  so k e = subst Keeps (sym e) k

  in_turn_keeps : {A : Type 0} {word : List ℕ} {numbers : A → List ℕ} {Does : A → After → Type 0} {a : After} → ((x : A) → Does x a → Keeps a) → InTurn word numbers Does r a → Keeps a
  in_turn_keeps f (taken x s d) = f x d
  in_turn_keeps f (other n e) = so R e

  either : (b : Bool) (x y : After) → Keeps x → Keeps y → Keeps (cond b x y)
  either true x y k j = k
  either false x y k j = j

  start_keeps : (m : ℕ) (new : List ℕ) (l : Lists) (fits : Bool) (a : After) → Ample l → StartDoes r m new l fits a → Keeps a
  start_keeps m new l false a T e = so (roomy_numbers R new T R.eta) e
  start_keeps m new l true a T (o, s, e) =
      let K = roomy_numbers R new (takes_started T m o s) R.eta in
      so (either (eqb o.fault 0) _ _ K K) e

  col_keeps : (last : Bool) (m c : ℕ) (rows : List ℕ) (l : Lists) (fits : Bool) (a : After) → Ample l → ColEnds last r m c rows l fits a → Keeps a
  col_keeps true m c rows l fits a T d = start_keeps m (c ∷ rows) l fits a T d
  col_keeps false m c rows l fits a T d = so (roomy_numbers R (c ∷ rows) T R.eta) d

  line_keeps : (t : Turn) (a : After) → LineDoes t r a → Keeps a
  line_keeps turn.Order a d = in_turn_keeps (λ m. unless_both Keeps R (λ s e. so (roomy_first R) e)) d
  line_keeps (turn.Column m c fits) a d =
      in_turn_keeps (λ rows.
      let f = still_fits r.lent.lists c rows fits in
      col_keeps (leb m (c + 1)) m c rows (with_column r.lent.lists c rows f) f a (takes_column R.register c rows f)) d
  line_keeps (turn.Put m) a d =
      in_turn_keeps (λ x e.
      let H = outcome_room (call m r.lent.lists x.0 x.1 r.lent.eta) R.register R.eta e.0 e.1 in
      so (roomy_numbers R (x.0 ∷ x.1) H.register H.eta) e.2) d
  line_keeps turn.Ended a d = so R d

  byte_does_keeps : (ended lf full : Bool) (b : ℕ) (a : After) → ByteDoes ended lf full r b a → Keeps a
  byte_does_keeps true lf full b a d = so R d
  byte_does_keeps false true full b a d = line_keeps r.state.turn a d
  byte_does_keeps false false true b a d = so R d
  byte_does_keeps false false false b a d = so (roomy_byte R r.state.used b) d

  pub byte_keeps : (b : ℕ) (a : After) → Byte r b a → Roomy a.run.lent
  byte_keeps b a d = byte_does_keeps (has_ended r.state) (eqb b LF) (eqb r.state.used max_line) b a d
