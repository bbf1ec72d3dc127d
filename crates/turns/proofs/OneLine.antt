-- A line makes one thing of a run at most. Rests on specs/Turns.antt, `pattern`, `text`, `register`, `judge`, `replace` and `replies`.
use mathlib.Core.Bool.{Bool, true, false}
use mathlib.Core.List.{List, ◌∷◌}
use mathlib.Core.Path.{◌≡◌, sym, ap, ap₂, ◌∙◌, subst}
use Prim.Native.Nat.{ℕ, ◌+◌}
use lib.Dec.{leb}
use Rattle.pattern.proofs.Rungs.{unless_one}
use Rattle.listing.proofs.Determined.{same}
use Rattle.text.proofs.Speaking.{speaks_one}
use Rattle.register.specs.Lent.{Lists}
use Rattle.register.proofs.Determined.{started_one}
use Rattle.judge.specs.Call.{call}
use Rattle.replace.specs.Replace.{Outcome}
use Rattle.replace.proofs.Determined.{outcome_one}
use Rattle.replies.specs.Replies.{put_reply}
use Rattle.turns.specs.Turns.{Run, After, InTurn, taken, other, next_line, with_numbers, started_run, still_fits, with_column, StartDoes, ColEnds, PutDoes, LineDoes}
use Rattle.turns.specs.declared.Turn.{Turn}
use Rattle.turns.specs.declared.Turn.TheVariants as turn

-- Two outcomes that satisfy a statement are one.
abbrev pub One : {A : Type 0} → (A → Type 0) → Type 0
One {A} P = (a b : A) → P a → P b → a ≡ b

pub equal_one : {A : Type 0} {c : A} → One (λ a. a ≡ c)
equal_one a b = same

-- A line in its turn, where different `x` have different numbers.
in_turn_one : {A : Type 0} {word : List ℕ} {numbers : A → List ℕ} {Does : A → After → Type 0} {r : Run} → ((x y : A) → numbers x ≡ numbers y → x ≡ y)
    → ((x : A) → One (Does x)) → One (InTurn word numbers Does r)
in_turn_one {Does = Does} apart one a b (taken x s d) (taken y t e) = one x a b d (subst (λ z. Does z b) (sym (apart x y (speaks_one s t))) e)
in_turn_one apart one a b (taken x s d) (other n e) = absurd (n x s)
in_turn_one apart one a b (other n e) (taken x s d) = absurd (n x s)
in_turn_one apart one a b (other n e) (other n' e') = equal_one a b e e'

start_one : (r : Run) (m : ℕ) (numbers : List ℕ) (l : Lists) (fits : Bool) → One (StartDoes r m numbers l fits)
start_one r m numbers l false = equal_one
start_one r m numbers l true = λ a b x y. x.2 ∙ ap (started_run r m numbers) (started_one m l x.0 y.0 x.1 y.1) ∙ sym y.2

col_one : (last : Bool) (r : Run) (m c : ℕ) (rows : List ℕ) (l : Lists) (fits : Bool) → One (ColEnds last r m c rows l fits)
col_one true r m c rows l fits = start_one r m (c ∷ rows) l fits
col_one false r m c rows l fits = equal_one

put_one : (r : Run) (m : ℕ) (x : ℕ × List ℕ) → One (PutDoes r m x)
put_one r m x a b d e =
    d.2
    ∙ ap (λ (o : Outcome). next_line r (turn.Put m) (with_numbers r.lent (x.0 ∷ x.1) o.lists o.eta) (put_reply m x.0 o))
    (outcome_one (call m r.lent.lists x.0 x.1 r.lent.eta) d.0 e.0 d.1 e.1)
    ∙ sym e.2

pub line_one : (t : Turn) (r : Run) → One (LineDoes t r)
line_one turn.Order r = in_turn_one (λ m n e. cc e) (λ m. unless_one (λ _. equal_one))
line_one (turn.Column m c fits) r =
    in_turn_one (λ k l e. cc e)
    (λ rows.
    let f = still_fits r.lent.lists c rows fits in
    col_one (leb m (c + 1)) r m c rows (with_column r.lent.lists c rows f) f)
line_one (turn.Put m) r = in_turn_one (λ x y e. ap₂ (λ (c : ℕ) (l : List ℕ). (c, l)) (cc e) (cc e)) (put_one r m)
line_one turn.Ended r = equal_one
