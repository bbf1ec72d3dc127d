-- Two runs that stand alike, in lists that may differ beyond what has been read: what makes the next line of both, and their end,
-- alike. Rests on SameColumns.antt, SameRegisters.antt and specs/Feed.antt.
use mathlib.Core.Bool.{Bool, true, false}
use mathlib.Core.List.{List}
use mathlib.Core.Path.{◌≡◌, refl, sym, subst₂}
use Prim.Native.Nat.{ℕ}
use Rattle.register.specs.Lent.{Lists}
use Rattle.turns.specs.Turns.{Lent, lent, Run, run, After, line_so_far, next_line, ends, bad}
use Rattle.turns.specs.declared.State.{State}
use Rattle.turns.specs.declared.Turn.{Turn}
use Rattle.turns.specs.declared.Turn.TheVariants as turn
use Rattle.script.specs.Feed.{Roomy}
use Rattle.script.proofs.SameColumns.{ColumnsAgree}
use Rattle.script.proofs.SameRegisters.{RegistersAgree}

-- Where the columns fit so far, they are the same.
abbrev pub FittingAgree : Bool → (c : ℕ) → Lists → Lists → Type 0
FittingAgree true c l l' = ColumnsAgree c l l'
FittingAgree false c l l' = Unit {0}

-- The registers' lists hold the same, as far as the turn has come.
abbrev pub TurnAgree : Turn → Lists → Lists → Type 0
TurnAgree turn.Order l l' = Unit {0}
TurnAgree (turn.Column m c fits) l l' = FittingAgree fits c l l'
TurnAgree (turn.Put m) l l' = RegistersAgree m l l'
TurnAgree turn.Ended l l' = Unit {0}

pub record RunsAgree (r r' : Run) : Type 0 where
  pub same_state : r.state ≡ r'.state
  pub same_line : line_so_far r ≡ line_so_far r'
  pub roomy : Roomy r.lent
  pub roomy' : Roomy r'.lent
  pub lists : TurnAgree r.state.turn r.lent.lists r'.lent.lists

-- And the same was printed.
pub record AftersAgree (a a' : After) : Type 0 where
  pub runs : RunsAgree a.run a'.run
  pub same_said : a.said ≡ a'.said

pub so_agree : {a a' b b' : After} → AftersAgree b b' → a ≡ b → a' ≡ b' → AftersAgree a a'
so_agree A e e' = subst₂ AftersAgree (sym e) (sym e') A

module _ {s : State} {l l' : Lent} (A : RunsAgree (run s l) (run s l')) where
  pub next_agree : (t : Turn) {k k' : Lent} {said said' : List ℕ} → Roomy k → Roomy k' → TurnAgree t k.lists k'.lists → said ≡ said'
      → AftersAgree (next_line (run s l) t k said) (next_line (run s l') t k' said')
  next_agree t R R' B e = record { runs = record { same_state = refl; same_line = refl; roomy = R; roomy' = R'; lists = B }; same_said = e }

  pub ends_agree : {k k' : Lists} {eta eta' n n' : List ℕ} (said : List ℕ) → Roomy (lent k eta n l.line) → Roomy (lent k' eta' n' l'.line)
      → AftersAgree (ends (run s l) (lent k eta n l.line) said) (ends (run s l') (lent k' eta' n' l'.line) said)
  ends_agree said R R' = record { runs = record { same_state = refl; same_line = A.same_line; roomy = R; roomy' = R'; lists = tt }; same_said = refl }

  pub bad_agree : AftersAgree (bad (run s l)) (bad (run s l'))
  bad_agree = ends_agree _ A.roomy A.roomy'
