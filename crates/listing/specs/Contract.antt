-- When a contract, as the source states it, leaves no choice. Said once for every function: `ps` and `r` are those of the function's
-- generated module `Kinds`, `Pre` and `Post` those of its `Reads`, which compute to its `requires` and its `ensures`. Rests on
-- nothing.
use Rattle.std.specs.Prelude.{List, ◌≡◌, ℕ}
use contract.Lifetimes.{Lfts}
use denote.Triple.Clauses.{Lasts, at_exit}
use borrow.Fn.Kind.{ParamKind, ResultKind}
use borrow.Fn.Kinds.{In, Out, Dens, res_t, ended_of}

module _ {n : ℕ} (ps : List (ParamKind n)) (r : ResultKind n) (Pre : In n ps) (Post : Out n ps r) where
  -- For one input that it takes there are not two outcomes: neither two results, as far as `seen` sees them, nor two contents of
  -- what was lent, as far as `left` does.
  abbrev pub DeterminedAs : {B : Lfts n → Type 0} {C : (κs : Lfts n) → Dens κs ps → Type 0} → ((κs : Lfts n) → (res_t r κs).Denot → B κs)
      → ((κs : Lfts n) (a : Dens κs ps) → Lasts (ended_of n ps r) κs a → C κs a) → Type 0
  DeterminedAs seen left =
      (κs : Lfts n) (a : Dens κs ps) → Pre κs a → (x y : (res_t r κs).Denot) (ws vs : Lasts (ended_of n ps r) κs a)
      → Post κs a x (at_exit (ended_of n ps r) κs a ws) → Post κs a y (at_exit (ended_of n ps r) κs a vs)
      → (seen κs x ≡ seen κs y) × (left κs a ws ≡ left κs a vs)

  -- The whole of both.
  abbrev pub Determined : Type 0
  Determined = DeterminedAs (λ κs x. x) (λ κs a ws. ws)
