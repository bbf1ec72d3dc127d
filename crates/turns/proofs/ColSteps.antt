-- What a 'col' line makes of a run, from what was stored of it: the next line, or the start. Rests on specs/Steps.antt and
-- Makings.antt.
use mathlib.Core.Bool.{Bool}
use mathlib.Core.List.{List, [], ◌∷◌}
use mathlib.Core.Path.{◌≡◌, sym, subst}
use Prim.Native.Nat.{ℕ, ◌+◌, ◌≤◌, ◌<◌}
use lib.Dec.{leb}
use borrow.Author.Tests.{le-leb, lt-leb}
use Rattle.listing.specs.Held.{over}
use Rattle.text.specs.Prints.{Prints}
use Rattle.text.specs.Text.{Speaks}
use Rattle.text.specs.declared.output.Output.{Output}
use Rattle.register.specs.Lent.{Lists}
use Rattle.turns.specs.Steps.{Makes}
use Rattle.turns.specs.Turns.{col_word, Run, state, run, lent, After, after, line_so_far, still_fits, with_column, with_numbers, StartDoes, ColEnds, ColDoes, LineDoes}
use Rattle.turns.specs.declared.State.{State}
use Rattle.turns.specs.declared.Turn.TheVariants as turn
use Rattle.turns.proofs.Makings.{same_after, makes_taken}

-- The line was column `c`'s: its numbers are kept in the list `new`, and where its rows fit they are in the lists `l`.
pub record ColStored (r : Run) (c : ℕ) (fits now_fits : Bool) (l : Lists) (new : List ℕ) : Type 0 where
  pub rows : List ℕ
  pub says : Speaks (line_so_far r) col_word (c ∷ rows)
  pub fitting : now_fits ≡ still_fits r.lent.lists c rows fits
  pub stands : l ≡ with_column r.lent.lists c rows now_fits
  pub kept : new ≡ over (c ∷ rows) r.lent.numbers

module _ (r : Run) (m c : ℕ) (fits : Bool) {now_fits : Bool} {l : Lists} {new : List ℕ} (t : ColStored r c fits now_fits l new) where
  -- What is done with what was stored is what the line does.
  does_stored : {last : Bool} (a : After) → leb m (c + 1) ≡ last → ColEnds last r m c t.rows l now_fits a → ColDoes r m c fits t.rows a
  does_stored {last} a e d =
      let L = r.lent.lists in
      let b = still_fits L c t.rows fits in
      subst (λ (last : Bool). ColEnds last r m c t.rows (with_column L c t.rows b) b a) (sym e)
      (subst (λ (b : Bool). ColEnds last r m c t.rows (with_column L c t.rows b) b a) t.fitting
      (subst (λ (l : Lists). ColEnds last r m c t.rows l now_fits a) t.stands d))

  module _ {s : State} {out out' : Output} where
    -- The numbers are those of the line.
    made : {l' : Lists} (said : List ℕ) → ColDoes r m c fits t.rows (after (run s (with_numbers r.lent (c ∷ t.rows) l' r.lent.eta)) said)
        → Prints said out out' → Makes (LineDoes (turn.Column m c fits) r) out (run s (lent l' r.lent.eta new r.lent.line)) out'
    made {l'} said d p =
        subst (λ (n : List ℕ). Makes (LineDoes (turn.Column m c fits) r) out (run s (lent l' r.lent.eta n r.lent.line)) out') (sym t.kept)
        (makes_taken r t.rows said t.says d p)

    -- A column before the last.
    pub col_goes_on : c + 1 < m → s ≡ state (turn.Column m (c + 1) now_fits) (r.state.number + 1) 0 → Prints [] out out'
        → Makes (LineDoes (turn.Column m c fits) r) out (run s (lent l r.lent.eta new r.lent.line)) out'
    col_goes_on h e p =
        let now = with_numbers r.lent (c ∷ t.rows) l r.lent.eta in
        made [] (does_stored (after (run s now) []) (lt-leb m (c + 1) h) (same_after now [] e)) p

    -- The last.
    pub col_opens : {l' : Lists} → m ≤ c + 1
        → Makes (StartDoes r m (c ∷ t.rows) l now_fits) out (run s (with_numbers r.lent (c ∷ t.rows) l' r.lent.eta)) out'
        → Makes (LineDoes (turn.Column m c fits) r) out (run s (lent l' r.lent.eta new r.lent.line)) out'
    col_opens {l'} h k =
        made k.said (does_stored (after (run s (with_numbers r.lent (c ∷ t.rows) l' r.lent.eta)) k.said) (le-leb m (c + 1) h) k.does) k.prints
