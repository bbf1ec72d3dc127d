-- A line makes of runs that stand alike runs that stand alike, and prints the same for both. Rests on SameRuns.antt,
-- SameStarts.antt, SameOutcomes.antt, Roominess.antt, `listing`, `text`, `register`, `judge`, `replies` and `turns`.
use mathlib.Core.Bool.{Bool, true, false, cond, false≢true}
use mathlib.Core.List.{List, [], ◌∷◌}
use mathlib.Core.Path.{◌≡◌, refl, sym, ap, ap₂, subst}
use Prim.Native.Nat.{ℕ, ◌+◌, ◌≤◌, ◌<◌}
use native.Mathlib.Omega.{arith}
use lib.Dec.{eqb, leb}
use lib.ListN.{length}
use borrow.Author.Tests.{eqb-true, leb-true}
use Rattle.pattern.specs.Places.{at}
use Rattle.listing.specs.Limits.{max_size, max_total}
use Rattle.text.specs.Text.{Speaks}
use Rattle.text.proofs.Speaking.{speaks_one}
use Rattle.register.specs.Lent.{Lists}
use Rattle.register.specs.Start.{Started}
use Rattle.judge.specs.Call.{call}
use Rattle.replies.specs.Replies.{start_refused}
use Rattle.turns.specs.Turns.{Lent, Run, run, After, line_so_far, next_line, ends, InTurn, taken, other, OrderDoes, still_fits, with_column, with_numbers, started_run, StartDoes, ColEnds, ColDoes, PutDoes, LineDoes}
use Rattle.turns.specs.declared.State.{State}
use Rattle.turns.specs.declared.Turn.{Turn}
use Rattle.turns.specs.declared.Turn.TheVariants as turn
use Rattle.script.specs.Feed.{TurnRight, Roomy}
use Rattle.script.proofs.Roominess.{Ample, roomy_first, takes_column, takes_started, outcome_room, roomy_numbers}
use Rattle.script.proofs.SameColumns.{columns_none, columns_more}
use Rattle.script.proofs.SameOutcomes.{outcomes_agree, reply_same}
use Rattle.script.proofs.SameRegisters.{RegistersAgree}
use Rattle.script.proofs.SameRuns.{FittingAgree, TurnAgree, RunsAgree, AftersAgree, so_agree, next_agree, ends_agree, bad_agree}
use Rattle.script.proofs.SameStarts.{StartsAgree, starts_agree}
use Rattle.script.proofs.TwoLadders.{unless_two}

-- ---- One column more

module _ (c : ℕ) (rows : List ℕ) (k k' : Lists) where
  fits_same : (fits : Bool) → FittingAgree fits c k k' → still_fits k' c rows fits ≡ still_fits k c rows fits
  fits_same true B = ap (λ (n : ℕ). leb (n + length rows) max_total) (sym (B.starts c (omega arith)))
  fits_same false B = refl

  column_agree : (fits now : Bool) → still_fits k c rows fits ≡ now → FittingAgree fits c k k' → c < max_size → Ample k → Ample k'
      → FittingAgree now (c + 1) (with_column k c rows now) (with_column k' c rows now)
  column_agree fits false e B h T T' = tt
  column_agree false true e B h T T' = absurd (false≢true e)
  column_agree true true e B h T T' =
      columns_more B rows (omega (arith, T.col_starts_fit)) (omega (arith, T'.col_starts_fit)) T.col_rows_fit T'.col_rows_fit
      (leb-true (at k.col_starts c + length rows) max_total e)

module _ {s : State} {l l' : Lent} (A : RunsAgree (run s l) (run s l')) where
  abbrev r : Run
  r = run s l

  abbrev r' : Run
  r' = run s l'

  -- With the numbers of a line there is still room.
  roomy_after : (new : List ℕ) {k : Lists} → Ample k → Roomy (with_numbers l new k l.eta)
  roomy_after new T = roomy_numbers A.roomy new T A.roomy.eta

  roomy_after' : (new : List ℕ) {k : Lists} → Ample k → Roomy (with_numbers l' new k l'.eta)
  roomy_after' new T = roomy_numbers A.roomy' new T A.roomy'.eta

  -- ---- A line in its turn

  speaks_to : {word n : List ℕ} → Speaks (line_so_far r) word n → Speaks (line_so_far r') word n
  speaks_to {word} {n} = subst (λ (line : List ℕ). Speaks line word n) A.same_line

  speaks_back : {word n : List ℕ} → Speaks (line_so_far r') word n → Speaks (line_so_far r) word n
  speaks_back {word} {n} = subst (λ (line : List ℕ). Speaks line word n) (sym A.same_line)

  in_turn_agree : {X : Type 0} {word : List ℕ} {numbers : X → List ℕ} {Does Does' : X → After → Type 0} {a a' : After} → ((x y : X) → numbers x ≡ numbers y → x ≡ y)
      → ((x : X) → Does x a → Does' x a' → AftersAgree a a') → InTurn word numbers Does r a → InTurn word numbers Does' r' a' → AftersAgree a a'
  in_turn_agree {Does' = Does'} {a' = a'} apart f (taken x p d) (taken y q d') = f x d (subst (λ z. Does' z a') (sym (apart x y (speaks_one p (speaks_back q)))) d')
  in_turn_agree apart f (taken x p d) (other n e) = absurd (n x (speaks_to p))
  in_turn_agree apart f (other n e) (taken x p d) = absurd (n x (speaks_back p))
  in_turn_agree apart f (other n e) (other n' e') = so_agree (bad_agree A) e e'

  -- ---- 'order'

  order_agree : {a a' : After} (m : ℕ) → OrderDoes r m a → OrderDoes r' m a' → AftersAgree a a'
  order_agree m =
      unless_two AftersAgree (λ h. h) (λ h. h) (ends_agree A (start_refused 1) A.roomy A.roomy') (λ _ _.
      so_agree (next_agree A (turn.Column m 0 true) (roomy_first A.roomy) (roomy_first A.roomy')
      (columns_none l.lists l'.lists (omega (arith, A.roomy.register.col_starts_fit)) (omega (arith, A.roomy'.register.col_starts_fit))) refl))

  -- ---- The last 'col'

  module _ (m : ℕ) (new : List ℕ) where
    started_by : (fault : ℕ) (accepted : Bool) → eqb fault 0 ≡ accepted → {k k' : Lists} → Ample k → Ample k' → (fault ≡ 0 → RegistersAgree m k k')
        → AftersAgree
        (cond accepted (next_line r (turn.Put m) (with_numbers l new k l.eta) []) (ends r (with_numbers l new k l.eta) (start_refused fault)))
        (cond accepted (next_line r' (turn.Put m) (with_numbers l' new k' l'.eta) []) (ends r' (with_numbers l' new k' l'.eta) (start_refused fault)))
    started_by fault true e T T' B = next_agree A (turn.Put m) (roomy_after new T) (roomy_after' new T') (B (eqb-true fault 0 e)) refl
    started_by fault false e T T' B = ends_agree A (start_refused fault) (roomy_after new T) (roomy_after' new T')

    started_agree : (o o' : Started) → Ample o.lists → Ample o'.lists → StartsAgree m o o' → AftersAgree (started_run r m new o) (started_run r' m new o')
    started_agree o o' T T' S =
        let k = with_numbers l' new o'.lists l'.eta in
        subst (λ (n : ℕ). AftersAgree (started_run r m new o) (cond (eqb n 0) (next_line r' (turn.Put m) k []) (ends r' k (start_refused n)))) S.same_fault
        (started_by o.fault (eqb o.fault 0) refl T T' S.registers)

    start_agree : (fits : Bool) {k k' : Lists} {a a' : After} → Ample k → Ample k' → FittingAgree fits m k k' → StartDoes r m new k fits a → StartDoes r' m new k' fits a'
        → AftersAgree a a'
    start_agree false T T' B e e' = so_agree (ends_agree A (start_refused 3) (roomy_after new T) (roomy_after' new T')) e e'
    start_agree true T T' B (o, x, e) (o', x', e') =
        so_agree (started_agree o o' (takes_started T m o x) (takes_started T' m o' x') (starts_agree B T T' o o' x x')) e e'

  -- ---- 'col'

  module _ (m c : ℕ) (rows : List ℕ) where
    col_ends_agree : (last fits : Bool) → leb m (c + 1) ≡ last → c < m → {k k' : Lists} {a a' : After} → Ample k → Ample k' → FittingAgree fits (c + 1) k k'
        → ColEnds last r m c rows k fits a → ColEnds last r' m c rows k' fits a' → AftersAgree a a'
    col_ends_agree true fits e h {k} {k'} T T' B =
        let n : c + 1 ≡ m = omega (arith, leb-true m (c + 1) e) in
        start_agree m (c ∷ rows) fits T T' (subst (λ (n : ℕ). FittingAgree fits n k k') n B)
    col_ends_agree false fits e h T T' B = so_agree (next_agree A (turn.Column m (c + 1) fits) (roomy_after (c ∷ rows) T) (roomy_after' (c ∷ rows) T') B refl)

    col_agree : (fits : Bool) {a a' : After} → c < m → m ≤ max_size → FittingAgree fits c l.lists l'.lists → ColDoes r m c fits rows a → ColDoes r' m c fits rows a'
        → AftersAgree a a'
    col_agree fits {a} {a'} h small B d d' =
        let now = still_fits l.lists c rows fits in
        let T = A.roomy.register in
        let T' = A.roomy'.register in
        col_ends_agree (leb m (c + 1)) now refl h (takes_column T c rows now) (takes_column T' c rows now) (column_agree c rows l.lists l'.lists fits now refl B (omega arith) T T') d
        (subst (λ (f : Bool). ColEnds (leb m (c + 1)) r' m c rows (with_column l'.lists c rows f) f a') (fits_same c rows l.lists l'.lists fits B) d')

  -- ---- 'put'

  put_agree : {a a' : After} (m : ℕ) (x : ℕ × List ℕ) → RegistersAgree m l.lists l'.lists → PutDoes r m x a → PutDoes r' m x a' → AftersAgree a a'
  put_agree m x B (o, y, e) (o', y', e') =
      let R = A.roomy in
      let R' = A.roomy' in
      let new = x.0 ∷ x.1 in
      let H = outcome_room (call m l.lists x.0 x.1 l.eta) R.register R.eta o y in
      let H' = outcome_room (call m l'.lists x.0 x.1 l'.eta) R'.register R'.eta o' y' in
      let O = outcomes_agree x.0 x.1 l.eta l'.eta B R.register R'.register R.eta R'.eta o o' y y' in
      so_agree
      (next_agree A (turn.Put m) (roomy_numbers R new H.register H.eta) (roomy_numbers R' new H'.register H'.eta) O.1 (reply_same x.0 O.0))
      e e'

  -- ---- Every line

  pub line_agree : {a a' : After} (t : Turn) → TurnRight t → TurnAgree t l.lists l'.lists → LineDoes t r a → LineDoes t r' a' → AftersAgree a a'
  line_agree turn.Order p B = in_turn_agree (λ m n e. cc e) order_agree
  line_agree (turn.Column m c fits) p B = in_turn_agree (λ k l e. cc e) (λ rows. col_agree m c rows fits p.0 p.1 B)
  line_agree (turn.Put m) p B = in_turn_agree (λ x y e. ap₂ (λ (c : ℕ) (l : List ℕ). (c, l)) (cc e) (cc e)) (λ x. put_agree m x B)
  line_agree turn.Ended p B = so_agree (record { runs = A; same_said = refl })
