-- `contents`: each check stands behind those before it.
use mathlib.Core.Logic.{◌≢◌}
use mathlib.Core.Path.{◌≡◌, refl}
use Prim.Native.Nat.{ℕ}
use native.Mathlib.Omega.{arith}
use Rattle.pattern.specs.Places.{at}
use Rattle.pattern.specs.Ladder.{Unless, fails, holds}
use Rattle.listing.specs.Falls.{PartsRise}
use Rattle.listing.specs.Listing.{Starts, Listing, Good}
use Rattle.listing.specs.Says.{Says}
use Rattle.listing.specs.Walk.{RowsTurned}
use Rattle.listing.proofs.Answers.{refuted, shown, says_as}
use Rattle.register.specs.Checks.{Contents}
use Rattle.register.specs.Lent.{Lists, columns, OrderSound}
use Rattle.register.specs.Loan.{seen}
use Rattle.register.specs.Order.{Placed}
use Rattle.register.proofs.Agreement.{turned_formed, turned_agrees, agrees_turned}
use Rattle.register.proofs.Orders.{there_placed}
use Rattle.register.proofs.Tops.{tops_sound, sound_tops}
use Rattle.register.proofs.check.contents.Goals as goal
use Rattle.register.proofs.check.contents.Goals.{After-enter-entered, After-topped, Else-not-same}

-- The columns are well formed, and the rows' starts are right.
module _ (c : After-enter-entered) where
  abbrev m : ℕ
  m = c.args.m

  abbrev l : Lists
  l = seen c.args.lists

  cols_formed : Listing m l.col_starts l.col_rows
  cols_formed = shown c.formed.ensures c.if-not-formed.false

  cols_good : Good m l.col_starts l.col_rows
  cols_good = record { small = c.requires.0.1; room = c.requires.1.columns_fit; formed = cols_formed }

  row_starts : Starts m l.row_starts
  row_starts = shown c.starts_right.ensures c.if-not-starts_right.false

  -- The row listing is the columns turned.
  abbrev Turned : Type 0
  Turned = RowsTurned m (columns m l) l.row_starts l.row_cols

  -- What there is to say where it is not.
  other : ¬ Turned → (n : ℕ) → Unless (PartsRise m l.row_starts l.row_cols) 3 (λ n. n ≡ 4) n → Contents m l (λ n. n) (λ n. n ≡ 0) n
  other none n (fails p e) = fails (λ f. p f.rows_formed.rise) e
  other none n (holds p e) =
      let rows_formed : Listing m l.row_starts l.row_cols = record { starts_right = row_starts; rise = p } in
      holds (record { columns_formed = cols_formed; rows_formed = rows_formed })
      (fails (λ same. none (agrees_turned l.row_starts l.row_cols cols_good rows_formed same)) e)

  -- Where it is, it is well formed and lists the same entries, and the order decides.
  behind : Turned → (n : ℕ) → Unless (OrderSound m l) 5 (λ n. n ≡ 0) n → Contents m l (λ n. n) (λ n. n ≡ 0) n
  behind all n rest =
      holds
      (record {
        columns_formed = cols_formed;
        rows_formed = turned_formed l.row_starts l.row_cols cols_good row_starts all;
      })
      (holds (turned_agrees l.row_starts l.row_cols cols_good row_starts all) rest)

-- No fault is none.
some_fault : {P : Type 0} {n : ℕ} → Unless P 3 (λ n. n ≡ 4) n → n ≢ 0
some_fault (fails p e) z = omega arith
some_fault (holds p e) z = omega arith

turned : (c : Else-not-same) → Turned (goal.at.Else-not-same c).After-enter-entered
turned c = (shown c.same.ensures.told c.if-not-same.false).0

pub returns-then-not-formed : goal.returns-then-not-formed
returns-then-not-formed c = record {
  contents = fails (λ p. refuted c.formed.ensures c.if-not-formed.true p.columns_formed) refl;
  places_known = λ e. absurd (omega (arith, e));
}

pub returns-then-not-starts_right : goal.returns-then-not-starts_right
returns-then-not-starts_right c = record {
  contents = fails (λ p. refuted c.starts_right.ensures c.if-not-starts_right.true p.rows_formed.starts_right) refl;
  places_known = λ e. absurd (omega (arith, e));
}

pub returns-then-not-same : goal.returns-then-not-same
returns-then-not-same c =
    record {
      contents = other (goal.at.returns-then-not-same c).After-enter-entered (refuted c.same.ensures.told c.if-not-same.true) _ c.unlike.ensures;
      places_known = λ e. absurd (some_fault c.unlike.ensures e);
    }

pub returns-then-not-entered : goal.returns-then-not-entered
returns-then-not-entered c =
    record {
      contents = behind (goal.at.returns-then-not-entered c).After-enter-entered (turned (goal.at.returns-then-not-entered c).Else-not-same) _ (fails (λ S. refuted c.enter-entered.ensures.told c.if-not-entered.true S.rows) refl);
      places_known = λ z. absurd (omega (arith, z));
    }

-- The places were entered, and the columns' greatest places were held to them.
module _ (c : After-topped) where
  abbrev after_enter_entered : After-enter-entered
  after_enter_entered = (goal.at.After-topped c).After-enter-entered

  rows_placed : Placed (m after_enter_entered) (at (l after_enter_entered).order_rows) c.enter-entered.new.places
  rows_placed = shown c.enter-entered.ensures.told c.if-not-entered.false

  answered : Says c.topped.result (OrderSound (m after_enter_entered) (l after_enter_entered))
  answered =
      let G = cols_good after_enter_entered in
      let A = (shown c.same.ensures.told c.if-not-same.false).1 in
      says_as (tops_sound G rows_placed A _) (sound_tops G rows_placed A _) c.topped.ensures

pub returns-then-not-topped : goal.returns-then-not-topped
returns-then-not-topped c = record {
  contents = behind (goal.at.returns-then-not-topped c).After-enter-entered (turned (goal.at.returns-then-not-topped c).Else-not-same) _ (fails (refuted (answered (goal.at.returns-then-not-topped c).After-topped) c.if-not-topped.true) refl);
  places_known = λ z. absurd (omega (arith, z));
}

pub returns : goal.returns
returns c =
    let after_topped = (goal.at.returns c).After-topped in
    let after_enter_entered = (goal.at.returns c).After-enter-entered in
    let S = shown (answered after_topped) c.if-not-topped.false in
    let A = shown c.same.ensures.told c.if-not-same.false in record {
      contents = behind after_enter_entered (turned (goal.at.returns c).Else-not-same) _ (holds S refl);
      places_known = λ z. record {
        work_long = c.same.ensures.lengths.0;
        rows_placed = rows_placed after_topped;
        cols_placed = there_placed (at (l after_enter_entered).order_cols) c.same.ensures.lengths.1 S.cols (λ t h. (shown c.topped.ensures c.if-not-topped.false t h).top);
      };
    }

pub enter-entered-requires : goal.enter-entered-requires
enter-entered-requires c = record {
  in_range = (c.requires.0.1, c.requires.1.order_rows_fit);
  none_placed = c.clear.ensures;
}

pub same-requires : goal.same-requires
same-requires c =
    let after_enter_entered = (goal.at.same-requires c).After-enter-entered in
    (c.requires.1.rows_fit, row_starts after_enter_entered)

pub unlike-requires : goal.unlike-requires
unlike-requires c = (c.requires.1.rows_fit, row_starts (goal.at.unlike-requires c).After-enter-entered)

pub topped-requires : goal.topped-requires
topped-requires c = (c.requires.0.1, c.requires.1.columns_fit.starts_long, c.requires.1.order_cols_fit)

-- The lists keep their lengths, whatever is replied.
pub invariant_of-scratch : goal.invariant_of-scratch
invariant_of-scratch c = record { long = (c.same.ensures.lengths.0, c.enter-entered.ensures.length, c.same.ensures.lengths.1) }
