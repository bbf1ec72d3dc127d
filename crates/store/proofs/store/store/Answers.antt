-- `store`: in the row listing column c is struck out and then spread; then it is emptied and filled in the column listing.
use mathlib.Core.List.{List}
use mathlib.Core.Path.{◌≡◌, ◌∙◌}
use Prim.Native.Nat.{ℕ, ◌<◌}
use native.Mathlib.Decide.{dec_lt}
use native.Mathlib.Omega.{arith}
use Rattle.listing.specs.Listing.{between, parts}
use Rattle.listing.proofs.Listings.{good_within, good_columns}
use Rattle.listing.proofs.Loans.{same_on}
use Rattle.store.specs.Store.{Changing}
use Rattle.store.proofs.Crossing.{crossing, alone, same_turned}
use Rattle.store.proofs.Exchanges.{Emptied, emptied_good, emptied_there, fill_total, fill_fits, exchanged_held}
use Rattle.store.proofs.RowExchanges.{Struck, struck_good, struck_none, struck_total, struck_fits, rows_held}
use Rattle.store.proofs.store.store.Goals as goal
use Rattle.store.proofs.store.store.Goals.{After-changing-n, After-take_out, After-take_out-2, Start}

-- What is given.
module _ (s : Start) where
  abbrev P : List (List ℕ)
  P = parts s.args.m s.args.columns.now.starts.now s.args.columns.now.entries.now

  abbrev R : List (List ℕ)
  R = parts s.args.m s.args.rows.now.starts.now s.args.rows.now.entries.now

pub part-requires : goal.part-requires
part-requires c =
    rw c.view-2.ensures.0
    (rw c.view-2.ensures.1
    (omega (arith, c.requires.good.0.room.starts_long, c.requires.good.3), good_within c.requires.good.0 c.args.c c.requires.good.3))

-- The rows that change are those of column c.
pub take_out-requires : goal.take_out-requires
take_out-requires c =
    (c.requires.good.1, rw c.part.ensures (rw c.view-2.ensures.0 (rw c.view-2.ensures.1 (crossing c.requires.good.0 (R (goal.at.take_out-requires c).Start) c.requires.good.2 c.args.c c.args.r c.requires.good.3 c.requires.entry))))

-- After `take_out` in the row listing.
module _ (c : After-take_out) where
  struck_now : Struck c.args.m c.args.c c.args.r c.args.new_rows.now c.args.columns.now.starts.now c.args.columns.now.entries.now
      c.args.rows.now.starts.now c.args.rows.now.entries.now c.take_out.new.listed.starts.now c.take_out.new.listed.entries.now
  struck_now =
      record {
        columns = c.requires.good.0;
        good = c.requires.good.1;
        same = c.requires.good.2;
        in_size = c.requires.good.3;
        rise = c.requires.good.4;
        total = c.requires.room.0;
        fits = c.requires.room.2;
        held = c.take_out.ensures.held;
      }

pub spread-requires : goal.spread-requires
spread-requires c =
    let X = struck_now (goal.at.spread-requires c).After-take_out in
    record { good = (struck_good X, X.in_size, X.rise, struck_none X); room = (struck_total X, struck_fits X) }

-- The columns that change are those of row r, or column c alone.
module _ (c : After-changing-n) where
  abbrev start : Start
  start = (goal.at.After-changing-n c).Start

  these_change : {these : List ℕ} → these ≡ between 0 c.changing-n.result c.changing-n.new.list
      → Changing c.args.m (P start) c.args.c c.args.r these
  these_change {these} e = go (dec_lt c.args.r c.args.m)
    where
      s : Start
      s = start

      go : Dec (s.args.r < s.args.m) → Changing s.args.m (P s) s.args.c s.args.r these
      go (yes h) =
          rw (e ∙ c.changing-n.ensures.2 h)
          (rw c.view.ensures.0
          (rw c.view.ensures.1
          (crossing s.requires.good.1 (P s) (same_turned (P s) (R s) s.requires.good.2) s.args.r s.args.c h
          (λ b. (s.requires.good.2 s.args.r s.args.c).0 (s.requires.entry h)))))
      go (no n) = rw (e ∙ c.changing-n.ensures.3 (omega arith)) (alone (good_columns s.requires.good.0) s.requires.good.3 (omega arith))

pub take_out-requires-2 : goal.take_out-requires-2
take_out-requires-2 c = (c.requires.good.0, these_change (goal.at.take_out-requires-2 c).After-changing-n c.first.ensures)

-- After `take_out` in the column listing.
module _ (c : After-take_out-2) where
  emptied_now :
      Emptied c.args.m c.args.c c.args.r c.args.new_rows.now c.args.columns.now.starts.now c.args.columns.now.entries.now c.take_out-2.new.listed.starts.now c.take_out-2.new.listed.entries.now
  emptied_now =
      record {
        good = c.requires.good.0;
        in_size = c.requires.good.3;
        rise = c.requires.good.4;
        total = c.requires.room.0;
        fits = c.requires.room.1;
        held = c.take_out-2.ensures.held;
      }

pub insert-requires : goal.insert-requires
insert-requires c =
    let X = emptied_now (goal.at.insert-requires c).After-take_out-2 in
    record { good = (emptied_good X, X.in_size, emptied_there X); room = (fill_total X, fill_fits X) }

pub returns : goal.returns
returns c =
    record {
      columns_held =
          record {
            same = same_on c.take_out-2.ensures.same c.insert.ensures.same;
            held = exchanged_held (emptied_now (goal.at.returns c).After-take_out-2) c.insert.ensures.held;
          };
      rows_held =
          record {
            same = same_on c.take_out.ensures.same c.spread.ensures.same;
            held = rows_held (struck_now (goal.at.returns c).After-take_out) c.spread.ensures.held;
          };
    }
