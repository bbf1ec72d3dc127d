-- `spread`: c has been let into the parts from place i of the list on.
use mathlib.Core.Path.{◌≡◌, refl}
use Prim.Native.Nat.{◌+◌, ◌-◌}
use native.Mathlib.Omega.{arith}
use Rattle.listing.proofs.Loans.{same_on}
use Rattle.store.proofs.LettingIn.{spreading_none, spreading_start, spreading_all, let_in_within, let_in_end, let_in_top, let_in_room, spreading_more}
use Rattle.store.proofs.store.spread.Goals as goal
use Rattle.store.proofs.store.spread.Goals.{After-wide-k}

pub loop-i-init : goal.loop-i-init
loop-i-init c =
    record {
      same = record { starts = refl; entries = refl };
      spreading = spreading_none c.requires.good.0 c.requires.good.1 c.requires.good.2 c.requires.good.3 c.requires.room.1 _ _ refl c.wide.ensures;
    }

-- A turn, once the number of its part has been read.
module _ (c : After-wide-k) where
  one : c.loop-i.i ≡ c.loop-i.i - 1 + 1
  one = omega arith

pub let_in-rest-requires : goal.let_in-rest-requires
let_in-rest-requires c =
    let after_wide_k = (goal.at.let_in-rest-requires c).After-wide-k in
    let p = c.requires in
    let S = c.loop-i.invariant.spreading in
    let e = c.wide-k.ensures in record {
      within = (
        omega (arith, p.good.0.small),
        let_in_top p.good.0 p.good.1 p.good.2 p.good.3 p.room.1 S _ (one after_wide_k) e,
        omega (arith, S.in_size, S.kept.long, p.good.0.room.starts_long),
        let_in_within p.good.0 p.good.1 p.good.2 p.good.3 p.room.1 S _ (one after_wide_k) e,
      );
      room = (
        let_in_end p.good.0 p.good.1 p.good.2 p.good.3 p.room.1 S _ (one after_wide_k) e,
        let_in_room p.good.0 p.good.1 p.good.2 p.good.3 p.room.1 S _ (one after_wide_k) e,
        λ j h. omega (arith, spreading_start p.good.0 p.good.1 p.good.2 p.good.3 p.room.1 S j h, S.upto, p.room.0),
      );
    }

pub loop-i-preserved : goal.loop-i-preserved
loop-i-preserved c =
    let p = c.requires in
    let w = c.let_in-rest.ensures in
    record {
      same = same_on c.loop-i.invariant.same w.0;
      spreading =
          rw w.1
          (spreading_more p.good.0 p.good.1 p.good.2 p.good.3 p.room.1 c.loop-i.invariant.spreading _ (one (goal.at.loop-i-preserved c).After-wide-k) c.wide-k.ensures w.2);
    }

pub returns : goal.returns
returns c =
    let p = c.requires in
    record {
      same = c.loop-i.invariant.same;
      held = spreading_all p.good.0 p.good.1 p.good.2 p.good.3 p.room.1 c.loop-i.invariant.spreading (omega arith);
    }
