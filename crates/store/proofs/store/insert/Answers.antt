-- `insert`: the later entries go up, their starts are raised, and the rows are copied in between.
use mathlib.Core.List.{List}
use mathlib.Core.Path.{◌≡◌, refl}
use Prim.Native.Nat.{ℕ, ◌+◌, ◌≤◌}
use native.Mathlib.Omega.{arith}
use lib.ListN.{length}
use Rattle.pattern.specs.Flat.{start_of}
use Rattle.pattern.specs.Places.{at}
use Rattle.listing.specs.Listing.{parts}
use Rattle.listing.proofs.Listings.{starts_rise}
use Rattle.store.specs.Store.{filled}
use Rattle.store.proofs.Fillings.{filled_total, filled_room, filled_held}
use Rattle.store.proofs.store.insert.Goals as goal
use Rattle.store.proofs.store.insert.Goals.{After-wide-to}

-- The places, once they have been read.
module _ (c : After-wide-to) where
  abbrev m : ℕ
  m = c.args.m

  abbrev cs : List ℕ
  cs = c.args.columns.now.starts.now

  abbrev new : List ℕ
  new = c.args.rows.now

  begins : c.wide-from.result ≡ at cs c.args.c
  begins = c.wide-from.ensures

  ends : c.wide-to.result ≡ at cs m
  ends = c.wide-to.ensures

  rise : (k : ℕ) → k ≤ m → at cs k ≤ at cs m
  rise k h = starts_rise c.requires.good.0.formed.starts_right k m h (omega arith)

  total : start_of (filled m (parts m cs c.args.columns.now.entries.now) c.args.c new) m ≡ at cs m + length new
  total = filled_total c.requires.good.0 new c.requires.good.1 c.requires.good.2

  fits : at cs m + length new ≤ length c.args.columns.now.entries.now
  fits = omega (arith, total, c.requires.room.1)

pub shift-requires : goal.shift-requires
shift-requires c =
    let w = (goal.at.shift-requires c).After-wide-to in
    let h : c.wide-from.result ≤ c.wide-to.result = omega (arith, begins w, ends w, rise w c.args.c (omega (arith, c.requires.good.1))) in
    (h, omega (arith, ends w, fits w), omega (arith, h, ends w, fits w))

pub raise-requires : goal.raise-requires
raise-requires c =
    let after_wide_to = (goal.at.raise-requires c).After-wide-to in
    (omega (arith, c.requires.good.1), c.requires.good.0.room.starts_long, λ k h. omega (arith, rise after_wide_to k h, total after_wide_to, c.requires.room.0))

pub copy-requires : goal.copy-requires
copy-requires c =
    let after_wide_to = (goal.at.copy-requires c).After-wide-to in
    filled_room c.requires.good.0 (new after_wide_to) c.requires.good.1 c.requires.good.2 (begins after_wide_to) (ends after_wide_to) refl c.requires.room.1 c.shift.ensures

pub returns : goal.returns
returns c =
    let after_wide_to = (goal.at.returns c).After-wide-to in
    record {
      same = record { starts = refl; entries = refl };
      held = filled_held c.requires.good.0 (new after_wide_to) c.requires.good.1 c.requires.good.2 (begins after_wide_to) (ends after_wide_to) refl c.requires.room.1 c.shift.ensures c.raise.ensures
          c.copy.ensures;
    }
