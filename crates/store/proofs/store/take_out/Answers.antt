-- `take_out`: a turn deletes a piece of the next part that changes, and what stands before the piece goes down.
use mathlib.Core.Path.{◌≡◌, ◌∙◌}
use Prim.Native.Nat.{◌<◌}
use native.Mathlib.Omega.{arith}
use lib.ListN.{length}
use Rattle.pattern.specs.Places.{at}
use Rattle.store.specs.Store.{Piece}
use Rattle.store.proofs.Takings.{next_within, next_down, next_lower, taken_more, last_start, last_down, last_lower, taken_all}
use Rattle.store.proofs.store.take_out.Goals as goal
use Rattle.store.proofs.store.take_out.Goals.{After-piece-out, After-wide-end}

-- ---- A turn: part j is the next that changes

pub piece-out-requires : goal.piece-out-requires
piece-out-requires c =
    rw c.view.ensures.0 (rw c.view.ensures.1 (next_within c.requires.0 c.requires.1 c.loop-j.invariant.taken (omega arith) c.wide-j.ensures))

module _ (p : After-piece-out) where
  left : p.loop-j.j-index < length p.args.these.now
  left = omega arith

  seen : Piece p.args.c p.args.r p.wide-j.result p.loop-j.listed.starts.now p.loop-j.listed.entries.now p.piece-out.result.from p.piece-out.result.to
  seen = rw p.view.ensures.0 at (rw p.view.ensures.1 at p.piece-out.ensures)

pub shift-requires : goal.shift-requires
shift-requires c =
    let d = next_down c.requires.0 c.requires.1 c.loop-j.invariant.taken (left (goal.at.shift-requires c).After-piece-out) c.wide-j.ensures (seen (goal.at.shift-requires c).After-piece-out) in
    (d.1, d.2, omega (arith, d.0, d.1, d.2))

pub lower-requires : goal.lower-requires
lower-requires c = next_lower c.requires.0 c.requires.1 c.loop-j.invariant.taken (left (goal.at.lower-requires c).After-piece-out) c.wide-j.ensures

pub loop-j-preserved : goal.loop-j-preserved
loop-j-preserved c =
    let h = left (goal.at.loop-j-preserved c).After-piece-out in
    let l = c.loop-j in
    record {
      same = record { starts = l.invariant.same.starts; entries = l.invariant.same.entries };
      taken = taken_more c.requires.0 c.requires.1 l.invariant.taken h c.wide-j.ensures (seen (goal.at.loop-j-preserved c).After-piece-out)
          c.shift.ensures c.lower.ensures;
    }

-- ---- The end

module _ (w : After-wide-end) where
  all : w.loop-j.j-index ≡ length w.args.these.now
  all = omega (arith, w.loop-j.invariant.taken.upto)

  ends : w.wide-end.result ≡ at w.args.listed.now.starts.now w.args.m
  ends = w.wide-end.ensures ∙ last_start w.requires.0 w.requires.1 w.loop-j.invariant.taken all

pub shift-requires-2 : goal.shift-requires-2
shift-requires-2 c =
    let w = (goal.at.shift-requires-2 c).After-wide-end in
    let d = last_down c.requires.0 c.requires.1 c.loop-j.invariant.taken (all w) in
    (omega (arith, d.1, ends w), omega (arith, d.2, ends w), omega (arith, d.0, d.1, d.2, ends w))

pub lower-requires-2 : goal.lower-requires-2
lower-requires-2 c = last_lower c.requires.0 c.requires.1 c.loop-j.invariant.taken (all (goal.at.lower-requires-2 c).After-wide-end)

pub returns : goal.returns
returns c =
    let h = all (goal.at.returns c).After-wide-end in
    let l = c.loop-j in
    let e = ends (goal.at.returns c).After-wide-end in
    record {
      same = record { starts = l.invariant.same.starts; entries = l.invariant.same.entries };
      held = taken_all c.requires.0 c.requires.1 l.invariant.taken h
          (rw e at c.shift-2.ensures) c.lower-2.ensures;
    }
