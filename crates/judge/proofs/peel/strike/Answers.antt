-- `strike`: the columns gone through have been struck.
use mathlib.Core.List.{List}
use mathlib.Core.Logic.{◌≢◌}
use mathlib.Core.Path.{◌≡◌, refl, sym, ap, ◌∙◌}
use Prim.Native.Nat.{ℕ, ◌+◌, ◌-◌, ◌≤◌, ◌<◌}
use native.Mathlib.Omega.{arith}
use lib.ListN.{length}
use Rattle.pattern.specs.Places.{at}
use Rattle.judge.specs.Peel.{Hit, Searched, HitsFrom, Struck}
use Rattle.judge.proofs.PeelCounts.{next_some, struck_not, struck_more}
use Rattle.judge.proofs.peel.strike.Goals as goal
use Rattle.judge.proofs.peel.strike.Goals.{After-wide-y, then-y-c+then-place-end, then-y-c+else-place-end, else-y-c}

-- A turn, at column y.
module _ (c : After-wide-y) where
  more : c.loop-col.col-index < length c.args.cols.now
  more = omega arith

  abbrev StruckNext : Type 0
  StruckNext = Hit c.args.cols.now c.args.c c.args.end c.args.old.now c.loop-col.col-index

  -- Where its count stands.
  place_is : {p : ℕ} → p ≡ at c.args.old.now c.wide-y.result → p ≡ at c.args.old.now (at c.args.cols.now c.loop-col.col-index)
  place_is e = e ∙ ap (at c.args.old.now) c.wide-y.ensures

  is_hit : {p : ℕ} → c.wide-y.result ≢ c.args.c → p ≡ at c.args.old.now c.wide-y.result → p < c.args.end → StruckNext
  is_hit n e h = (λ z. n (c.wide-y.ensures ∙ z), omega (arith, place_is e))

  -- Nothing has changed but the number of columns gone through.
  passed_by : {counts : List ℕ} {t : ℕ} → ¬ StruckNext → counts ≡ c.loop-col.counts → t ≡ c.loop-col.t → Struck c.args.cols.now c.args.c c.args.end c.args.old.now c.args.counts.now (c.loop-col.col-index + 1) counts
      × (t ≤ c.args.from) × ((p : ℕ) → HitsFrom p c.args.cols.now c.args.c c.args.end c.args.old.now → Searched c.args.counts.now p c.args.from → Searched counts p t)
  passed_by n ec et =
      let v = c.loop-col.invariant in
      (rw ec (struck_not c.requires more v.0 n), omega (arith, et), λ p f N. rw (ec, et) (v.2 p f N))

pub lower-t-requires : goal.lower-t-requires
lower-t-requires c =
    let after_wide_y = (goal.at.lower-t-requires c).After-wide-y in
    let hit = is_hit after_wide_y c.if-y-c.true c.wide-place.ensures c.if-place-end.true in (
      omega (arith, c.requires.small, c.if-place-end.true),
      rw (place_is after_wide_y c.wide-place.ensures) (next_some c.requires (more after_wide_y) c.loop-col.invariant.0 hit),
    )

pub loop-col-preserved : goal.loop-col-preserved
loop-col-preserved c =
    let after_wide_y = (goal.at.loop-col-preserved c).After-wide-y in
    let v = c.loop-col.invariant in
    elim c.if-y-c.branch [
      | then-y-c+then-place-end w ↦
          let p = w.wide-place.result in
          let hit = is_hit after_wide_y w.if-y-c.true w.wide-place.ensures w.if-place-end.true in
          let e = w.lower-t.ensures in (
            rw (w.counts-is, e.0) (struck_more c.requires (more after_wide_y) v.0 hit p (at c.loop-col.counts p - 1) (place_is after_wide_y w.wide-place.ensures) refl),
            omega (arith, w.t-is, e.1),
            λ u f N. rw (w.counts-is, w.t-is) (e.2 u (omega (arith, f c.loop-col.col-index (more after_wide_y) hit, place_is after_wide_y w.wide-place.ensures)) (v.2 u f N)),
          )
      | then-y-c+else-place-end w ↦ passed_by after_wide_y (λ hit. omega (arith, hit.1, place_is after_wide_y w.wide-place.ensures, w.if-place-end.false)) w.counts-is w.t-is
      | else-y-c w ↦ passed_by after_wide_y (λ hit. hit.0 (sym c.wide-y.ensures ∙ w.if-y-c.false)) w.counts-is w.t-is
    ]
