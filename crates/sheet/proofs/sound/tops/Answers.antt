-- `tops`: the columns before the index have their entries.
use mathlib.Core.List.{List, []}
use mathlib.Core.Path.{◌≡◌, ap, ◌∙◌}
use Prim.Native.Nat.{ℕ, suc, ◌≤◌}
use native.Mathlib.Omega.{arith}
use borrow.Author.Rules.{rules}
use Rattle.pattern.specs.Pattern.{column}
use Rattle.pattern.specs.Places.{at as stands}
use Rattle.pattern.specs.Rising.{Rising}
use Rattle.pattern.specs.Series.{greatest}
use Rattle.listing.proofs.Stores.{stored_more}
use Rattle.sheet.specs.Passes.{thing}
use Rattle.sheet.specs.Reading.{columns_at}
use Rattle.sheet.proofs.Formed.{columns_formed}
use Rattle.sheet.proofs.Rereads.{count_known, CountMet, count_met}
use Rattle.sheet.proofs.Tops.{top_low}
use Rattle.sheet.proofs.sound.tops.Goals as goal
use Rattle.sheet.proofs.sound.tops.Goals.{After-known-n, After-top-step}

-- Once the count has been read: the turn, and what it met.
module _ (c : After-known-n) where
  abbrev P : List (List ℕ)
  P = thing [] (columns_at c.args.bytes.now c.args.m c.args.place)

  met : CountMet c.args.bytes.now c.args.m c.args.place P
      c.loop-entry.entry-index c.loop-entry.invariant.0.0 c.known-n.result.value c.known-n.result.next
  met = count_met _ _ c.requires.0 c.loop-entry.invariant.0.1 (omega arith) c.known-n.ensures

  rising : Rising c.args.m (column P c.loop-entry.entry-index)
  rising = (columns_formed c.args.bytes.now c.args.m c.args.place c.requires.1.read).rise c.loop-entry.entry-index (omega arith)

-- Once the column's entry is known.
module _ (c : After-top-step) where
  abbrev after_known_n : After-known-n
  after_known_n = (goal.at.After-top-step c).After-known-n

  is : c.top-step.result.value ≡ greatest (λ (r : ℕ). suc (stands c.args.places.now r)) (column (P after_known_n) c.loop-entry.entry-index)
  is = c.top-step.ensures.1 ∙ ap (greatest (λ (r : ℕ). suc (stands c.args.places.now r))) (met after_known_n).rows_are

  low : c.top-step.result.value ≤ c.args.m
  low = omega (arith, is, top_low (stands c.args.places.now) (rising after_known_n) c.requires.2)

pub known-n-requires : goal.known-n-requires
known-n-requires c = count_known _ _ c.requires.0 c.loop-entry.invariant.0.1 (omega arith)

pub top-step-requires : goal.top-step-requires
top-step-requires c =
    let after_known_n = (goal.at.top-step-requires c).After-known-n in
    ((met after_known_n).rows_known, λ k h. rw (met after_known_n).rows_are (omega (arith, c.requires.0, c.requires.2 _ ((rising after_known_n).below k (omega (arith, (met after_known_n).is))))))

pub overflow_cast-entry : goal.overflow_cast-entry
overflow_cast-entry c = let b = low (goal.at.overflow_cast-entry c).After-top-step in search rules

pub loop-entry-preserved : goal.loop-entry-preserved
loop-entry-preserved c =
    let after_known_n = (goal.at.loop-entry-preserved c).After-known-n in (
      (_, (met after_known_n).left c.top-step.ensures.0),
      stored_more (λ (x : ℕ). greatest (λ (r : ℕ). suc (stands c.args.places.now r)) (column (P after_known_n) x)) c.loop-entry.entry-items c.loop-entry.entry-index c.top-step.result.value
          (omega arith) (is (goal.at.loop-entry-preserved c).After-top-step) c.loop-entry.invariant.1,
    )
