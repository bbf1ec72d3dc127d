-- `fill_rows`: the rows before the index have been stored.
use mathlib.Core.List.{List, [], ◌++◌, append-nil}
use mathlib.Core.Path.{◌≡◌, sym, ap, ap₂, ◌∙◌}
use Prim.Native.Nat.{ℕ, ◌+◌, ◌-◌}
use native.Mathlib.Omega.{arith}
use lib.ListN.{length, take, drop}
use borrow.Author.Rules.{rules}
use Rattle.std.proofs.lemmas.List.{drop_all}
use Rattle.listing.specs.Limits.{max_size}
use Rattle.listing.proofs.Storing.{stored_more, stored_all}
use Rattle.sheet.specs.Passes.{thing}
use Rattle.sheet.specs.Reading.{rows_at}
use Rattle.sheet.proofs.Lefts.{left_long, left_all}
use Rattle.sheet.proofs.Rereads.{row_known, RowMet, row_met}
use Rattle.sheet.proofs.fill.fill_rows.Goals as goal
use Rattle.sheet.proofs.fill.fill_rows.Goals.{After-known-gap}

-- Once the row has been read: the turn, and what it met.
module _ (c : After-known-gap) where
  abbrev R : List ℕ
  R = thing [] (rows_at c.args.bytes.now max_size c.args.n c.args.place)

  met : RowMet c.args.bytes.now c.args.n c.args.place R c.loop-entry.entry-index (c.loop-entry.least + c.known-gap.result.value) c.known-gap.result.next
  met = row_met _ c.loop-entry.invariant.0 (omega arith) c.known-gap.ensures

pub known-gap-requires : goal.known-gap-requires
known-gap-requires c = row_known _ c.loop-entry.invariant.0 (omega arith)

pub overflow_add-r : goal.overflow_add-r
overflow_add-r c = let b = (met (goal.at.overflow_add-r c).After-known-gap).below in search rules

pub overflow_cast-entry : goal.overflow_cast-entry
overflow_cast-entry c = let b = (met (goal.at.overflow_cast-entry c).After-known-gap).below in search rules

pub overflow_add-least : goal.overflow_add-least
overflow_add-least c = let b = (met (goal.at.overflow_add-least c).After-known-gap).below in search rules

pub loop-entry-preserved : goal.loop-entry-preserved
loop-entry-preserved c =
    let after_known_gap = (goal.at.loop-entry-preserved c).After-known-gap in
    let long = left_long c.loop-entry.invariant.0 in
    ((met after_known_gap).left, stored_more _ _ (omega (arith, long)) (omega (arith, long)) (omega arith) (met after_known_gap).is c.loop-entry.invariant.1)

pub returns : goal.returns
returns c =
    let e : c.loop-entry.entry-index ≡ c.args.n = omega arith in
    let R = thing [] (rows_at c.args.bytes.now max_size c.args.n c.args.place) in
    let mid = take (c.args.k + c.args.n - c.args.k) (drop c.args.k c.args.entries.now) in
    let long : length R ≡ c.args.n = left_long c.loop-entry.invariant.0 in
    let rest : drop (length R) mid ≡ [] = drop_all (length R) mid (omega (arith, long)) in
    let whole : c.loop-entry.entry-items ≡ R = stored_all (e ∙ sym long) c.loop-entry.invariant.1 ∙ ap (λ (l : List ℕ). R ++ l) rest ∙ append-nil R in
    let n : c.args.k + c.args.n - c.args.k ≡ length R = omega arith in
    (left_all c.loop-entry.invariant.0 e, ap₂ (λ (l : List ℕ) (j : ℕ). take c.args.k c.args.entries.now ++ (l ++ drop j (drop c.args.k c.args.entries.now))) whole n)
