-- `put_verdict`: seven parts, one behind another, which are no longer than the room.
use mathlib.Core.List.{List, [], ◌∷◌}
use mathlib.Core.Path.{refl}
use Prim.Native.Nat.{ℕ}
use native.Mathlib.Omega.{arith}
use lib.ListN.{drop}
use Rattle.pattern.specs.Order.{pairs}
use Rattle.text.specs.Text.{LF, spaced}
use Rattle.text.specs.declared.output.Output.{Output}
use Rattle.text.proofs.Printing.{joined, Left, none_printed, part_room, part_printed, all_printed}
use Rattle.replies.specs.Replies.{eta_word, places_word, eta_text, places_text}
use Rattle.replies.proofs.Lengths.{verdict_few}
use Rattle.replies.proofs.put_verdict.Goals as goal
use Rattle.replies.proofs.put_verdict.Goals.{After-put_eta, After-word, After-word-2, Start}

module _ (s : Start) where
  abbrev parts : List (List ℕ)
  parts =
      let a = s.args in
      a.word.now ∷ spaced (a.bump ∷ []) ∷ eta_word ∷ eta_text a.eta.now ∷ places_word ∷ places_text (pairs a.m a.rows.now a.cols.now) ∷ (LF ∷ []) ∷ []

  -- The first `n` are printed.
  abbrev Done : (n : ℕ) (out : Output) → Type 0
  Done n = Left (joined parts) s.args.out.now (drop n parts)

-- The numbers of the lists are 16-bit numbers.
module _ (p : After-word) where
  one : Done (goal.at.After-word p).Start 1 p.word.new.self
  one =
      let few = verdict_few p.args.word.now p.args.bump p.requires.0 (omega (arith, p.ranges.bump)) p.requires.1 (λ i h. omega (arith, p.type_inv.rows i)) (λ i h. omega (arith, p.type_inv.cols i)) (λ i h. omega (arith, p.type_inv.eta i)) in
      part_printed (none_printed _ refl (omega (arith, few, p.requires.2))) p.word.ensures

module _ (p : After-word-2) where
  three : Done (goal.at.After-word-2 p).Start 3 p.word-2.new.self
  unfolding eta_word
  three = part_printed (part_printed (one (goal.at.After-word-2 p).After-word) p.spaced.ensures) p.word-2.ensures

module _ (p : After-put_eta) where
  four : Done (goal.at.After-put_eta p).Start 4 p.put_eta.new.out
  four = part_printed (three (goal.at.After-put_eta p).After-word-2) p.put_eta.ensures

pub spaced-requires : goal.spaced-requires
spaced-requires c = part_room (one (goal.at.spaced-requires c).After-word)

pub word-requires-2 : goal.word-requires-2
unfolding eta_word
word-requires-2 c = part_room (part_printed (one (goal.at.word-requires-2 c).After-word) c.spaced.ensures)

pub put_eta-requires : goal.put_eta-requires
put_eta-requires c = part_room (three (goal.at.put_eta-requires c).After-word-2)

pub word-requires-3 : goal.word-requires-3
unfolding places_word
word-requires-3 c = part_room (four (goal.at.word-requires-3 c).After-put_eta)

pub put_places-requires : goal.put_places-requires
unfolding places_word
put_places-requires c =
    (c.requires.1.in_rows, c.requires.1.in_cols, part_room (part_printed (four (goal.at.put_places-requires c).After-put_eta) c.word-3.ensures))

pub byte-requires : goal.byte-requires
unfolding places_word
byte-requires c =
    part_room (part_printed (part_printed (four (goal.at.byte-requires c).After-put_eta) c.word-3.ensures) c.put_places.ensures)

pub returns : goal.returns
unfolding places_word
returns c =
    all_printed (part_printed (part_printed (part_printed (four (goal.at.returns c).After-put_eta) c.word-3.ensures) c.put_places.ensures) c.byte.ensures)
