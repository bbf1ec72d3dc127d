-- `put_place`: the row after a space, the colon, the column.
use mathlib.Core.List.{List, [], ◌∷◌, ◌++◌}
use mathlib.Core.Path.{ap}
use Prim.Native.Nat.{ℕ}
use Rattle.text.specs.Text.{decimal, spaced}
use Rattle.text.proofs.Printing.{Left, none_printed, part_room, part_printed, all_printed}
use Rattle.text.proofs.SpacedLaws.{spaced_one}
use Rattle.replies.specs.Replies.{place_text, colon}
use Rattle.replies.proofs.places.put_place.Goals as goal
use Rattle.replies.proofs.places.put_place.Goals.{Start}

module _ (s : Start) where
  parts : Left (place_text 0 (s.args.row, s.args.col)) s.args.out.now (spaced (s.args.row ∷ []) ∷ (colon ∷ []) ∷ decimal s.args.col ∷ []) s.args.out.now
  parts = none_printed _ (ap (λ (l : List ℕ). l ++ (colon ∷ decimal s.args.col)) (spaced_one s.args.row)) s.requires

pub spaced-requires : goal.spaced-requires
spaced-requires c = part_room (parts (goal.at.spaced-requires c).Start)

pub byte-requires : goal.byte-requires
byte-requires c = part_room (part_printed (parts (goal.at.byte-requires c).Start) c.spaced.ensures)

pub number-requires : goal.number-requires
number-requires c =
    part_room (part_printed (part_printed (parts (goal.at.number-requires c).Start) c.spaced.ensures) c.byte.ensures)

pub returns : goal.returns
returns c =
    all_printed (part_printed (part_printed (part_printed (parts (goal.at.returns c).Start) c.spaced.ensures) c.byte.ensures) c.number.ensures)
