-- `spaced`: the space, and the number behind it.
use mathlib.Core.List.{[], ◌∷◌}
use mathlib.Core.Path.{sym}
use Rattle.text.specs.Text.{space, decimal, spaced}
use Rattle.text.proofs.Printing.{Left, none_printed, part_room, part_printed, all_printed}
use Rattle.text.proofs.SpacedLaws.{spaced_one}
use Rattle.text.proofs.output.Output.spaced.Goals as goal
use Rattle.text.proofs.output.Output.spaced.Goals.{Start}

module _ (s : Start) where
  parts : Left (spaced (s.args.n ∷ [])) s.args.self.now ((space ∷ []) ∷ decimal s.args.n ∷ []) s.args.self.now
  parts = none_printed _ (sym (spaced_one s.args.n)) s.requires

pub byte-requires : goal.byte-requires
byte-requires c = part_room (parts (goal.at.byte-requires c).Start)

pub number-requires : goal.number-requires
number-requires c = part_room (part_printed (parts (goal.at.number-requires c).Start) c.byte.ensures)

pub returns : goal.returns
returns c =
    all_printed (part_printed (part_printed (parts (goal.at.returns c).Start) c.byte.ensures) c.number.ensures)
