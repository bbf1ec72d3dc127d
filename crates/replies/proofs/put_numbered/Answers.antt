-- `put_numbered`: the word, the number, the LF.
use mathlib.Core.List.{[], ◌∷◌}
use mathlib.Core.Path.{refl}
use Rattle.text.specs.Text.{LF, spaced}
use Rattle.text.proofs.Printing.{Left, none_printed, part_printed, all_printed}
use Rattle.replies.specs.Replies.{numbered}
use Rattle.replies.proofs.put_numbered.Goals as goal
use Rattle.replies.proofs.put_numbered.Goals.{Start}

module _ (s : Start) where
  parts : Left (numbered s.args.word.now s.args.n) s.args.out.now (s.args.word.now ∷ spaced (s.args.n ∷ []) ∷ (LF ∷ []) ∷ []) s.args.out.now
  parts = none_printed _ refl s.requires

pub returns : goal.returns
returns c =
    all_printed (part_printed (part_printed (part_printed (parts (goal.at.returns c).Start) c.word.ensures) c.spaced.ensures) c.byte.ensures)
