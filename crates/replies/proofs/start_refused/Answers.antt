-- `start_refused`: the word, and the refusal's number.
use mathlib.Core.List.{[], ◌∷◌}
use mathlib.Core.Path.{refl}
use native.Mathlib.Omega.{arith}
use Rattle.text.proofs.Printing.{Left, none_printed, part_room, part_printed, all_printed}
use Rattle.replies.specs.Replies.{start_word, refused_word, numbered, start_refused}
use Rattle.replies.proofs.Lengths.{start_refused_few}
use Rattle.replies.proofs.start_refused.Goals as goal
use Rattle.replies.proofs.start_refused.Goals.{Start}

module _ (s : Start) where
  parts : Left (start_refused s.args.n) s.args.out.now (start_word ∷ numbered refused_word s.args.n ∷ []) s.args.out.now
  parts = none_printed _ refl (omega (arith, s.requires, start_refused_few s.args.n (omega (arith, s.ranges.n))))

pub put_numbered-requires : goal.put_numbered-requires
unfolding start_word refused_word
put_numbered-requires c =
    part_room (part_printed (parts (goal.at.put_numbered-requires c).Start) c.word.ensures)

pub returns : goal.returns
unfolding start_word refused_word
returns c =
    all_printed (part_printed (part_printed (parts (goal.at.returns c).Start) c.word.ensures) c.put_numbered.ensures)
