-- Marks as they are kept: the empty ones have none, and one that is stored is one more. Rests on specs/Sets.antt, `listing` and
-- `register`.
use mathlib.Core.Bool.{Bool, true, false}
use mathlib.Core.List.{List}
use mathlib.Core.Path.{◌≡◌}
use Prim.Native.Nat.{ℕ, ◌<◌}
use native.Mathlib.Omega.{arith}
use lib.ListN.{length, set, get_or-replicate, length-replicate}
use lib.Seq.{get_or-set_same, get_or-set_other}
use Rattle.listing.specs.Limits.{max_mark}
use Rattle.register.specs.Marks.{flagged, marked, unmarked}
use Rattle.judge.specs.Sets.{With}

pub unmarked_none : (k : ℕ) → k < max_mark → marked unmarked k ≡ false
unfolding flagged marked unmarked
unmarked_none k h = get_or-replicate max_mark k false false h

pub unmarked_flags : (k : ℕ) → k < max_mark → flagged unmarked.marks k ≡ false
unfolding marked
unmarked_flags = unmarked_none

pub unmarked_long : length unmarked.marks ≡ max_mark
unfolding unmarked
unmarked_long = length-replicate max_mark false

pub stored_flag : (l : List Bool) (i : ℕ) → i < max_mark → length l ≡ max_mark → With (flagged l) (flagged (set l i true)) i
unfolding flagged
stored_flag l i h n = record { here = get_or-set_same l i true false (omega arith); others = λ k b d. get_or-set_other l i k true false d }
