-- `put_eta`: nothing or something to be put.
use mathlib.Core.Path.{◌≡◌, ap}
use native.Mathlib.Omega.{arith}
use lib.ListN.{length}
use Rattle.std.proofs.lemmas.Bool.Decides.{nat_tests}
use Rattle.replies.specs.Replies.{none_word, eta_text}
use Rattle.replies.proofs.EtaTexts.{eta_none}
use Rattle.replies.proofs.put_eta.Goals as goal
use Rattle.replies.proofs.put_eta.Goals.{Then-is_empty}

none : (c : Then-is_empty) → eta_text c.args.eta.now ≡ none_word
none c = let e : length c.args.eta.now ≡ 0 = grind (arith, nat_tests, c.if-is_empty.ensures) in eta_none c.args.eta.now e

pub word-requires : goal.word-requires
unfolding none_word
word-requires c = omega (arith, c.requires, ap length (none (goal.at.word-requires c).Then-is_empty))

pub returns-then-is_empty : goal.returns-then-is_empty
unfolding none_word
returns-then-is_empty c = rw (none (goal.at.returns-then-is_empty c).Then-is_empty) c.word.ensures
