-- `put_places`: the places before this one are printed.
use lib.ListN.{length}
use Rattle.pattern.specs.Order.{pairs}
use Rattle.text.specs.Text.{carried}
use Rattle.text.proofs.Printing.{Printing}
use Rattle.replies.specs.Replies.{place_text}
use Rattle.replies.proofs.places.put_places.Given as goal

abbrev pub invariant-loop-row : goal.invariant-loop-row
invariant-loop-row l = Printing place_text carried (pairs l.m l.rows l.cols) (length l.yielded) 0 l.initial.out l.out
