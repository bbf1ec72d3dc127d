-- `feed_ready`: i bytes of the chunk are taken, and the lists are the caller's.
use mathlib.Core.Path.{refl}
use native.Mathlib.Omega.{arith}
use borrow.Author.Rules.{rules}
use Rattle.listing.proofs.Answers.{shown}
use Rattle.script.proofs.Takings.{taken_none, taken_more, taken_stops}
use Rattle.script.proofs.bytes.feed_ready.Goals as goal

pub loop-i-init : goal.loop-i-init
loop-i-init c = (taken_none refl c.requires, search rules)

pub loop-i-preserved : goal.loop-i-preserved
loop-i-preserved c =
    (taken_more c.loop-i.invariant.0 (omega arith) (shown c.goes_on.ensures c.if-not-goes_on.false) c.byte-st.ensures.makes, search rules)

pub returns-clause-feeds : goal.returns-clause-feeds
returns-clause-feeds c = taken_stops c.loop-i.invariant.0 (λ h. absurd (omega arith)) c.requires (omega arith) (search rules)
