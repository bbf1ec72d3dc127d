-- `read_sheet`: what the bytes decide, the room in the lists, and the record put into them.
use Rattle.listing.proofs.Answers.{shown}
use Rattle.register.specs.Takes.{Takes}
use Rattle.register.specs.Lent.{Lists}
use Rattle.register.specs.Loan.{held}
use Rattle.sheet.specs.Reading.{record_read}
use Rattle.sheet.proofs.Replying.{Found, finds_found, reads_room, reads_accepted}
use Rattle.sheet.proofs.read_sheet.Goals as goal
use Rattle.sheet.proofs.read_sheet.Goals.{Else-not-takes, In_ok-size, Start}
use mathlib.Core.Path.{refl}

-- The lists as they were lent.
module _ (s : Start) where
  abbrev lent : Lists
  lent = held s.args.lists.now

-- What was found, where the bytes are no refusal.
known : (c : In_ok-size) → Found (record_read c.args.bytes.now) c.in_ok-size.field-0.size c.in_ok-size.field-0.total c.in_ok-size.field-0.sound
known c = finds_found (record_read c.args.bytes.now) refl c.in_ok-size.ensures

-- The lists have room for it.
room : (c : Else-not-takes) → Takes c.in_ok-size.field-0.size c.in_ok-size.field-0.total (lent (goal.at.Else-not-takes c).Start)
room c = rw c.view.ensures at (shown c.takes.ensures c.if-not-takes.false)

pub fill-requires : goal.fill-requires
fill-requires c = reads_room (known (goal.at.fill-requires c).In_ok-size) (lent (goal.at.fill-requires c).Start) (room (goal.at.fill-requires c).Else-not-takes)

pub returns-clause-reads : goal.returns-clause-reads
returns-clause-reads c =
    reads_accepted (known (goal.at.returns-clause-reads c).In_ok-size) (lent (goal.at.returns-clause-reads c).Start) (room (goal.at.returns-clause-reads c).Else-not-takes) c.if-not-sound.false c.fill.ensures.filled
