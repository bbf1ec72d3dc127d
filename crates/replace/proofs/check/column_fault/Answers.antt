-- `column_fault`: new rows that rise are few.
use native.Mathlib.Omega.{arith}
use Rattle.listing.proofs.Answers.{shown}
use Rattle.listing.proofs.Rises.{rising_few}
use Rattle.replace.proofs.check.column_fault.Goals as goal

pub fits-requires : goal.fits-requires
fits-requires c =
    (omega arith, c.requires.1, c.requires.2, omega (arith, c.requires.0, rising_few (shown c.rising.ensures c.if-not-rising.false)))
