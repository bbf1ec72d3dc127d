-- `fits`: the total is the paper's, since the starts do not fall.
use Prim.Native.Nat.{◌+◌}
use native.Mathlib.Omega.{arith}
use Rattle.listing.proofs.Listings.{starts_rise}
use Rattle.replace.proofs.check.fits.Goals as goal

pub overflow_sub-total-2 : goal.overflow_sub-total-2
overflow_sub-total-2 c = omega (arith, starts_rise c.requires.2 (c.args.c + 1) c.args.m (omega arith) (omega arith))
