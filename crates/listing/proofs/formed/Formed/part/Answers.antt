-- `part`: each part of a well-formed listing lies within it.
use native.Mathlib.Omega.{arith}
use Rattle.listing.proofs.Listings.{good_within}
use Rattle.listing.proofs.formed.Formed.part.Goals as goal

pub part-requires : goal.part-requires
part-requires c = omega (arith, good_within c.args.self.good c.args.k c.requires)
