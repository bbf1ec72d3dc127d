-- `examine`: the first pass, and the test of the order.
use Rattle.sheet.proofs.Findings.{scanned_asked, finds_read}
use Rattle.sheet.proofs.examine.Goals as goal

pub sound-requires : goal.sound-requires
sound-requires c = scanned_asked c.in_ok-read.ensures

pub returns : goal.returns
returns c = finds_read c.in_ok-read.ensures c.sound.ensures
