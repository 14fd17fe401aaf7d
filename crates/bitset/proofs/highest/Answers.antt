-- The highest member is as far below 63 as there are zeros above it. Assumes nothing.
use Rattle.bitset.proofs.Ends.{highest_of}
use Rattle.bitset.proofs.highest.Goals as goal

pub returns : goal.returns
returns c = highest_of c.args.x c.requires c.ranges.x.fits
