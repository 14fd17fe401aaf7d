-- x & (x - 1) is x without its lowest. Assumes nothing.
use Rattle.bitset.proofs.Counts.{dropped}
use Rattle.bitset.proofs.drop_lowest.Goals as goal

pub returns : goal.returns
returns c = dropped c.args.x c.requires c.ranges.x.fits
