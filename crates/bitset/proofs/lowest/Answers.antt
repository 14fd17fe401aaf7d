-- The lowest member stands above the trailing zeros. Assumes nothing.
use Rattle.bitset.proofs.Ends.{lowest}
use Rattle.bitset.proofs.lowest.Goals as goal

pub returns : goal.returns
returns c = lowest c.args.x c.requires c.ranges.x.fits
