-- An end at h or later is in both. Assumes nothing.
use Rattle.bitset.proofs.In.{in_both, in_from, in_below}
use Rattle.narrowing.proofs.late.Goals as goal

pub returns : goal.returns
returns c = λ e t g. (in_both c.inter.ensures e).1 (t, (in_from c.from.ensures e).1 (g, in_below c.ranges.ends.fits t))
