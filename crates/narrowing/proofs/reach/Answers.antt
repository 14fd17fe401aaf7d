-- What lies between a begin and an end lies after the lowest begin and before the highest end. Assumes nothing.
use native.Mathlib.Omega.{arith}
use Rattle.bitset.proofs.In.{in_both, in_below}
use Rattle.narrowing.proofs.reach.Goals as goal

pub returns : goal.returns
returns c = λ x e t b d l m. let h = in_below c.ranges.ends.fits d in
    (in_both c.inter.ensures t).1 (
      (c.from_lowest.ensures t).1 (record { member = x; in_x = b; from = l; below = omega arith }),
      (c.upto_highest.ensures t).1 (record { member = e; in_x = d; upto = m }),
    )
