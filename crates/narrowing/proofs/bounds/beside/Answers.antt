-- A begin with which an end may be one of `ends` is in the row of the lowest of them and in that of the highest. Assumes nothing.
use native.Mathlib.Omega.{arith}
use Rattle.bitset.proofs.Ends.{highest_ge, lowest_le}
use Rattle.bitset.proofs.In.{in_both, in_below, in_zero}
use Rattle.narrowing.proofs.bounds.beside.Goals as goal

pub returns-then-ends-eq0 : goal.returns-then-ends-eq0
returns-then-ends-eq0 c = λ y e t b. in_zero c.if-ends-eq0.true t

pub returns : goal.returns
returns c = λ y e t b.
    let high = c.highest in
    let low = c.lowest in
    (in_both c.inter.ensures y).1 (
      b.late low.result (lowest_le low.ensures t.yes),
      b.soon high.result (highest_ge high.ensures (in_below c.ranges.ends.fits t) t.yes) (omega (arith, high.ensures.upto)),
    )
