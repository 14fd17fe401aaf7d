-- `covering::least_from` meets its contract: where there is none, none is late. Assumes nothing.
use Rattle.bitset.proofs.In.{in_both, in_from, in_below, in_zero}
use Rattle.covering.proofs.least_from.Goals as goal

pub returns-then-late-eq0-clause-least : goal.returns-then-late-eq0-clause-least
returns-then-late-eq0-clause-least c = λ e l. (
  λ h. absurd h,
  λ s. in_zero c.if-late-eq0.true ((in_both c.inter-late.ensures s.0).1 (s.1, (in_from c.from.ensures s.0).1 (s.2, in_below c.ranges.x.fits s.1))),
)
