-- The numbers from the lowest member on, where there is one. Assumes nothing.
use Rattle.bitset.proofs.In.{in_none, in_zero}
use Rattle.bitset.proofs.from_lowest.Goals as goal

pub returns-then-x-eq0 : goal.returns-then-x-eq0
returns-then-x-eq0 c = in_none (λ k h. in_zero c.if-x-eq0.true h.in_x)
