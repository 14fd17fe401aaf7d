-- The members of both sets from the lowest of the other on, put together. Assumes nothing.
use mathlib.Core.Logic.{inl, inr}
use Rattle.bitset.proofs.Joins.{max_none, max_some}
use Rattle.bitset.proofs.max_of.Goals as goal

pub returns-then-a-eq0 : goal.returns-then-a-eq0
returns-then-a-eq0 c = max_none (inl c.if-a-eq0.true)

pub returns-then-b-eq0 : goal.returns-then-b-eq0
returns-then-b-eq0 c = max_none (inr c.if-b-eq0.true)

pub returns : goal.returns
returns c =
    max_some c.union.result c.ranges.a.fits c.ranges.b.fits c.lowest-2.ensures c.lowest.ensures
    (λ k. cc (c.union.ensures k, c.inter.ensures k, c.from.ensures k, c.inter-2.ensures k, c.from-2.ensures k))
