-- `sets::tables::together` meets its contract. Assumes nothing.
use Rattle.bitset.proofs.In.{in_both, in_zero}
use Rattle.sets.proofs.tables.together.Goals as goal

pub returns-then-inter-eq0 : goal.returns-then-inter-eq0
returns-then-inter-eq0 c = λ d e p q r s t. in_zero c.if-inter-eq0.true
    ((in_both c.inter.ensures d).1 (rw c.pair_at.ensures p, rw c.pair_at-2.ensures q))

pub returns-then-inter-eq0-2 : goal.returns-then-inter-eq0-2
returns-then-inter-eq0-2 c = λ d e p q r s t. in_zero c.if-inter-eq0-2.true
    ((in_both c.inter-2.ensures e).1 (rw c.pair_at-3.ensures r, rw c.pair_at-4.ensures s))
