-- `theory::compare_part` meets its contract. The invariant: the first `i` words of the part are the same. Assumes nothing.
use native.Mathlib.Omega.{arith}
use Rattle.theory.proofs.Laws.{part_differs, given_ends, part_ends, same_start, same_more}
use Rattle.theory.proofs.compare_part.Goals as goal

pub loop-i-init : goal.loop-i-init
loop-i-init c = same_start _ _ _ c.requires

pub returns-then-given-j : goal.returns-then-given-j
returns-then-given-j c = rw (c.refuse.ensures, given_ends _ _ _ _ c.loop-i.invariant c.if-given-j.true c.loop-i-test.true)

pub returns-then-given-j-2 : goal.returns-then-given-j-2
returns-then-given-j-2 c = rw (c.refuse-then-given-j-2.ensures, part_differs _ _ _ _ c.loop-i.invariant c.if-given-j.false c.loop-i-test.true c.if-given-j-2.true)

pub loop-i-preserved : goal.loop-i-preserved
loop-i-preserved c = same_more _ _ _ c.loop-i.invariant c.if-given-j.false c.loop-i-test.true c.if-given-j-2.false

pub returns : goal.returns
returns c = rw (part_ends _ _ _ _ c.loop-i.invariant (omega arith))
