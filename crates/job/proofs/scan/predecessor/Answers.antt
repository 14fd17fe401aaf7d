-- `job::scan::predecessor` meets its contract: the word before is the first of the words before. Assumes nothing.
use Prim.Native.Nat.{◌<◌}
use native.Mathlib.Omega.{arith}
use Rattle.job.specs.Before.{before}
use Rattle.job.specs.Follow.{predecessor}
use Rattle.job.proofs.Before.{before-less}
use Rattle.job.proofs.scan.predecessor.Goals as goal

pub returns-then-i-eq0 : goal.returns-then-i-eq0
unfolding before predecessor
returns-then-i-eq0 c = rw c.if-i-eq0.true

pub returns : goal.returns
unfolding predecessor
returns c =
    let h : 0 < c.args.i = omega arith in
    rw (before-less, ← c.is_set.ensures, ← c.kind_of.ensures.0) c.pick.ensures
