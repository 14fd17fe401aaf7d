-- `covering::ends_before` meets its contract. The invariant: the ends so far are those of the members before i. Assumes nothing.
use native.Mathlib.Omega.{arith}
use Rattle.covering.proofs.Laws.{some_none, some_more, gain_yes, gain_no}
use Rattle.bitset.proofs.In.{in_union, in_none, in_more}
use Rattle.covering.proofs.ends_before.Goals as goal
use Rattle.covering.proofs.ends_before.Goals.{then-begin-x, else-begin-x}

pub loop-i-init : goal.loop-i-init
loop-i-init c = in_none (λ e. some_none)

pub loop-i-preserved : goal.loop-i-preserved
loop-i-preserved c =
    in_more (λ e. elim c.if-begin-x.branch [
      | then-begin-x w ↦ rw w.r-is (gain_yes w.if-begin-x.true (in_union w.union-r.ensures e))
      | else-begin-x w ↦ rw w.r-is (gain_no (λ l. let z = w.if-begin-x.false in omega arith))
    ]) (λ e. some_more _) c.loop-i.invariant
