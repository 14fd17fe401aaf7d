-- `sets::conditions::moments_where` meets its contract. The invariant: the mask has the moments before t at which the test says yes.
-- Assumes nothing.
use mathlib.Core.Path.{◌∙◌}
use native.Mathlib.Omega.{arith}
use Rattle.sets.proofs.Masks.{picked_none, picked_yes, picked_no, picked_all}
use Rattle.sets.proofs.conditions.moments_where.Goals as goal
use Rattle.sets.proofs.conditions.moments_where.Goals.{else-loop-t-test, then-loop-t-test+else-t-t-end, then-test, else-test}

pub loop-t-init : goal.loop-t-init
loop-t-init g c = picked_none

pub loop-t-preserved : goal.loop-t-preserved
loop-t-preserved g c = let l = c.loop-t in elim c.if-test.branch [
  | then-test w ↦ picked_yes l.auto.t l.invariant c.test.ensures w.single.result w.if-test.true w.single.ensures w.union-mask.ensures w.mask-is
  | else-test w ↦ picked_no l.auto.t l.invariant c.test.ensures w.if-test.false w.mask-is
]

pub returns : goal.returns
returns g c = let l = c.loop-t in elim c.loop-t-test.branch [
  | else-loop-t-test w ↦ absurd (omega arith)
  | then-loop-t-test+else-t-t-end w ↦ picked_all (omega arith) (elim w.if-test.branch [
    | then-test v ↦ picked_yes l.auto.t l.invariant w.test.ensures v.single.result v.if-test.true v.single.ensures v.union-mask.ensures (w.mask-is ∙ v.mask-is)
    | else-test v ↦ picked_no l.auto.t l.invariant w.test.ensures v.if-test.false (w.mask-is ∙ v.mask-is)
  ])
]
