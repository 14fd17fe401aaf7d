-- `sets::conditions::fill_allowed` meets its contract. The invariant: the masks of the conditions before c are right. Assumes nothing.
use native.Mathlib.Omega.{arith}
use Rattle.sets.proofs.Masks.{allowed_more}
use Rattle.sets.proofs.conditions.fill_allowed.Goals as goal

pub loop-c-preserved : goal.loop-c-preserved
loop-c-preserved c = allowed_more c.loop-c.c (omega arith) c.loop-c.invariant c.fill_masks.ensures.0 c.fill_masks.ensures.1
