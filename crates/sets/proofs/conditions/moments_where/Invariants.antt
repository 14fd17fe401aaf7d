-- `sets::conditions::moments_where` meets its contract. The invariant: the mask has the moments before t at which the test says yes.
-- Assumes nothing.
use Rattle.sets.proofs.Masks.{PickedTo}
use Rattle.sets.proofs.conditions.moments_where.Given as goal

abbrev pub invariant-loop-t : goal.invariant-loop-t
invariant-loop-t g l = PickedTo l.fn.span.a (λ t r. goal.F-post g l.test t r) l.mask l.t
