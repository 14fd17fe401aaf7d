-- `sets::conditions::fill_allowed` meets its contract. The invariant: the masks of the conditions before c are right. Assumes nothing.
use Rattle.model.specs.Code.Arrays.{value_in}
use Rattle.sets.specs.Code.Masks.{Allowed}
use Rattle.sets.proofs.conditions.fill_allowed.Given as goal

abbrev pub invariant-loop-c : goal.invariant-loop-c
invariant-loop-c l = Allowed (value_in l.values) l.conds l.span.last l.span.a l.span.z l.c l.allow
