-- `sets::bounds::fill` meets its contract. The invariant: the bounds have each placement that the table of ends has. Assumes nothing.
use Rattle.sets.specs.Code.Tables.{BoundsFilled}
use Rattle.sets.proofs.bounds.fill.Given as goal

abbrev pub invariant-loop-p : goal.invariant-loop-p
invariant-loop-p l = BoundsFilled l.initial.tables l.tables l.fn.span.a l.fn.span.z
