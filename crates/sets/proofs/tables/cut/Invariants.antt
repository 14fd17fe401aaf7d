-- `sets::tables::cut` meets its contract. The invariant: none is cut more than by the masks. Assumes nothing.
use Rattle.sets.specs.Code.Tables.{Cut}
use Rattle.sets.proofs.tables.cut.Given as goal

abbrev pub invariant-loop-y : goal.invariant-loop-y
invariant-loop-y l = Cut l.initial.table l.p l.allow l.c l.fn.span.a l.fn.span.z l.table
