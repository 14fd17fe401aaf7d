-- `sets::rows::set_rows` meets its contract. The invariant: the rows before b are right. Assumes nothing.
use Rattle.sets.specs.Code.Rows.{task_set_of}
use Rattle.sets.proofs.Stored.{RowsTo}
use Rattle.sets.proofs.rows.set_rows.Given as goal

abbrev pub invariant-loop-b : goal.invariant-loop-b
invariant-loop-b l = RowsTo (task_set_of l.fn.set.members.now l.fn.set.conditions.now l.arrays.values l.arrays.last) l.p l.initial.table l.table l.b
