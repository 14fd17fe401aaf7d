-- `reading::table::fill_table` meets its contract. The invariant: the rows of the nodes below p are right, and every other row is empty. Assumes nothing.
use Rattle.reading.proofs.Tables.{Built}
use Rattle.model.specs.Code.Arrays.{procedure_in, trajectory_in}
use Rattle.reading.proofs.table.fill_table.Given as goal

abbrev pub invariant-loop-p : goal.invariant-loop-p
invariant-loop-p l = Built (procedure_in l.words l.arrays) (trajectory_in l.arrays) l.table l.p
