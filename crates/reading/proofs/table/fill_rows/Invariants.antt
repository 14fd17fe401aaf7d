-- `reading::table::fill_rows` meets its contract. The invariant: the rows of p after b are there. Assumes nothing.
use Rattle.reading.proofs.Tables.{RowsFrom}
use Rattle.model.specs.Code.Arrays.{alone, trajectory_in}
use Prim.Native.Nat.{◌+◌}
use Rattle.reading.proofs.table.fill_rows.Given as goal

abbrev pub invariant-loop-b : goal.invariant-loop-b
invariant-loop-b l = RowsFrom (alone l.word) (trajectory_in l.arrays) l.p l.initial.table l.table (l.b + 1)
