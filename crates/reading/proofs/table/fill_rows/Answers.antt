-- `reading::table::fill_rows` meets its contract. The invariant: the rows of p after b are there. Assumes nothing.
use Rattle.reading.proofs.Tables.{RowsFrom, rows_end, rows_more}
use lib.ListN.{set}
use Prim.Native.Nat.{◌+◌, ◌-◌, ◌*◌}
use mathlib.Core.Path.{◌≡◌, refl}
use native.Mathlib.Omega.{arith}
use Rattle.model.specs.Code.Arrays.{alone, trajectory_in}
use Rattle.reading.proofs.table.fill_rows.Goals as goal
use Rattle.reading.proofs.table.fill_rows.Goals.{After-row}

-- with row b of p the rows from b on are there
from-b : (c : After-row) → RowsFrom (alone c.args.word) (trajectory_in c.args.arrays.now) c.args.p c.args.table.now (set c.loop-b.table (c.args.p * 64 + c.loop-b.b) c.row.result) c.loop-b.b
from-b c = rows_more c.requires.0 (omega arith) refl c.loop-b.invariant c.row.ensures

pub loop-b-preserved : goal.loop-b-preserved
loop-b-preserved c = let before : c.loop-b.b - 1 + 1 ≡ c.loop-b.b = omega arith in rw before (from-b (goal.at.loop-b-preserved c).After-row)

pub returns-2 : goal.returns-2
returns-2 c = rows_end (omega arith) (from-b (goal.at.returns-2 c).After-row)
