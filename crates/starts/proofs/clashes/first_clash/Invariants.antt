-- `starts::clashes::first_clash` meets its contract. The invariant: the row fits no word before `i`, `latest` has the latest finishes of the
-- starts before `i`, and `table` tells of each two actions that have one. Assumes nothing.
use lib.ListN.{length}
use Rattle.starts.specs.Rows.{clashes}
use Rattle.starts.specs.Code.Latest.{Latest, Clashes}
use Rattle.starts.proofs.Rows.{Tried}
use Rattle.starts.proofs.clashes.first_clash.Given as goal

abbrev pub invariant-loop-i : goal.invariant-loop-i
invariant-loop-i l =
    Tried 9 (clashes l.tables.job.now l.starts) (length l.starts) l.i × Latest l.tables.job.now l.starts l.i l.latest × Clashes l.tables.job.now l.latest l.table
