-- `starts::times::restart` meets its contract. The invariant: the row fits no word before `i`, and the table has the latest finishes of the
-- starts before `i`. Assumes nothing.
use lib.ListN.{length}
use Rattle.starts.specs.Rows.{in_hand_already}
use Rattle.starts.specs.Code.Latest.{Latest}
use Rattle.starts.proofs.Rows.{Tried}
use Rattle.starts.proofs.times.restart.Given as goal

abbrev pub invariant-loop-i : goal.invariant-loop-i
invariant-loop-i l = Tried 8 (in_hand_already l.tables.job.now l.starts) (length l.starts) l.i × Latest l.tables.job.now l.starts l.i l.latest
