-- `starts::unmet::check_needs` meets its contract. The invariant: the row fits no word before `i`. Assumes nothing.
use lib.ListN.{length}
use Rattle.starts.specs.Rows.{needs_unmet}
use Rattle.starts.proofs.Rows.{Tried}
use Rattle.starts.proofs.unmet.check_needs.Given as goal

abbrev pub invariant-loop-i : goal.invariant-loop-i
invariant-loop-i l = Tried 10 (needs_unmet l.tables.job.now l.starts) (length l.starts) l.i
