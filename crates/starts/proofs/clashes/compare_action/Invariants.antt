-- `starts::clashes::compare_action` meets its contract. The invariant: the actions below `b` that have a latest finish are stored with `a`.
-- Assumes nothing.
use Rattle.starts.proofs.ClashTable.{Comparing}
use Rattle.starts.proofs.clashes.compare_action.Given as goal

abbrev pub invariant-loop-b : goal.invariant-loop-b
invariant-loop-b l = Comparing l.tables.job.now l.latest l.a l.b l.table
