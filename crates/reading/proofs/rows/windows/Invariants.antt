-- `reading::rows::windows` meets its contract: each turn moves the window after the lowest end that is left over. Assumes nothing.
use Rattle.bitset.proofs.Joins.{Split}
use Rattle.reading.proofs.Windows.{Paused}
use Rattle.reading.proofs.rows.windows.Given as goal

abbrev pub invariant-loop-end : goal.invariant-loop-end
invariant-loop-end l = Split (Paused l.pause l.last) l.ends l.found l.end-iterator.left
