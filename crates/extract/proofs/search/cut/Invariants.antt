-- `extract::search::cut` meets its contract. The loop's invariant: every cut is at one of the ends of x that are left. Assumes nothing.
use Rattle.extract.proofs.Searches.{Left}
use Rattle.extract.proofs.search.cut.Given as goal

abbrev pub invariant-loop-end : goal.invariant-loop-end
invariant-loop-end l = Left l.table l.two.x l.two.y l.two.begin l.two.end l.pause l.from l.end-iterator.left
