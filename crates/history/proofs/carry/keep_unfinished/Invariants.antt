-- `history::carry::keep_unfinished` meets its contract. The invariant: of the words before `i` those that pass are the first `n`, and from
-- `i` on the list is as it was. Assumes nothing.
use Rattle.history.specs.Code.Held.{unfinished_by}
use Rattle.history.proofs.HeldList.{Kept}
use Rattle.history.proofs.carry.keep_unfinished.Given as goal

abbrev pub invariant-loop-i : goal.invariant-loop-i
invariant-loop-i l = Kept (unfinished_by l.durations l.t) l.initial.held l.i l.n l.held
