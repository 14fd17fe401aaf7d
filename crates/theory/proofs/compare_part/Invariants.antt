-- `theory::compare_part` meets its contract. The invariant: the first `i` words of the part are the same. Assumes nothing.
use Rattle.theory.proofs.Laws.{Same}
use Rattle.theory.proofs.compare_part.Given as goal

abbrev pub invariant-loop-i : goal.invariant-loop-i
invariant-loop-i l = Same l.given l.part l.at l.i
