-- The invariant of `job::positions::place_words`: the words of the kind before `i` have their positions.
use Rattle.job.proofs.WordPositions.{Marked}
use Rattle.job.proofs.positions.place_words.Given as goal

abbrev pub invariant-loop-i : goal.invariant-loop-i
invariant-loop-i l = Marked l.k l.job l.i l.position l.total
