-- `sets::bounds::join` meets its contract. The invariant: the entries of the first k turns are joined. Assumes nothing.
use Rattle.sets.proofs.Late.{Joined}
use Rattle.sets.proofs.bounds.join.Given as goal

abbrev pub invariant-loop-k : goal.invariant-loop-k
invariant-loop-k g l = Joined g.turn l.base l.initial.bounds l.bounds l.all l.k
