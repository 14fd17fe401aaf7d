-- `theory::compare_facts` meets its contract. The invariant: row 11 is left to the facts from moment `t` on. Assumes nothing.
use Rattle.theory.proofs.Turns.{Turn}
use Rattle.theory.proofs.compare_facts.Given as goal

abbrev pub invariant-loop-t : goal.invariant-loop-t
invariant-loop-t l = Turn l.job l.history l.given l.last l.at l.t l.row
