-- `facts::list::fill_upto` meets its contract. The invariant: the facts of the moments before `t` are written. Assumes nothing.
use Rattle.facts.specs.Code.Written.{rows_facts, Written}
use Rattle.facts.proofs.list.fill_upto.Given as goal

abbrev pub invariant-loop-t : goal.invariant-loop-t
invariant-loop-t l = Written l.initial.buffer 0 (rows_facts l.history l.head l.n 0 l.t) l.at l.buffer
