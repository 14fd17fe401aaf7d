-- `facts::list::write_facts` meets its contract. The invariant: the facts of the fluents below `f` are written. Assumes nothing.
use Rattle.facts.specs.Code.Written.{facts_in, Written}
use Rattle.facts.proofs.list.write_facts.Given as goal

abbrev pub invariant-loop-f : goal.invariant-loop-f
invariant-loop-f l = Written l.initial.buffer l.at (facts_in l.head l.t l.row l.f) l.end l.buffer
