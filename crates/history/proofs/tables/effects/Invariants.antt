-- `history::tables::effects` meets its contract. The invariant: the rows of the actions below `a` are stored. Assumes nothing.
use Rattle.history.specs.Actions.{effect}
use Rattle.history.proofs.Stores.{Rows}
use Rattle.history.proofs.tables.effects.Given as goal

abbrev pub invariant-loop-a : goal.invariant-loop-a
invariant-loop-a l = Rows (effect l.job) 256 l.a l.table
