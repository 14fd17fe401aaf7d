-- `history::tables::each_action` meets its contract. The invariant: what is given for the actions below `a` is stored. Assumes nothing.
use Rattle.history.specs.Code.Stores.{EachGiven}
use Rattle.history.proofs.tables.each_action.Given as goal

abbrev pub invariant-loop-a : goal.invariant-loop-a
invariant-loop-a g l = EachGiven l.a (λ a v. goal.F-post g l.entry a v) l.table
