-- The invariant: `best` is left, and so are the members that are still to come. Assumes nothing.
use Rattle.std.proofs.Common.{ℕ, ◌<◌}
use Rattle.bitset.specs.Code.Members.{In}
use Rattle.narrowing.proofs.choose.Given as goal

abbrev pub invariant-loop-i : goal.invariant-loop-i
invariant-loop-i l = record { small : l.best < 4; left : In l.fn.state.left l.best; rest : (k : ℕ) → In l.i-iterator.left k → In l.fn.state.left k }
