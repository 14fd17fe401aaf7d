-- `history::states::Actions::apply_starts` meets its contract. The invariant: once the starts that are left are applied too, all are. Assumes nothing.
use mathlib.Core.List.{List}
use mathlib.Core.Path.{◌≡◌}
use Prim.Native.Nat.{ℕ}
use lib.ListN.{length}
use Rattle.history.specs.Code.Lent.{WalkableBy}
use Rattle.history.specs.Code.Passes.{AfterPass}
use Rattle.history.proofs.states.Actions.apply_starts.Given as goal

abbrev pub invariant-loop-s : goal.invariant-loop-s
invariant-loop-s l = record {
  walk : WalkableBy l.self l.s-iterator.iter.rest.now;
  size : length l.state ≡ length l.initial.state;
  left : (new : List ℕ) → AfterPass l.self.job.now l.hiding l.t l.s-iterator.iter.rest.now l.state new → AfterPass l.self.job.now l.hiding l.t l.starts l.initial.state new;
}
