-- `sets::bounds::mark_pair` meets its contract. The invariant: the begins before y are marked. Assumes nothing.
use Prim.Native.Nat.{ℕ, ◌+◌, ◌*◌, ◌≤◌, ◌<◌}
use mathlib.Core.List.{List}
use lib.ListN.{get_or}
use Rattle.bitset.specs.Code.Members.{In}
use Rattle.sets.specs.Code.Bounds.{Grows, EndMarked}
use Rattle.sets.proofs.bounds.mark_pair.Given as goal

-- the begins before y are marked
pub record MarkedTo (ends : List ℕ) (p a z : ℕ) (old bounds : List ℕ) (y : ℕ) : Type 0 where
  pub grows : Grows old bounds
  pub marked : (v e : ℕ) → a ≤ v → v < y → a ≤ e → e ≤ z → In (get_or ends (p * 64 + v) 0) e → EndMarked bounds p v e

abbrev pub invariant-loop-y : goal.invariant-loop-y
invariant-loop-y l = MarkedTo l.ends l.p l.fn.span.a l.fn.span.z l.initial.bounds l.bounds l.y
