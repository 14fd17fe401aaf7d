-- `covering::ends_before` meets its contract. The invariant: the ends so far are those of the members before i. Assumes nothing.
use Prim.Native.Nat.{ℕ, ◌<◌}
use mathlib.Core.Logic.{◌↔◌}
use Rattle.bitset.specs.Code.Members.{In}
use Rattle.covering.specs.Code.Cover.{SomeBelow, entry_at}
use Rattle.covering.proofs.ends_before.Given as goal

abbrev pub invariant-loop-i : goal.invariant-loop-i
invariant-loop-i l = (e : ℕ) → In l.r e ↔ SomeBelow l.i (λ j. (entry_at l.begins j < l.x) × (In (entry_at l.ends j) e))
