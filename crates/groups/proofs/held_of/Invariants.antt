-- `groups::held_of` meets its contract. The invariant: `n` counts the words before the one of this turn. Assumes nothing.
use mathlib.Core.Path.{◌≡◌}
use Prim.Native.Nat.{◌≤◌}
use lib.ListN.{take}
use Rattle.groups.specs.Code.GroupTable.{held_of}
use Rattle.groups.proofs.held_of.Given as goal

abbrev pub invariant-loop-s : goal.invariant-loop-s
invariant-loop-s l = (l.n ≤ l.s-index) × (l.n ≡ held_of l.members (take l.s-index l.held))
