-- `covering::covered` meets its contract. The invariant: from the end `least` on, the members before i ask nothing more. Assumes nothing.
use Prim.Native.Nat.{ℕ, ◌≤◌, ◌<◌}
use mathlib.Core.Logic.{◌↔◌}
use mathlib.Core.List.{List}
use lib.ListN.{length}
use Rattle.covering.specs.Code.Cover.{Needed, entry_at}
use Rattle.covering.proofs.covered.Given as goal

-- from the end `least` on, the first i members ask nothing more
pub record NeedsTo (begins ends : List ℕ) (b least i : ℕ) : Type 0 where
  pub moment : least < 64
  pub needs : (e : ℕ) → e < 64 → (least ≤ e) ↔ ((j : ℕ) → j < i → Needed (length begins) (entry_at begins) (entry_at ends) b j e)

abbrev pub invariant-loop-i : goal.invariant-loop-i
invariant-loop-i l = NeedsTo l.begins l.ends l.b l.least l.i
