-- `sets::placing::greatest_ends` meets its contract. Assumes nothing.
use Prim.Native.Nat.{ℕ, ◌<◌}
use mathlib.Core.Path.{◌≡◌}
use mathlib.Core.List.{List}
use lib.ListN.{length}
use Rattle.bitset.specs.Code.Members.{Highest}
use Rattle.covering.specs.Code.Cover.{entry_at}
use Rattle.sets.proofs.placing.greatest_ends.Given as goal

-- the greatest ends of the first i masks
pub record Taken (e : ℕ) (sets ends : List ℕ) (i : ℕ) : Type 0 where
  pub four : length ends ≡ 4
  pub highest : (j : ℕ) → j < i → Highest (entry_at sets j) e (entry_at ends j)

abbrev pub invariant-loop-i : goal.invariant-loop-i
invariant-loop-i l = Taken l.e l.sets l.ends l.i
