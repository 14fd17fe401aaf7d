-- `ending::ends::narrow` meets its contract. The invariant: the masks have the first c conditions. Assumes nothing.
use Prim.Native.Nat.{ℕ}
use mathlib.Core.Path.{◌≡◌}
use mathlib.Core.List.{List}
use lib.ListN.{length}
use Rattle.keeping.specs.declared.Tables.{Tables}
use Rattle.ending.specs.Code.Ends.{Narrowed}
use Rattle.ending.proofs.ends.narrow.Given as goal

-- the masks with the first c conditions
pub record Passed (t : Tables) (begins old next : List ℕ) (c : ℕ) : Type 0 where
  pub four : length next ≡ 4
  pub masks : Narrowed t begins old c next

abbrev pub invariant-loop-c : goal.invariant-loop-c
invariant-loop-c l = Passed l.tables l.begins l.initial.next l.next l.c
