-- `ending::first_begins` meets its contract. The invariant: all begins are in a..z, and those before i are members where there are such.
-- Assumes nothing.
use Prim.Native.Nat.{ℕ, ◌≤◌, ◌<◌}
use mathlib.Core.Path.{◌≡◌}
use mathlib.Core.List.{List}
use lib.ListN.{length}
use Rattle.bitset.specs.Code.Members.{In}
use Rattle.covering.specs.Code.Cover.{entry_at}
use Rattle.keeping.specs.declared.Choice.{Choice}
use Rattle.narrowing.specs.Code.Open.{choice_at}
use Rattle.ending.proofs.first_begins.Given as goal

-- the begins r of all members, of which those before i are first begins
pub record Firsts (old : List Choice) (a z i : ℕ) (r : List ℕ) : Type 0 where
  pub four : length r ≡ 4
  pub after : (j : ℕ) → j < 4 → a ≤ entry_at r j
  pub upto : (j : ℕ) → entry_at r j ≤ z
  pub members : (j : ℕ) → j < i → (x : ℕ) → In (choice_at old j).begins x → a ≤ x → x ≤ z → In (choice_at old j).begins (entry_at r j)

abbrev pub invariant-loop-i : goal.invariant-loop-i
invariant-loop-i l = Firsts l.members l.a l.z l.i l.r
