-- `ending::ends::own_ends` meets its contract. The invariant: the masks before i are those of the own rows. Assumes nothing.
use Prim.Native.Nat.{ℕ, ◌<◌}
use mathlib.Core.Path.{◌≡◌}
use mathlib.Core.List.{List}
use lib.ListN.{length}
use Rattle.bitset.specs.Code.Members.{In}
use Rattle.covering.specs.Code.Cover.{entry_at}
use Rattle.keeping.specs.Code.Tables.{pair_at}
use Rattle.ending.proofs.ends.own_ends.Given as goal

-- the own rows of the first i members
pub record Own (ends begins r : List ℕ) (i : ℕ) : Type 0 where
  pub four : length r ≡ 4
  pub rows : (j : ℕ) → j < i → entry_at r j ≡ pair_at ends j j (entry_at begins j)
  pub small : (j e : ℕ) → In (entry_at r j) e → e < 64

abbrev pub invariant-loop-i : goal.invariant-loop-i
invariant-loop-i l = Own l.tables.ends l.begins l.r l.i
