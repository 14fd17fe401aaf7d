-- `sets::tables::fill_later` meets its contract. The invariant: the masks of the members before i are right. Assumes nothing.
use Prim.Native.Nat.{ℕ, ◌+◌, ◌*◌, ◌≤◌, ◌<◌}
use mathlib.Core.Path.{◌≡◌}
use lib.ListN.{get_or}
use Rattle.bitset.specs.Code.Members.{In}
use Rattle.keeping.specs.Code.Tables.{pair_at}
use Rattle.keeping.specs.declared.Tables.{Tables}
use Rattle.sets.specs.Code.Tables.{SameMasks}
use Rattle.sets.proofs.tables.fill_later.Given as goal

-- the masks of the first i members
pub record LaterTo (old new : Tables) (a z i : ℕ) : Type 0 where
  pub after : (k x y e : ℕ) → k < i → a ≤ x → x ≤ y → y ≤ z → In (pair_at old.ends k k y) e → In (get_or new.later (k * 64 + x) 0) e
  pub masks : SameMasks old new
  pub ends : new.ends ≡ old.ends
  pub goes : new.goes ≡ old.goes
  pub bounds : new.bounds ≡ old.bounds

abbrev pub invariant-loop-i : goal.invariant-loop-i
invariant-loop-i l = LaterTo l.initial.tables l.tables l.span.a l.span.z l.i
