-- `sets::tables::fill_later_row` meets its contract. The invariant: `all` and the masks after x have the ends begun from there on. Assumes
-- nothing.
use Prim.Native.Nat.{ℕ, ◌+◌, ◌*◌, ◌≤◌, ◌<◌}
use mathlib.Core.Path.{◌≡◌}
use mathlib.Core.List.{List}
use lib.ListN.{length, get_or}
use Rattle.bitset.specs.Code.Members.{In}
use Rattle.keeping.specs.Code.Tables.{pair_at}
use Rattle.sets.proofs.tables.fill_later_row.Given as goal

-- `all` and the masks after x have the ends begun from there on
pub record Later (ends : List ℕ) (i z : ℕ) (old later : List ℕ) (all x : ℕ) : Type 0 where
  pub long : length later ≡ 256
  pub reached : (y e : ℕ) → x < y → y ≤ z → In (pair_at ends i i y) e → In all e
  pub masks : (v y e : ℕ) → x < v → v ≤ y → y ≤ z → In (pair_at ends i i y) e → In (get_or later (i * 64 + v) 0) e
  pub others : (p : ℕ) → p < i * 64 → get_or later p 0 ≡ get_or old p 0

abbrev pub invariant-loop-x : goal.invariant-loop-x
invariant-loop-x l = Later l.ends l.i l.fn.span.z l.initial.later l.later l.all l.x
