-- `sets::conditions::fill_masks` meets its contract. The invariant: the masks for the begins before x are right. Assumes nothing.
use Prim.Native.Nat.{ℕ, ◌+◌, ◌*◌, ◌≤◌, ◌<◌}
use mathlib.Core.Path.{◌≡◌}
use mathlib.Core.Logic.{◌↔◌}
use mathlib.Core.List.{List}
use lib.ListN.{length, get_or}
use Rattle.bitset.specs.Code.Members.{In}
use Rattle.model.specs.Code.Arrays.{value_in}
use Rattle.sets.specs.Set.{MetAt}
use Rattle.sets.proofs.conditions.fill_masks.Given as goal

-- the masks of condition c for the begins before x
pub record MasksTo (values : List ℕ) (w c a z n : ℕ) (old allow : List ℕ) (x : ℕ) : Type 0 where
  pub long : length allow ≡ 512
  pub masks : (u y : ℕ) → a ≤ u → u < x → In (get_or allow (c * 64 + u) 0) y ↔ ((a ≤ y) × (y ≤ z) × MetAt (value_in values) n w y y u)
  pub others : (p : ℕ) → p < c * 64 → get_or allow p 0 ≡ get_or old p 0

abbrev pub invariant-loop-x : goal.invariant-loop-x
invariant-loop-x l = MasksTo l.values l.w l.c l.span.a l.span.z l.span.last l.initial.allow l.allow l.x
