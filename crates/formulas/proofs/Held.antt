-- Laws of 'has held for': the value is one of the three, takes one value more at a time, and follows from the values up to its moment. Assumes
-- nothing.
use mathlib.Core.List.{List}
use mathlib.Core.Path.{◌≡◌}
use Prim.Native.Nat.{ℕ, zero, suc, ◌-◌, ◌≤◌, ◌<◌}
use native.Mathlib.Omega.{arith}
use lib.Dec.{leb}
use Rattle.words.proofs.Choices.{cond-all}
use Rattle.formulas.specs.Values.{by_table, ago, throughout, held_for}
use Rattle.formulas.specs.Code.Table.{Small}

pub ago-most : (value : ℕ → ℕ) (t : ℕ) → ((u : ℕ) → value u ≤ 2) → (k : ℕ) → ago value t k ≤ 2
ago-most value t most k = cond-all (λ v. v ≤ 2) (leb k t) (most (t - k)) (omega arith)

module _ (conj : List ℕ) (value : ℕ → ℕ) (t : ℕ) where
  -- the next value after those that end k moments before t
  pub throughout-more : (y k : ℕ) {r v next : ℕ} → 0 < k → k ≤ y → r ≡ throughout conj value t k (y - k) → v ≡ ago value t (k - 1)
      → next ≡ by_table conj r v → next ≡ throughout conj value t (k - 1) (y - (k - 1))
  unfolding throughout
  throughout-more y k l m so_far v-is e =
      let one_more : y - (k - 1) ≡ suc (y - k) = omega arith in
      let back : suc (k - 1) ≡ k = omega arith in
      rw (one_more, back, ← so_far, ← v-is) e

  pub held_most : Small conj → ((u : ℕ) → value u ≤ 2) → (y : ℕ) → held_for conj value y t ≤ 2
  unfolding throughout
  held_most s most zero = ago-most value t most 0
  held_most s most (suc y) = s.most _

  -- values that agree up to t
  module _ (value' : ℕ → ℕ) (same : (u : ℕ) → u ≤ t → value u ≡ value' u) where
    throughout-same : (y k : ℕ) → throughout conj value t k y ≡ throughout conj value' t k y
    unfolding throughout
    throughout-same zero k = rw (same (t - k) (omega arith))
    throughout-same (suc y) k = rw (throughout-same y (suc k), same (t - k) (omega arith))

    pub held_same : (y : ℕ) → held_for conj value y t ≡ held_for conj value' y t
    held_same y = throughout-same y 0
