-- Sums over the numbers below n. Assumes nothing.
use mathlib.Core.Path.{◌≡◌, refl, ap₂}
use Prim.Native.Nat.{ℕ, zero, suc, ◌+◌, ◌*◌, ◌≤◌, ◌<◌, zero-le}
use native.Mathlib.Omega.{arith}
use Rattle.bitset.specs.Code.Members.{sum_below}

-- of equal terms
pub sum-cong : {f g : ℕ → ℕ} (n : ℕ) → ((i : ℕ) → i < n → f i ≡ g i) → sum_below f n ≡ sum_below g n
unfolding sum_below
sum-cong zero h = refl
sum-cong (suc n) h = ap₂ ◌+◌ (sum-cong n (λ i l. h i (omega arith))) (h n (omega arith))

-- of terms that are at most m
pub sum-le : {f : ℕ → ℕ} (n m : ℕ) → ((i : ℕ) → i < n → f i ≤ m) → sum_below f n ≤ n * m
unfolding sum_below
sum-le zero m h = zero-le
sum-le (suc n) m h = let a = sum-le n m (λ i l. h i (omega arith)) in let b = h n (omega arith) in omega arith

-- the first term apart
pub sum-front : (f : ℕ → ℕ) (n : ℕ) → sum_below f (suc n) ≡ f 0 + sum_below (λ i. f (suc i)) n
unfolding sum_below
sum-front f zero = omega arith
sum-front f (suc n) = omega (arith, sum-front f n)
