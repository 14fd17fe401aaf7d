-- Lists one after the other: one more, the same ones, how long they are, and the first n of them. Assumes nothing.
use mathlib.Core.List.{List, ◌++◌, append_assoc, append-nil}
use mathlib.Core.Path.{◌≡◌, refl}
use Prim.Native.Nat.{ℕ, zero, suc, ◌+◌, ◌*◌, ◌≤◌, ◌<◌}
use native.Mathlib.Nat.{add-zero, add-suc, suc-mul}
use native.Mathlib.Numerals.{add-one}
use native.Mathlib.Omega.{arith}
use lib.ListN.{length, length-append}
use Rattle.words.specs.Scan.{concat_below}

pub concat-more : (g : ℕ → List ℕ) (n : ℕ) → concat_below g (n + 1) ≡ concat_below g n ++ g n
unfolding concat_below
concat-more g n = rw add-one

pub concat-cong : (g h : ℕ → List ℕ) (n : ℕ) → ((i : ℕ) → i < n → g i ≡ h i) → concat_below g n ≡ concat_below h n
unfolding concat_below
concat-cong g h zero e = refl
concat-cong g h (suc n) e = rw (concat-cong g h n (λ i l. e i (omega arith)), e n (omega arith))

-- k words at most from each
pub concat-most : (g : ℕ → List ℕ) (k n : ℕ) → ((i : ℕ) → length (g i) ≤ k) → length (concat_below g n) ≤ n * k
unfolding concat_below
concat-most g k zero e = omega arith
concat-most g k (suc n) e = rw length-append (omega (arith, concat-most g k n e, e n, suc-mul n k))

pub concat-split : (g : ℕ → List ℕ) (n k : ℕ) → concat_below g (n + k) ≡ concat_below g n ++ concat_below (λ i. g (n + i)) k
unfolding concat_below
concat-split g n zero = rw (add-zero, append-nil)
concat-split g n (suc k) = rw (add-suc n k, concat-split g n k, append_assoc)
