-- Between functions: a word as a set of numbers: k is a member where the word's binary digit k is 1. A u64 has members below 64 alone.
use Rattle.std.specs.Prelude.{◌≡◌, Bool, true, false, not, ◌&&◌, ℕ, zero, suc, ◌+◌, ◌/◌, ◌%◌, ◌^◌, ◌≤◌, ◌<◌, max, Option, Some, None, List, length, get_or, eqb}
use Rattle.words.specs.Tests.{indicator}

-- k is a member of x
unfoldable pub has : ℕ → ℕ → Bool
has x k = eqb (x / 2 ^ k % 2) 1

-- x is the set of the numbers that pass the test p
abbrev pub IsSetOf : ℕ → (ℕ → Bool) → Type 0
IsSetOf x p = (k : ℕ) → has x k ≡ p k

-- how many k below n pass the test p
unfoldable pub count_below : (ℕ → Bool) → ℕ → ℕ
count_below p zero = zero
count_below p (suc n) = count_below p n + indicator (p n)

-- how many members a u64 has
abbrev pub pop_count : ℕ → ℕ
pop_count x = count_below (has x) 64

-- m is the lowest member of x
pub record Lowest (x m : ℕ) : Type 0 where
  pub below : m < 64
  pub member : has x m ≡ true
  pub first : (k : ℕ) → k < m → has x k ≡ false

-- r has the members of x but the lowest, and so one fewer
pub record Dropped (x r : ℕ) : Type 0 where
  pub rest : (m : ℕ) → Lowest x m → IsSetOf r (λ k. has x k && not (eqb k m))
  pub fewer : pop_count r + 1 ≡ pop_count x

-- a walk of the members of x, the lowest first, gives r and leaves y
abbrev pub GivesLowest : ℕ → Option ℕ → ℕ → Type 0
GivesLowest x (Some m) y = Lowest x m × Dropped x y
GivesLowest x None y = (x ≡ 0) × (y ≡ 0)

-- m is the highest member of x that is at most e
pub record Highest (x e m : ℕ) : Type 0 where
  pub upto : m ≤ e
  pub member : has x m ≡ true
  pub last : (k : ℕ) → m < k → k ≤ e → has x k ≡ false

-- there is such an m, or no member that is at most e
abbrev pub HighestUpto : ℕ → ℕ → Option ℕ → Type 0
HighestUpto x e (Some m) = Highest x e m
HighestUpto x e None = (k : ℕ) → k ≤ e → has x k ≡ false

-- k is max i j for a member i of a and a member j of b
pub record Max (a b k : ℕ) : Type 0 where
  pub i : ℕ
  pub j : ℕ
  pub in_a : has a i ≡ true
  pub in_b : has b j ≡ true
  pub is_max : k ≡ max i j

-- k is a member of the row of some member m of x, the rows being those from base on
pub record InSomeRow (x : ℕ) (rows : List ℕ) (base k : ℕ) : Type 0 where
  pub m : ℕ
  pub in_x : has x m ≡ true
  pub in_row : has (get_or rows (base + m) 0) k ≡ true

-- f 0 + .. + f (n - 1)
unfoldable pub sum_below : (ℕ → ℕ) → ℕ → ℕ
sum_below f zero = zero
sum_below f (suc n) = sum_below f n + f n

-- how many pairs (i, e) there are with e a member, below 64, of row i
unfoldable pub pairs : List ℕ → ℕ
unfolding sum_below
pairs rows = sum_below (λ i. pop_count (get_or rows i 0)) (length rows)

-- membership as a record: antt then reads the set and the number off a statement
pub record In (x e : ℕ) : Type 0 where
  pub yes : has x e ≡ true

-- some member of x is at most k, which a word may have
pub record FromSome (x k : ℕ) : Type 0 where
  pub member : ℕ
  pub in_x : In x member
  pub from : member ≤ k
  pub below : k < 64

-- some member of x is at least k
pub record UptoSome (x k : ℕ) : Type 0 where
  pub member : ℕ
  pub in_x : In x member
  pub upto : k ≤ member
