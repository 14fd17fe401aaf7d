-- A table of 64 sets, made of the words of a list one after the other, from its end. Assumes nothing.
use mathlib.Core.Bool.{Bool, false, ◌&&◌, ◌||◌, or_comm}
use mathlib.Core.List.{List}
use mathlib.Core.Path.{◌≡◌, refl, ◌∙◌}
use Prim.Native.Nat.{ℕ, ◌+◌, ◌<◌}
use native.Mathlib.Decide.{ℕ_discrete}
use native.Mathlib.Omega.{arith}
use borrow.Author.Tests.{eq-eqb, ne_eqb}
use lib.Dec.{eqb}
use lib.ListN.{length, get_or, drop, set, replicate, length-set}
use lib.Seq.{get_or-set_same, get_or-set_other}
use Rattle.words.specs.Scan.{any}
use Rattle.words.proofs.Scan.{drop-next, any-end}
use Rattle.bitset.specs.Code.Members.{has, IsSetOf}
use Rattle.bitset.proofs.Digits.{has-zero}
use Rattle.bitset.proofs.In.{empty_entry}

-- set a has the numbers k for which some word passes the test of a and k
pub record SetTable (test : ℕ → ℕ → ℕ → Bool) (ws table : List ℕ) : Type 0 where
  pub size : length table ≡ 64
  pub entry : (a k : ℕ) → has (get_or table a 0) k ≡ any (test a k) ws

module _ (test : ℕ → ℕ → ℕ → Bool) (ws : List ℕ) where
  pub table_none : SetTable test (drop (length ws) ws) (replicate 64 0)
  table_none = record { size = refl; entry = λ a k. rw (empty_entry 64 a, has-zero k, any-end ws (length ws) (test a k) (omega arith)) }

  -- one word more in front: it passes no test, or those of x and the numbers of a set
  module _ (i j : ℕ) {table : List ℕ} (h : SetTable test (drop j ws) table) (next : j ≡ i + 1) (l : i < length ws) where
    pub table-other : ((a k : ℕ) → test a k (get_or ws i 0) ≡ false) → SetTable test (drop i ws) table
    table-other none = record { size = h.size; entry = λ a k. rw (drop-next ws i l, ← next, none a k) (h.entry a k) }

    pub table_more : {x : ℕ} (add sum : ℕ) → x < 64 → ((a k : ℕ) → test a k (get_or ws i 0) ≡ (eqb a x && has add k))
        → IsSetOf sum (λ k. has (get_or table x 0) k || has add k) → SetTable test (drop i ws) (set table x sum)
    table_more {x} add sum small passes joined = record {
      size = length-set table x sum ∙ h.size;
      entry = λ a k. rw (drop-next ws i l, ← next, passes a k, ← (h.entry a k)) (cases a k (ℕ_discrete a x));
    }
      where
        cases : (a k : ℕ) → Dec (a ≡ x) → has (get_or (set table x sum) a 0) k ≡ ((eqb a x && has add k) || has (get_or table a 0) k)
        cases a k (yes e) = rw (e, get_or-set_same table x sum 0 (omega (arith, h.size)), joined k, eq-eqb x x refl) (or_comm (has (get_or table x 0) k) (has add k))
        cases a k (no n) = rw (get_or-set_other table x a sum 0 n, ne_eqb a x n)
