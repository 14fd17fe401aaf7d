-- What a node and all nodes below it weigh, by any weights w; where each node is named once, that is at most the sum over the nodes up to it,
-- and at the root the sum over all nodes.
-- Assumes nothing.
use mathlib.Core.Path.{◌≡◌, sym, ap, ap₂, ◌∙◌}
use Prim.Native.Nat.{ℕ, zero, suc, ◌+◌, ◌*◌, ◌≤◌, ◌<◌}
use native.Mathlib.Nat.{le_refl, le_trans, le_of_eq, one-mul, zero-mul, add-mul, mul-le-mul_right}
use native.Mathlib.Omega.{arith}
use Rattle.bitset.specs.Code.Members.{sum_below}
use Rattle.model.specs.Procedure.{Procedure}
use Rattle.words.specs.Scan.{count}
use Rattle.model.specs.Code.Forms.{children, Below, NamedOnce}
use Rattle.model.proofs.Forms.{below_le}
use Rattle.bitset.proofs.Sums.{sum-cong}
use Rattle.lengths.proofs.Sums.{total, below_times, sum_both, sum-zero, sum-each, sum_more, total-cong, total-times}

-- children have lower numbers
pub record Lower (P : Procedure) : Type 0 where
  pub at : (p : ℕ) → p < P.count → Below p (children P p)

-- as far as k steps lead
tree : Procedure → (ℕ → ℕ) → ℕ → ℕ → ℕ
tree P w zero p = 0
tree P w (suc k) p = w p + total (tree P w k) (children P p)

pub branch : Procedure → (ℕ → ℕ) → ℕ → ℕ
branch P w p = tree P w P.count p

module _ {P : Procedure} (lower : Lower P) where
  module _ (w : ℕ → ℕ) where
    -- more steps than p lead to no more
    steady : (k p : ℕ) → p < k → p < P.count → tree P w (suc k) p ≡ tree P w k p
    unfolding tree
    steady zero p h n = absurd (omega arith)
    steady (suc k) p h n =
        ap (λ (s : ℕ). w p + s) (total-cong (children P p) (λ q i. let l = below_times q (children P p) (lower.at p n) i in steady k q (omega arith) (omega arith)))

    pub branch_is : (p : ℕ) → p < P.count → branch P w p ≡ w p + total (branch P w) (children P p)
    unfolding branch tree
    branch_is p h = sym (steady P.count p h h)

    -- a sum over the children of the nodes below n: each node counts as often as these name it
    named-sum : (f : ℕ → ℕ) (r n : ℕ) → n ≤ suc r → n ≤ P.count
        → sum_below (λ p. total f (children P p)) n ≡ sum_below (λ q. sum_below (λ p. count q (children P p)) n * f q) r
    unfolding sum_below
    named-sum f r zero h l = sym (sum-zero r (λ q k. zero-mul (f q)))
    named-sum f r (suc n) h l =
        ap₂ ◌+◌ (named-sum f r n (omega arith) (omega arith)) (total-times f r (children P n) (below_le (children P n) (omega arith) (lower.at n l)))
        ∙ sym (sum_both (λ q. sum_below (λ p. count q (children P p)) n * f q) (λ q. count q (children P n) * f q) r (λ q k. add-mul (sum_below (λ p. count q (children P p)) n) (count q (children P n)) (f q)))

    -- the nodes up to p have at most those below p for children, each once
    pub branch_le : (p : ℕ) → p < P.count → NamedOnce P → branch P w p ≤ sum_below w (suc p)
    unfolding sum_below
    branch_le p h once =
        let all : sum_below (branch P w) (suc p) ≡ sum_below w (suc p) + sum_below (λ q. total (branch P w) (children P q)) (suc p)
        = sum_both w (λ q. total (branch P w) (children P q)) (suc p) (λ q l. branch_is q (omega arith)) in
        let named : sum_below (λ q. total (branch P w) (children P q)) (suc p) ≤ sum_below (branch P w) p
        = le_trans (le_of_eq (named-sum (branch P w) p (suc p) (le_refl (suc p)) h)) (sum-each p (λ q l. at_most q l)) in
        omega arith
      where
        at_most : (q : ℕ) → q < p → sum_below (λ i. count q (children P i)) (suc p) * branch P w q ≤ branch P w q
        at_most q l =
            let one : sum_below (λ i. count q (children P i)) (suc p) ≤ 1 = omega (arith, sum_more (λ i. count q (children P i)) (suc p) P.count h, once q (omega arith)) in
            le_trans (mul-le-mul_right (branch P w q) one) (le_of_eq (one-mul (branch P w q)))

    pub root_is : (r : ℕ) → suc r ≡ P.count → NamedOnce P → branch P w r ≡ sum_below w P.count
    unfolding sum_below
    root_is r e once =
        let all : sum_below (branch P w) (suc r) ≡ sum_below w (suc r) + sum_below (λ p. total (branch P w) (children P p)) (suc r)
        = sum_both w (λ p. total (branch P w) (children P p)) (suc r) (λ p l. branch_is p (omega arith)) in
        let named : sum_below (λ p. total (branch P w) (children P p)) (suc r) ≡ sum_below (branch P w) r
        = named-sum (branch P w) r (suc r) (le_refl (suc r)) (le_of_eq e)
        ∙ sum-cong r (λ q l. ap (λ (k : ℕ). k * branch P w q) (ap (λ (c : ℕ). sum_below (λ p. count q (children P p)) c) e ∙ once q (omega arith)) ∙ one-mul (branch P w q)) in
        let whole : sum_below w (suc r) ≡ sum_below w P.count = ap (sum_below w) e in
        omega arith
