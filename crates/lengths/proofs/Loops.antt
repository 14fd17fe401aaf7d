-- Which nodes a loop is above: where each node is named once, a child is below a loop just where its parent is one or is below one.
-- Assumes nothing.
use mathlib.Core.Path.{◌≡◌, refl, sym, ap, ap₂, ◌∙◌}
use mathlib.Core.Bool.{Bool, false, ◌&&◌, ◌||◌, or-false}
use mathlib.Core.Logic.{by_cases}
use Prim.Native.Nat.{ℕ, zero, suc, ◌+◌, ◌≤◌, ◌<◌}
use native.Mathlib.Decide.{ℕ_discrete, dec_lt}
use native.Mathlib.Omega.{arith}
use borrow.Author.Tests.{lt-ltb, le-ltb}
use Rattle.model.specs.Procedure.{Procedure}
use Rattle.model.specs.Forms.{form_at}
use Rattle.model.specs.Code.Forms.{children, NamedOnce}
use Rattle.lengths.specs.Code.Bound.{is_while, is_child, loop_within, loop_above}
use Rattle.words.specs.Scan.{any_below, count}
use Rattle.words.proofs.AnyBelow.{some_none, some_cong}
use Rattle.lengths.proofs.Sums.{below_times, sum-two}
use Rattle.lengths.proofs.Tree.{Lower}

-- ---- tests of the numbers below n

-- where one number alone may pass, it decides
any_below-one : {f : ℕ → Bool} (n i : ℕ) → i < n → ((j : ℕ) → j < n → (j ≡ i → ⊥) → f j ≡ false) → any_below f n ≡ f i
unfolding any_below
any_below-one zero i l h = absurd (omega arith)
any_below-one {f} (suc n) i l h =
    by_cases (ℕ_discrete n i)
    (λ e. ap₂ ◌||◌ (some_none f n (λ j k. h j (omega arith) (λ d. omega arith))) (ap f e))
    (λ ne. ap₂ ◌||◌ (any_below-one n i (omega arith) (λ j k. h j (omega arith))) (h n (omega arith) ne) ∙ or-false (f i))

-- ---- loops above a node

module _ {P : Procedure} (low : Lower P) where
  -- a node names lower nodes alone
  unnamed : (p q : ℕ) → p < P.count → p ≤ q → is_child P p q ≡ false
  unnamed p q l h =
      by_cases (dec_lt 0 (count q (children P p)))
      (λ g. let k = below_times q (children P p) (low.at p l) g in absurd (omega arith))
      (λ g. le-ltb 0 (count q (children P p)) (omega arith))

  -- more steps than there are nodes above q lead to no more
  steady : (k q : ℕ) → P.count ≤ q + k → loop_within P (suc k) q ≡ loop_within P k q
  unfolding loop_within
  steady zero q h = some_none _ P.count (λ p l. ap (λ (t : Bool). t && (is_while (form_at P p) || false)) (unnamed p q l (omega arith)))
  steady (suc k) q h =
      some_cong _ _ P.count (λ p l. by_cases (dec_lt q p)
      (λ g. ap (λ (t : Bool). is_child P p q && (is_while (form_at P p) || t)) (steady k p (omega arith)))
      (λ g. let none = unnamed p q l (omega arith) in rw none refl))

  -- no loop is above the root
  pub root_free : (r : ℕ) → suc r ≡ P.count → loop_above P r ≡ false
  unfolding loop_within
  root_free r e = sym (steady P.count r (omega arith)) ∙ some_none _ P.count (λ p l. rw (unnamed p r l (omega arith)) refl)

  -- node p is the one parent of q
  sole : NamedOnce P → (p q : ℕ) → p < P.count → 0 < count q (children P p) → (j : ℕ) → j < P.count → (j ≡ p → ⊥) → is_child P j q ≡ false
  sole once p q l h j k ne =
      let low-q = below_times q (children P p) (low.at p l) h in
      let all = once q (omega arith) in
      by_cases (dec_lt 0 (count q (children P j)))
      (λ g. by_cases (dec_lt j p)
      (λ a. let two = sum-two (λ i. count q (children P i)) P.count j p a l in absurd (omega arith))
      (λ a. let two = sum-two (λ i. count q (children P i)) P.count p j (omega arith) k in absurd (omega arith)))
      (λ g. le-ltb 0 (count q (children P j)) (omega arith))

  pub child_above : NamedOnce P → (p q : ℕ) → p < P.count → 0 < count q (children P p)
      → loop_above P q ≡ (is_while (form_at P p) || loop_above P p)
  unfolding loop_within
  child_above once p q l h =
      sym (steady P.count q (omega arith))
      ∙ any_below-one P.count p l (λ j k ne. rw (sole once p q l h j k ne) refl)
      ∙ ap (λ (t : Bool). t && (is_while (form_at P p) || loop_above P p)) (lt-ltb 0 (count q (children P p)) h)
