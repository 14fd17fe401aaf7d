-- What the table of predecessors says of each place. Assumes nothing.
use mathlib.Core.Bool.{Bool, true, false, cond, ◌&&◌, ◌||◌, true≢false}
use mathlib.Core.List.{List, [], ◌∷◌}
use mathlib.Core.Logic.{◌⊎◌, inl, inr}
use mathlib.Core.Path.{◌≡◌, refl, sym, ◌∙◌}
use Prim.Native.Nat.{ℕ}
use native.Mathlib.Omega.{arith}
use borrow.Author.Tests.{eqb-true}
use lib.Dec.{eqb}
use Rattle.words.specs.Tests.{implies}
use Rattle.words.specs.Fields.{kind, is_set}
use Rattle.words.proofs.Choices.{both_true, implies_true}
use Rattle.job.specs.Follow.{by_kind, set_node, predecessor, predecessors, may_follow}

-- no kind of a table but m passes
abbrev alone : ℕ → List (ℕ × Bool) → Bool
alone m [] = true
alone m (e ∷ rest) = implies e.1 (eqb e.0 m) && alone m rest

only : (m k : ℕ) (table : List (ℕ × Bool)) → alone m table ≡ true → by_kind false k table ≡ true → k ≡ m
only m k [] a h = absurd (true≢false (sym h))
only m k (e ∷ rest) a h = cases (eqb k e.0) refl h (only m k rest parts.1)
  where
    parts : (implies e.1 (eqb e.0 m) ≡ true) × (alone m rest ≡ true)
    parts = both_true (implies e.1 (eqb e.0 m)) (alone m rest) a

    cases : (t : Bool) → eqb k e.0 ≡ t → cond t e.1 (by_kind false k rest) ≡ true → (by_kind false k rest ≡ true → k ≡ m) → k ≡ m
    cases true q z later = eqb-true k e.0 q ∙ eqb-true e.0 m (implies_true e.1 (eqb e.0 m) parts.0 z)
    cases false q z later = later z

-- a place that one kind alone may follow, by a test that is computed over the table: nothing the head, a task set a member
pub only_after : (m v : ℕ) → alone m (predecessors v) ≡ true → (k : ℕ) → may_follow k v ≡ true → k ≡ m
only_after m v a k h = only m k (predecessors v) a h

-- a member stands after a task set or a member
pub member-after : (w : ℕ) (p : List ℕ) → may_follow 7 (predecessor (w ∷ p)) ≡ true → (is_set w ≡ true) ⊎ (kind w ≡ 7)
unfolding predecessor
member-after w p h = cases (is_set w) refl h
  where
    cases : (s : Bool) → is_set w ≡ s → may_follow 7 (cond s set_node (kind w)) ≡ true → (is_set w ≡ true) ⊎ (kind w ≡ 7)
    cases true e z = inl e
    cases false e z = within (eqb (kind w) 16) (eqb (kind w) 7) refl refl z
      where
        within : (a b : Bool) → eqb (kind w) 16 ≡ a → eqb (kind w) 7 ≡ b → (a || b) ≡ true → (is_set w ≡ true) ⊎ (kind w ≡ 7)
        within true b e f z = absurd (let k = eqb-true (kind w) 16 e in omega arith)
        within false true e f z = inr (eqb-true (kind w) 7 f)
        within false false e f z = absurd (true≢false (sym z))

-- a task set counts as one
pub set_before : (w : ℕ) (p : List ℕ) → is_set w ≡ true → predecessor (w ∷ p) ≡ set_node
unfolding predecessor
set_before w p e = rw e

-- otherwise the kind of the word before counts
pub word_before : (w : ℕ) (p : List ℕ) → (predecessor (w ∷ p) ≡ kind w) ⊎ (predecessor (w ∷ p) ≡ set_node)
unfolding predecessor
word_before w p = cases (is_set w)
  where
    cases : (s : Bool) → (cond s set_node (kind w) ≡ kind w) ⊎ (cond s set_node (kind w) ≡ set_node)
    cases true = inr refl
    cases false = inl refl
