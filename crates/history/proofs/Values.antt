-- The values of fluents, and those that actions make, are at most 2. Assumes nothing.
use mathlib.Core.Bool.{Bool}
use mathlib.Core.List.{List, [], ◌∷◌}
use Prim.Native.Nat.{ℕ, zero, suc, ◌≤◌}
use native.Mathlib.Omega.{arith}
use lib.Dec.{eqb}
use Rattle.words.specs.Fields.{unknown, role_of, known_value}
use Rattle.words.proofs.Wide.{known_most}
use Rattle.words.specs.Scan.{any, find_or}
use Rattle.words.proofs.Choices.{cond-all}
use Rattle.job.specs.Parts.{head_word}
use Rattle.history.specs.Actions.{effect, makes_fluent, law_value}
use Rattle.history.specs.Values.{lists, initially, hides_fluent, gives_fluent, given_value, next_value, value_at}

gives_most : (test : ℕ → Bool) (gives : ℕ → ℕ) (other : ℕ) {m : ℕ} → ((w : ℕ) → gives w ≤ m) → other ≤ m → (ws : List ℕ) → find_or test gives other ws ≤ m
unfolding find_or
gives_most test gives other g o [] = o
gives_most test gives other {m} g o (w ∷ ws) = cond-all (λ v. v ≤ m) (test w) (g w) (gives_most test gives other g o ws)

module _ (job : List ℕ) where
  pub effect-most : (a f : ℕ) → effect job a f ≤ 2
  unfolding effect
  effect-most a f =
      gives_most (makes_fluent (head_word job) f) (law_value (head_word job)) unknown
      (λ w. cond-all (λ v. v ≤ 2) (eqb (role_of (head_word job) w) 2) (omega arith) (omega arith)) (omega arith) _

  pub initial_most : (f : ℕ) → initially job f ≤ 2
  unfolding initially
  initial_most f =
      gives_most (lists (head_word job) f) (known_value (head_word job)) unknown
      (known_most (head_word job)) (omega arith) job

  pub value_most : (starts : List ℕ) (t f : ℕ) → value_at job starts t f ≤ 2
  unfolding value_at next_value
  value_most starts zero f = initial_most f
  value_most starts (suc t) f =
      cond-all (λ v. v ≤ 2) (any (hides_fluent job (suc t) f) starts) (omega arith)
      (gives_most (gives_fluent job (suc t) f) (given_value job f) _ (λ s. effect-most _ f) (value_most starts t f) starts)
