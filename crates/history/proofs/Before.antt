-- A start that is put in changes no value up to its own moment. Assumes nothing.
use mathlib.Core.Bool.{false}
use mathlib.Core.List.{List}
use mathlib.Core.Path.{◌≡◌, refl}
use Prim.Native.Nat.{ℕ, zero, suc, ◌+◌, ◌<◌, ◌≤◌}
use native.Mathlib.Omega.{arith}
use borrow.Author.Tests.{le-ltb, ne_eqb}
use Rattle.words.specs.Fields.{start_moment, start_action}
use Rattle.words.specs.Lists.{insert}
use Rattle.words.proofs.Insert.{any-insert, find_or-insert}
use Rattle.job.specs.Parts.{duration}
use Rattle.history.specs.Values.{hides_fluent, gives_fluent, given_value, next_value, value_at}

module _ (job : List ℕ) (w : ℕ) (lasts : 0 < duration job (start_action w)) (starts : List ℕ) where
  unhidden : (t f : ℕ) → t ≤ start_moment w → hides_fluent job t f w ≡ false
  unhidden t f l = rw (le-ltb (start_moment w) t l)

  ungiven : (t f : ℕ) → t ≤ start_moment w → gives_fluent job t f w ≡ false
  ungiven t f l = rw (ne_eqb (start_moment w + duration job (start_action w)) t (λ z. omega arith))

  pub value_before : (t f : ℕ) → t ≤ start_moment w → value_at job (insert w starts) t f ≡ value_at job starts t f
  unfolding value_at next_value
  value_before zero f l = refl
  value_before (suc t) f l =
      rw (
        any-insert (hides_fluent job (suc t) f) w (unhidden (suc t) f l) starts,
        value_before t f (omega arith),
        find_or-insert (gives_fluent job (suc t) f) w (ungiven (suc t) f l) (given_value job f) (value_at job starts t f) starts,
      )
