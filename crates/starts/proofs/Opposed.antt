-- Two actions, and two starts, clash whichever comes first, and no action clashes with itself; when a start clashes with one that does not
-- begin later. Assumes nothing.
use mathlib.Core.Bool.{Bool, true, false, ◌&&◌, ◌||◌, and_comm, or_comm}
use mathlib.Core.List.{List}
use mathlib.Core.Path.{◌≡◌, refl}
use Prim.Native.Nat.{ℕ, ◌+◌, ◌≤◌, ◌<◌}
use native.Mathlib.Omega.{arith}
use borrow.Author.Tests.{eqb-true, ltb-true, ltb-false}
use lib.Dec.{eqb, ltb}
use Rattle.words.specs.Fields.{holds, fails, start_moment, start_action}
use Rattle.words.specs.Scan.{any_below}
use Rattle.words.proofs.Choices.{both_true, is_false}
use Rattle.words.proofs.AnyBelow.{some_hit, some_none, some_cong}
use Rattle.job.specs.Parts.{fluents, last_moment}
use Rattle.history.specs.Actions.{effect, finish, in_hand}
use Rattle.history.proofs.Held.{in_hand-true, true_in_hand}
use Rattle.starts.specs.Rows.{opposed, clash, together, clashing}

module _ (job : List ℕ) where
  pub clash-swap : (a b : ℕ) → clash job a b ≡ clash job b a
  unfolding clash
  clash-swap a b =
      some_cong (opposed job a b) (opposed job b a) (fluents job)
      (λ f l. swap (eqb (effect job a f) holds) (eqb (effect job b f) fails) (eqb (effect job a f) fails) (eqb (effect job b f) holds))
    where
      swap : (p q r s : Bool) → ((p && q) || (r && s)) ≡ ((s && r) || (q && p))
      swap p q r s = rw (and_comm p q, and_comm r s) (or_comm (q && p) (s && r))

  pub clash-self : (a : ℕ) → clash job a a ≡ false
  unfolding clash
  clash-self a =
      some_none (opposed job a a) (fluents job)
      (λ f l. never (eqb (effect job a f) holds) (eqb (effect job a f) fails) (λ p q. omega (arith, eqb-true (effect job a f) 2 p, eqb-true (effect job a f) 0 q)))
    where
      never : (p q : Bool) → (p ≡ true → q ≡ true → ⊥) → ((p && q) || (q && p)) ≡ false
      never true true h = absurd (h refl refl)
      never true false h = refl
      never false true h = refl
      never false false h = refl

  together-swap : (s s' : ℕ) → together job s s' ≡ together job s' s
  unfolding together
  together-swap s s' = some_cong _ _ (last_moment job + 1) (λ t l. and_comm (in_hand job t s) (in_hand job t s'))

  pub clashing-swap : (s s' : ℕ) → clashing job s s' ≡ clashing job s' s
  clashing-swap s s' = rw (together-swap s s', clash-swap (start_action s) (start_action s'))

  -- both are in hand at some moment exactly where the earlier one has not finished when the later one begins
  pub together-later : (s s' : ℕ) → start_moment s ≤ start_moment s' → start_moment s' < finish job s' → start_moment s' ≤ last_moment job
      → together job s s' ≡ ltb (start_moment s') (finish job s)
  unfolding together
  together-later s s' l d m = cases (ltb (start_moment s') (finish job s)) refl
    where
      cases : (t : Bool) → ltb (start_moment s') (finish job s) ≡ t → any_below (λ t. in_hand job t s && in_hand job t s') (last_moment job + 1) ≡ t
      cases true e =
          some_hit (λ t. in_hand job t s && in_hand job t s') (last_moment job + 1) (start_moment s') (omega arith)
          (rw (true_in_hand job (start_moment s') s l (ltb-true _ _ e), true_in_hand job (start_moment s') s' (omega arith) d))
      cases false e = some_none (λ t. in_hand job t s && in_hand job t s') (last_moment job + 1) (λ t k. is_false _ (λ z. apart t e z))
        where
          apart : (t : ℕ) → ltb (start_moment s') (finish job s) ≡ false → (in_hand job t s && in_hand job t s') ≡ true → ⊥
          apart t e z =
              let both = both_true (in_hand job t s) (in_hand job t s') z in
              omega (arith, (in_hand-true job t s both.0).1, (in_hand-true job t s' both.1).0, ltb-false (start_moment s') (finish job s) e)
