-- `SomeBelow` over one number more, and what a loop gains. Assumes nothing.
use Prim.Native.Nat.{ℕ, ◌+◌, ◌<◌}
use mathlib.Core.Path.{◌≡◌, subst}
use mathlib.Core.Logic.{◌↔◌, ◌⊎◌, inl, inr, by_cases, ⊎_elim}
use native.Mathlib.Decide.{dec_lt}
use native.Mathlib.Omega.{arith}
use Rattle.covering.specs.Code.Cover.{SomeBelow}

pub some_none : {P : ℕ → Type 0} → SomeBelow 0 P → ⊥
some_none s = let l = s.below in omega arith

pub some_more : {P : ℕ → Type 0} (k : ℕ) → SomeBelow (k + 1) P ↔ (SomeBelow k P ⊎ P k)
some_more {P} k = (
  λ s. by_cases (dec_lt s.at k) (λ l. inl (record { at = s.at; below = l; is = s.is })) (λ l. inr (subst P (last s l) s.is)),
  ⊎_elim (λ s. let l = s.below in record { at = s.at; below = omega arith; is = s.is }) (λ p. record { at = k; below = omega arith; is = p }),
)
  where
    last : (s : SomeBelow (k + 1) P) → (s.at < k → ⊥) → s.at ≡ k
    last s l = let u = s.below in omega arith

-- the gain in other words
pub gain_as : {A B C D : Type 0} → C ↔ D → A ↔ (B ⊎ C) → A ↔ (B ⊎ D)
gain_as c h = (λ t. ⊎_elim inl (λ p. inr (c.0 p)) (h.0 t), ⊎_elim (λ p. h.1 (inl p)) (λ q. h.1 (inr (c.1 q))))

pub no_gain : {B C : Type 0} → (C → ⊥) → B ↔ (B ⊎ C)
no_gain n = (inl, ⊎_elim (λ b. b) (λ c. absurd (n c)))

-- a gain that stands under a test
pub gain_yes : {A B C D : Type 0} → D → A ↔ (B ⊎ C) → A ↔ (B ⊎ (D × C))
gain_yes d = gain_as (λ c. (d, c), λ c. c.1)

pub gain_no : {B C D : Type 0} → (D → ⊥) → B ↔ (B ⊎ (D × C))
gain_no n = no_gain (λ c. n c.0)
