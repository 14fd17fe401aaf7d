-- Whether every number below n passes a test. Assumes nothing.
use mathlib.Core.Bool.{Bool, true, ◌&&◌}
use mathlib.Core.Logic.{◌↔◌, by_cases}
use mathlib.Core.Path.{◌≡◌, refl}
use Prim.Native.Nat.{ℕ, zero, suc, ◌<◌}
use native.Mathlib.Decide.{dec_lt}
use native.Mathlib.Omega.{arith}
use Rattle.words.proofs.Choices.{both_true}

unfoldable pub all_below : (ℕ → Bool) → ℕ → Bool
all_below test zero = true
all_below test (suc n) = test n && all_below test n

pub all_law : (test : ℕ → Bool) (n : ℕ) → (all_below test n ≡ true) ↔ ((i : ℕ) → i < n → test i ≡ true)
unfolding all_below
all_law test zero = (λ e i l. absurd (omega arith), λ h. refl)
all_law test (suc n) = (
  λ e i l. let (here, below) = both_true (test n) (all_below test n) e in
      by_cases (dec_lt i n) ((all_law test n).0 below i) (λ m. let q : i ≡ n = omega arith in rw q here),
  λ h. rw (h n (omega arith)) ((all_law test n).1 (λ i l. h i (omega arith))),
)
