-- Whether some number below n passes a test. Assumes nothing.
use mathlib.Core.Bool.{Bool, true, false, ◌||◌, true≢false, or-true, or-false}
use mathlib.Core.Logic.{◌↔◌}
use mathlib.Core.List.{List, [], ◌∷◌, ◌++◌}
use mathlib.Core.Path.{◌≡◌, refl, ap, sym, ◌∙◌}
use Prim.Native.Nat.{ℕ, zero, suc, ◌+◌, ◌<◌}
use native.Mathlib.Decide.{dec_lt}
use native.Mathlib.Omega.{arith}
use Rattle.std.specs.List.{range_with_len}
use Rattle.std.proofs.lemmas.List.Folds.{list_any-append}
use Rattle.words.specs.Scan.{any, any_below}
use Rattle.words.proofs.Choices.{is_false, same_test}

module _ (test : ℕ → Bool) where
  pub some_none : (n : ℕ) → ((i : ℕ) → i < n → test i ≡ false) → any_below test n ≡ false
  unfolding any_below
  some_none zero h = refl
  some_none (suc n) h = rw (some_none n (λ i l. h i (omega arith)), h n (omega arith))

  pub some_hit : (n i : ℕ) → i < n → test i ≡ true → any_below test n ≡ true
  unfolding any_below
  some_hit zero i l e = absurd (omega arith)
  some_hit (suc n) i l e = cases (dec_lt i n) (λ m. some_hit n i m e)
    where
      cases : Dec (i < n) → (i < n → any_below test n ≡ true) → (any_below test n || test n) ≡ true
      cases (yes m) ih = rw (ih m)
      cases (no m) ih = let same : i ≡ n = omega arith in rw (← same, e) (or-true (any_below test i))

  some_found : (n : ℕ) → any_below test n ≡ true → (i : ℕ) × (i < n) × (test i ≡ true)
  unfolding any_below
  some_found zero e = absurd (true≢false (sym e))
  some_found (suc n) e = cases (any_below test n) (some_found n) e
    where
      cases : (a : Bool) → (a ≡ true → (i : ℕ) × (i < n) × (test i ≡ true)) → (a || test n) ≡ true → (i : ℕ) × (i < suc n) × (test i ≡ true)
      cases true ih e = let (i, l, q) = ih refl in (i, omega arith, q)
      cases false ih e = (n, omega arith, e)

  pub some_law : (n : ℕ) → (any_below test n ≡ true) ↔ ((i : ℕ) × (i < n) × (test i ≡ true))
  some_law n = (some_found n, λ h. some_hit n h.0 h.1 h.2)

  -- none passes where not some does
  pub none_below : (n : ℕ) → any_below test n ≡ false → (i : ℕ) → i < n → test i ≡ false
  none_below n e i l = is_false (test i) (λ q. true≢false (sym (some_hit n i l q) ∙ e))

-- two tests of which each, where it passes somewhere, makes the other pass somewhere
pub some_same : (f g : ℕ → Bool) (n m : ℕ) → ((i : ℕ) → i < n → f i ≡ true → any_below g m ≡ true)
    → ((j : ℕ) → j < m → g j ≡ true → any_below f n ≡ true) → any_below f n ≡ any_below g m
some_same f g n m to from =
    same_test (any_below f n) (any_below g m) (λ e. let (i, l, q) = some_found f n e in to i l q) (λ e. let (j, l, q) = some_found g m e in from j l q)

-- two tests that are the same below n
pub some_cong : (f g : ℕ → Bool) (n : ℕ) → ((i : ℕ) → i < n → f i ≡ g i) → any_below f n ≡ any_below g n
unfolding any_below
some_cong f g zero h = refl
some_cong f g (suc n) h = rw (some_cong f g n (λ i l. h i (omega arith)), h n (omega arith))

-- so does a list of the numbers below n
range-more : (a n : ℕ) → range_with_len a (suc n) ≡ range_with_len a n ++ ((a + n) ∷ [])
range-more a zero = let e : a + 0 ≡ a = omega arith in rw e
range-more a (suc n) = let e : a + suc n ≡ (a + 1) + n = omega arith in rw e (ap (λ (l : List ℕ). a ∷ l) (range-more (a + 1) n))

pub any-range : (test : ℕ → Bool) (n : ℕ) → any test (range_with_len 0 n) ≡ any_below test n
unfolding any_below
any-range test zero = refl
any-range test (suc n) =
    let e : 0 + n ≡ n = omega arith in
    ap (any test) (range-more 0 n) ∙ list_any-append test (range_with_len 0 n) ((0 + n) ∷ []) ∙ rw (any-range test n, e, or-false (test n))
