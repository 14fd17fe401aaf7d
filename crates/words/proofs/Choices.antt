-- What tests put together say. Assumes nothing.
use mathlib.Core.Bool.{Bool, true, false, cond, ◌&&◌, true≢false}
use mathlib.Core.Logic.{by_cases}
use mathlib.Core.Path.{◌≡◌, refl, sym, ◌∙◌}
use Prim.Native.Nat.{ℕ, ◌≤◌, ◌<◌}
use native.Mathlib.Decide.{ℕ_discrete, dec_lt}
use native.Mathlib.Omega.{arith}
use borrow.Author.Tests.{leb-true, le-leb, ne_eqb}
use lib.Dec.{eqb, leb}
use Rattle.words.specs.Tests.{implies, indicator, within}

pub is_false : (b : Bool) → (b ≡ true → ⊥) → b ≡ false
is_false true h = absurd (h refl)
is_false false h = refl

pub both_true : (a b : Bool) → (a && b) ≡ true → (a ≡ true) × (b ≡ true)
both_true true b e = (refl, e)
both_true false b e = absurd (true≢false (sym e))

pub implies_true : (a b : Bool) → implies a b ≡ true → a ≡ true → b ≡ true
implies_true true b h e = h
implies_true false b h e = absurd (true≢false (sym e))

-- what holds of each of two values where it is taken holds of the one taken
pub cond-when : {A : Type 0} (P : A → Type 0) (t : Bool) {a b : A} → (t ≡ true → P a) → (t ≡ false → P b) → P (cond t a b)
cond-when P true p q = p refl
cond-when P false p q = q refl

pub cond-all : {A : Type 0} (P : A → Type 0) (t : Bool) {a b : A} → P a → P b → P (cond t a b)
cond-all P t p q = cond-when P t (λ e. p) (λ e. q)

-- two choices by one test are equal if what is taken is equal in either case
pub cond_same : {A : Type 0} (t : Bool) {a a' b b' : A} → (t ≡ true → a ≡ a') → (t ≡ false → b ≡ b') → cond t a b ≡ cond t a' b'
cond_same true p q = p refl
cond_same false p q = q refl

pub indicator-le : (t : Bool) → indicator t ≤ 1
indicator-le true = omega arith
indicator-le false = omega arith

module _ (low high n : ℕ) where
  pub within-true : within low high n ≡ true → (low ≤ n) × (n ≤ high)
  within-true e = let b = both_true (leb low n) (leb n high) e in (leb-true low n b.0, leb-true n high b.1)

  pub true_within : low ≤ n → n ≤ high → within low high n ≡ true
  true_within l h = rw (le-leb low n l, le-leb n high h)

-- a test that fails above n
pub true_upto : (n m : ℕ) (t : Bool) → (n < m → t ≡ false) → t ≡ true → m ≤ n
true_upto n m t h e = by_cases (dec_lt n m) (λ l. absurd (true≢false (sym e ∙ h l))) (λ l. omega arith)

-- two tests that imply each other
pub same_test : (a b : Bool) → (a ≡ true → b ≡ true) → (b ≡ true → a ≡ true) → a ≡ b
same_test true b f g = sym (f refl)
same_test false false f g = refl
same_test false true f g = g refl

pub eqb_swap : (a b : ℕ) → eqb a b ≡ eqb b a
eqb_swap a b = by_cases (ℕ_discrete a b) (λ e. rw e) (λ n. rw (ne_eqb a b n, ne_eqb b a (λ z. n (sym z))))
