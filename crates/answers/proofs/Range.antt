-- Refusals whose number and position are bounded fit the fields of an answer. Assumes nothing.
use mathlib.Core.Bool.{Bool}
use mathlib.Core.Path.{◌≡◌}
use Prim.Native.Nat.{ℕ, zero, suc, ◌^◌, ◌≤◌, ◌<◌}
use native.Mathlib.Omega.{arith}
use borrow.Author.Tests.{eqb-true}
use lib.Dec.{eqb}
use Rattle.words.proofs.Choices.{cond-when, cond-all}
use Rattle.answers.specs.declared.Refusal.{Refusal}
use Rattle.answers.specs.Rows.{refusal, passed, row, first_refusal, refusal_at, first_of}
use Rattle.answers.specs.Packed.{answer_of}
use Rattle.answers.specs.Code.Packed.{InRange}

-- the two fields that a refusal has
pub record Fitting (r : Refusal) : Type 0 where
  pub number : r.number < 2 ^ 8
  pub position : r.position < 2 ^ 16

pub refusal-fits : {n p : ℕ} → n < 2 ^ 8 → p < 2 ^ 16 → Fitting (refusal n p)
refusal-fits h l = record { number = h; position = l }

pub passed-fits : Fitting passed
passed-fits = record { number = omega arith; position = omega arith }

-- a second row has to fit only where it is reached
pub next_fits : (a b : Refusal) → Fitting a → (a.number ≡ 0 → Fitting b) → Fitting (first_refusal a b)
next_fits a b h l = cond-when Fitting (eqb a.number 0) (λ e. l (eqb-true a.number 0 e)) (λ e. h)

pub or_fits : (a b : Refusal) → Fitting a → Fitting b → Fitting (first_refusal a b)
or_fits a b h l = next_fits a b h (λ e. l)

pub row_fits : (t : Bool) (n p : ℕ) → n < 2 ^ 8 → p < 2 ^ 16 → Fitting (row t n p)
row_fits t n p h l = cond-all Fitting t (refusal-fits h l) passed-fits

pub at-fits : {n p : ℕ} → n < 2 ^ 8 → p < 2 ^ 16 → Fitting (refusal_at p n)
at-fits {n} h l = cond-all Fitting (eqb n 0) passed-fits (refusal-fits h l)

-- what holds of no refusal, and of one at each place below n, holds of the first
pub first_all : (P : Refusal → Type 0) (f : ℕ → ℕ) (n : ℕ) → P passed → ((i : ℕ) → i < n → P (refusal (f i) i)) → P (first_of f n)
unfolding first_of
first_all P f zero p h = p
first_all P f (suc n) p h =
    cond-all P (eqb (first_of f n).number 0) (cond-all P (eqb (f n) 0) p (h n (omega arith))) (first_all P f n p (λ i l. h i (omega arith)))

pub first_fits : (f : ℕ → ℕ) → ((i : ℕ) → f i < 2 ^ 8) → (n : ℕ) → n ≤ 2 ^ 16 → Fitting (first_of f n)
first_fits f h n l = first_all Fitting f n passed-fits (λ i m. refusal-fits (h i) (omega arith))

-- an answer of such rows is in range, where its length and count are; they are asked for only where it is accepted
pub answer_fits : (r : Refusal) (l c : ℕ) → Fitting r → (r.number ≡ 0 → (l < 2 ^ 16) × (c < 2 ^ 24)) → InRange (answer_of r l c)
answer_fits r l c h m =
    cond-when InRange (eqb r.number 0)
    (λ e. let b = m (eqb-true r.number 0 e) in record { number = omega arith; position = omega arith; length = b.0; count = b.1 })
    (λ e. record { number = h.number; position = h.position; length = omega arith; count = omega arith })
