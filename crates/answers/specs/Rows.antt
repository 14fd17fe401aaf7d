-- Refusals by number and position, and rows of a table one after the other. Number 0 is no refusal.
use Rattle.std.specs.Prelude.{Bool, cond, List, [], ◌∷◌, ℕ, zero, suc, eqb}
use Rattle.answers.specs.declared.Refusal.{Refusal}

abbrev pub refusal : ℕ → ℕ → Refusal
refusal number position = record { number = number; position = position }

abbrev pub passed : Refusal
passed = refusal 0 0

-- a row of the table: its number at a position, if its test fits
abbrev pub row : Bool → ℕ → ℕ → Refusal
row fits number position = cond fits (refusal number position) passed

-- the first of two rows that fits
abbrev pub first_refusal : Refusal → Refusal → Refusal
first_refusal a b = cond (eqb a.number 0) b a

-- the first of some rows that fits
abbrev pub first_row : List Refusal → Refusal
first_row [] = passed
first_row (r ∷ []) = r
first_row (r ∷ s ∷ rs) = first_refusal r (first_row (s ∷ rs))

-- a number at a position, where it is one
abbrev pub refusal_at : ℕ → ℕ → Refusal
refusal_at position number = cond (eqb number 0) passed (refusal number position)

-- the number of the first place below n that has one
unfoldable pub first_of : (ℕ → ℕ) → ℕ → Refusal
first_of f zero = passed
first_of f (suc i) = first_refusal (first_of f i) (refusal_at i (f i))
