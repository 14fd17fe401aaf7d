-- The refusal of any starts, of any length, fits the fields of an answer: row 6 fits one of the first 4,097 words, or there are 4,096 at
-- most. Assumes nothing.
use mathlib.Core.Bool.{Bool}
use mathlib.Core.List.{List, [], ◌∷◌}
use mathlib.Core.Path.{◌≡◌}
use Prim.Native.Nat.{ℕ, zero, suc, ◌^◌, ◌≤◌, ◌<◌}
use native.Mathlib.Omega.{arith}
use lib.Dec.{eqb}
use lib.ListN.{length, get_or, drop}
use Rattle.words.proofs.Choices.{cond-all}
use Rattle.answers.specs.Rows.{refusal, passed, refusal_at, first_of}
use Rattle.answers.specs.declared.Refusal.{Refusal}
use Rattle.answers.proofs.Range.{Fitting, refusal-fits, passed-fits, next_fits, at-fits, first_all}
use Rattle.starts.specs.Rows.{wrong_word, start_rows, numbered, rows_refusal, starts_refusal}
use Rattle.starts.proofs.Rows.{row-clear}
use Rattle.starts.proofs.StartsFormed.{few_words}

numbered-low : (number : ℕ) (test : ℕ → Bool) → number < 2 ^ 8 → (i : ℕ) → numbered number test i < 2 ^ 8
numbered-low number test h i = cond-all (λ n. n < 2 ^ 8) (test i) h (omega arith)

-- rows with numbers of the document
abbrev Low : List (ℕ × (ℕ → Bool)) → Type 0
Low [] = Unit {0}
Low (row ∷ rest) = (row.0 < 2 ^ 8) × Low rest

-- what holds of no refusal, and of such a number at each place below n, holds of their refusal
rows_all : (P : Refusal → Type 0) (n : ℕ) → P passed → ((number i : ℕ) → number < 2 ^ 8 → i < n → P (refusal number i))
    → (rows : List (ℕ × (ℕ → Bool))) → Low rows → P (rows_refusal rows n)
unfolding rows_refusal
rows_all P n p at [] h = p
rows_all P n p at (row ∷ rest) h =
    cond-all P (eqb (first_of (numbered row.0 row.1) n).number 0) (rows_all P n p at rest h.1)
    (first_all P (numbered row.0 row.1) n p (λ i l. at _ i (numbered-low row.0 row.1 h.0 i) l))

-- the number fits, however long the list
pub starts_number : (job starts : List ℕ) → (starts_refusal job starts).number < 2 ^ 8
unfolding starts_refusal
starts_number job starts =
    rows_all (λ r. r.number < 2 ^ 8) (length starts) (omega arith) (λ number i h l. h) (start_rows job starts)
    (omega arith, (omega arith, (omega arith, (omega arith, (omega arith, (omega arith, (omega arith, tt)))))))

module _ (job starts : List ℕ) (words : (i : ℕ) → get_or starts i 0 < 2 ^ 32) where
  few : (n : ℕ) → (first_of (numbered 6 (wrong_word job starts)) n).number ≡ 0 → n ≤ 4096
  few n e = few_words job starts words n (row-clear 6 (wrong_word job starts) n (omega arith) e)

  first_row-fits : (n : ℕ) → Fitting (first_of (numbered 6 (wrong_word job starts)) n)
  unfolding first_of
  first_row-fits zero = passed-fits
  first_row-fits (suc n) =
      let f = numbered 6 (wrong_word job starts) in
      next_fits (first_of f n) (refusal_at n (f n)) (first_row-fits n)
      (λ e. at-fits (numbered-low 6 (wrong_word job starts) (omega arith) n) (omega (arith, few n e)))

  pub starts_fit : Fitting (starts_refusal job starts)
  unfolding starts_refusal rows_refusal
  starts_fit =
      next_fits (first_of (numbered 6 (wrong_word job starts)) (length starts)) (rows_refusal (drop 1 (start_rows job starts)) (length starts)) (first_row-fits (length starts))
      (λ e.
      let l = few (length starts) e in
      rows_all Fitting (length starts) passed-fits (λ number i h m. refusal-fits h (omega arith)) (drop 1 (start_rows job starts))
      (omega arith, (omega arith, (omega arith, (omega arith, (omega arith, (omega arith, tt)))))))
