-- Rows on the words of a list: one word after the other, and one row after the other. Assumes nothing.
use mathlib.Core.Bool.{Bool, true, false, cond, ◌&&◌}
use mathlib.Core.List.{List, [], ◌∷◌}
use mathlib.Core.Path.{◌≡◌, refl, ap, sym, ◌∙◌}
use Prim.Native.Nat.{ℕ, zero, suc, ◌+◌, ◌≤◌, ◌<◌}
use native.Mathlib.Omega.{arith}
use borrow.Author.Tests.{ltb-true}
use Rattle.std.specs.Prelude.{⊤, Result, Ok, Err, position}
use lib.Dec.{eqb, ltb}
use lib.ListN.{length, get_or, take, drop}
use Rattle.words.proofs.Choices.{both_true}
use Rattle.answers.specs.declared.Refusal.{Refusal}
use Rattle.answers.specs.Rows.{refusal, passed, first_refusal, refusal_at, first_of}
use Rattle.answers.proofs.Rows.{or_none, or_refused, or_passed, or_assoc, first_start, first_more, first_found, first_none, ruled-refused, ok-passed, err-refused, position-first}
use Rattle.starts.specs.Rows.{outside_windows, group_exceeded, needs_unmet, start_rows, numbered, rows_refusal, starts_refusal}
use Rattle.starts.specs.Code.Given.{time_rows}
use Rattle.answers.specs.Code.Ruled.{refused_at, ruled}

-- a row's loop at word i of n: it fits none of the words before
pub record Tried (number : ℕ) (test : ℕ → Bool) (n i : ℕ) : Type 0 where
  pub inside : i ≤ n
  pub none : first_of (numbered number test) i ≡ passed

module _ {number : ℕ} {test : ℕ → Bool} {n : ℕ} where
  pub tried_start : Tried number test n 0
  tried_start = record { inside = omega arith; none = first_start _ }

  pub tried_more : {i : ℕ} → Tried number test n i → i < n → test i ≡ false → Tried number test n (i + 1)
  tried_more {i} p l e = record { inside = omega arith; none = first_more (numbered number test) i p.none (rw e) }

  pub tried_found : {i : ℕ} → Tried number test n i → 0 < number → i < n → test i ≡ true → Err (refusal number i) ≡ ruled (first_of (numbered number test) n) (tt {0})
  tried_found {i} p k l e =
      let same : numbered number test i ≡ number = rw e in
      let found : first_of (numbered number test) n ≡ refusal number i = rw same at (first_found (numbered number test) i n p.none (λ z. omega arith) l) in
      rw found (sym (ruled-refused (refusal number i) (tt {0}) (λ z. omega arith)))

  pub tried_end : {i : ℕ} → Tried number test n i → n ≤ i → Ok (tt {0}) ≡ ruled (first_of (numbered number test) n) (tt {0})
  tried_end {i} p l = let e : i ≡ n = omega (arith, p.inside) in rw (← e, p.none)

-- a row that tests each word alone, by the library's search for the first that it fits
first-agree : (f g : ℕ → ℕ) (n : ℕ) → ((i : ℕ) → i < n → f i ≡ g i) → first_of f n ≡ first_of g n
unfolding first_of
first-agree f g zero h = refl
first-agree f g (suc n) h = rw (first-agree f g n (λ i l. h i (omega arith)), h n (omega arith))

pub row-sought : (number : ℕ) (row test : ℕ → Bool) (ws : List ℕ) → 0 < number → ((i : ℕ) → i < length ws → row i ≡ test (get_or ws i 0))
    → refused_at number (position test ws) ≡ ruled (first_of (numbered number row) (length ws)) (tt {0})
row-sought number row test ws k h =
    position-first number test ws k
    ∙ ap (λ (r : Refusal). ruled r (tt {0})) (first-agree _ _ (length ws) (λ i l. ap (λ (t : Bool). cond t number 0) (sym (h i l))))

module _ (number : ℕ) (test : ℕ → Bool) where
  -- a row with no number fits no word, and the other way round
  pub row-clear : (n : ℕ) → 0 < number → (first_of (numbered number test) n).number ≡ 0 → (i : ℕ) → i < n → test i ≡ false
  row-clear n p h i l = cases (test i) refl (first_none (numbered number test) n h i l)
    where
      cases : (b : Bool) → test i ≡ b → cond b number 0 ≡ 0 → b ≡ false
      cases true e z = absurd (omega arith)
      cases false e z = refl

  pub clear_row : (n : ℕ) → ((i : ℕ) → i < n → test i ≡ false) → first_of (numbered number test) n ≡ passed
  unfolding first_of
  clear_row zero h = refl
  clear_row (suc n) h = rw (clear_row n (λ i l. h i (omega arith)), h n (omega arith))

-- no row of a list fits one of n words
pub data NoneFits (n : ℕ) : List (ℕ × (ℕ → Bool)) → Type 0 where
  no_row : NoneFits n []
  and_row : {row : ℕ × (ℕ → Bool)} {rest : List (ℕ × (ℕ → Bool))} → ((i : ℕ) → i < n → row.1 i ≡ false) → NoneFits n rest → NoneFits n (row ∷ rest)

-- no number of a row is 0
abbrev pub positive : List (ℕ × (ℕ → Bool)) → Bool
positive [] = true
positive (row ∷ rest) = ltb 0 row.0 && positive rest

pub rows_none : (rows : List (ℕ × (ℕ → Bool))) {n : ℕ} → positive rows ≡ true → (rows_refusal rows n).number ≡ 0 → NoneFits n rows
unfolding rows_refusal
rows_none [] p e = no_row
rows_none (row ∷ rest) {n} p e =
    let q = both_true (ltb 0 row.0) (positive rest) p in
    let h = or_none (first_of (numbered row.0 row.1) n) (rows_refusal rest n) e in
    and_row (row-clear row.0 row.1 n (ltb-true 0 row.0 q.0) h.0) (rows_none rest q.1 h.1)

pub none_rows : {n : ℕ} {rows : List (ℕ × (ℕ → Bool))} → NoneFits n rows → (rows_refusal rows n).number ≡ 0
unfolding rows_refusal
none_rows no_row = refl
none_rows (and_row {row} h rest) = rw (clear_row row.0 row.1 _ h) (none_rows rest)

-- rows one after the other: the first of them fits a word; it fits none; it is the last
module _ (number : ℕ) (test : ℕ → Bool) (n : ℕ) (rest : List (ℕ × (ℕ → Bool))) where
  abbrev first : Refusal
  first = first_of (numbered number test) n

  pub rows_found : {e : Refusal} → Err e ≡ ruled (first_of (numbered number test) n) (tt {0}) → Err e ≡ ruled (rows_refusal ((number, test) ∷ rest) n) (tt {0})
  unfolding rows_refusal
  rows_found h = h ∙ ap (λ (r : Refusal). ruled r (tt {0})) (or_refused first (rows_refusal rest n) (err-refused first (tt {0}) h).0)

  pub rows_next : {x : ⊤} → Ok x ≡ ruled (first_of (numbered number test) n) (tt {0}) → {later : Result ⊤ Refusal} → later ≡ ruled (rows_refusal rest n) (tt {0})
      → later ≡ ruled (rows_refusal ((number, test) ∷ rest) n) (tt {0})
  unfolding rows_refusal
  rows_next h e = e ∙ ap (λ (r : Refusal). ruled r (tt {0})) (or_passed first (rows_refusal rest n) (ok-passed first (tt {0}) h).0)

module _ (number : ℕ) (test : ℕ → Bool) (n : ℕ) where
  pub rows_last : first_of (numbered number test) n ≡ rows_refusal ((number, test) ∷ []) n
  unfolding rows_refusal first_of
  rows_last = last (numbered number test) n
    where
      last : (f : ℕ → ℕ) (n : ℕ) → first_of f n ≡ first_refusal (first_of f n) passed
      last f zero = refl
      last f (suc n) = cases (eqb (first_of f n).number 0) refl
        where
          at : (t : Bool) → eqb (f n) 0 ≡ t → cond t passed (refusal (f n) n) ≡ first_refusal (cond t passed (refusal (f n) n)) passed
          at true e = refl
          at false e = rw e

          cases : (t : Bool) → eqb (first_of f n).number 0 ≡ t → cond t (refusal_at n (f n)) (first_of f n) ≡ first_refusal (cond t (refusal_at n (f n)) (first_of f n)) passed
          cases true e = at (eqb (f n) 0) refl
          cases false e = rw e

-- the first k rows, and then the others
pub rows_split : (k : ℕ) (rows : List (ℕ × (ℕ → Bool))) (n : ℕ)
    → rows_refusal rows n ≡ first_refusal (rows_refusal (take k rows) n) (rows_refusal (drop k rows) n)
unfolding rows_refusal
rows_split zero rows n = refl
rows_split (suc k) [] n = refl
rows_split (suc k) (row ∷ rest) n =
    let first = first_of (numbered row.0 row.1) n in
    ap (first_refusal first) (rows_split k rest n) ∙ or_assoc first (rows_refusal (take k rest) n) (rows_refusal (drop k rest) n)

-- rows 6 to 9, then 15, 16 and 10, one after the other
module _ (job starts : List ℕ) where
  abbrev pub row_answer : ℕ → (ℕ → Bool) → Refusal
  row_answer number test = first_of (numbered number test) (length starts)

  abbrev later_answer : Refusal
  later_answer =
      first_refusal (row_answer 15 (outside_windows job starts))
      (first_refusal (row_answer 16 (group_exceeded job starts)) (row_answer 10 (needs_unmet job starts)))

  pub starts_by_rows : starts_refusal job starts ≡ first_refusal (rows_refusal (time_rows job starts) (length starts)) later_answer
  unfolding starts_refusal rows_refusal
  starts_by_rows = rows_split 4 (start_rows job starts) (length starts) ∙ ap (first_refusal (rows_refusal (time_rows job starts) (length starts))) later
    where
      later : rows_refusal (drop 4 (start_rows job starts)) (length starts) ≡ later_answer
      later =
          ap (λ (r : Refusal). first_refusal (row_answer 15 (outside_windows job starts)) (first_refusal (row_answer 16 (group_exceeded job starts)) r))
          (sym (rows_last 10 (needs_unmet job starts) (length starts)))
