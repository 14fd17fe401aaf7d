-- Starts that row 6 does not fit: exactly those that are each a start of the job and ascend; their moments ascend too. Assumes nothing.
use mathlib.Core.Bool.{Bool, true, false}
use mathlib.Core.List.{List, ◌∷◌}
use mathlib.Core.Path.{◌≡◌, refl}
use Prim.Native.Nat.{ℕ, zero, suc, ◌+◌, ◌-◌, ◌^◌, ◌≤◌, ◌<◌}
use native.Mathlib.Decide.{dec_lt}
use native.Mathlib.Omega.{arith}
use Rattle.std.specs.Prelude.{⊤, Ok}
use borrow.Author.Tests.{not-false, eqb-true, leb-true, ltb-true, lt-ltb, ne_eqb}
use lib.Dec.{eqb}
use lib.ListN.{length, get_or, drop}
use Rattle.words.specs.Fields.{kind, field, start_moment, start_action, start_word}
use Rattle.words.specs.Lists.{Each, Pairs}
use Rattle.words.proofs.Choices.{both_true}
use Rattle.words.proofs.Lists.{each_at, pairs_of, pairs-at}
use Rattle.job.specs.Parts.{actions, last_moment}
use Rattle.history.specs.Actions.{finish}
use Rattle.history.specs.Code.Tables.{Durations, tabled_finish, Named}
use Rattle.history.specs.Held.{Ascending}
use Rattle.history.proofs.Moments.{finish-tabled}
use Rattle.answers.specs.declared.Refusal.{Refusal}
use Rattle.answers.specs.Rows.{first_of}
use Rattle.answers.proofs.Rows.{or_none, ok-passed}
use Rattle.starts.specs.Rows.{is_start, ascends, wrong_word, start_rows, numbered, rows_refusal, starts_refusal}
use Rattle.starts.specs.Code.Given.{time_rows, StartsFormed, Tabled, Timed}
use Rattle.starts.proofs.Rows.{row-clear}
use Rattle.answers.specs.Code.Ruled.{ruled}

-- what a right word says
pub record Right (job : List ℕ) (s : ℕ) : Type 0 where
  pub of_kind_lem : kind s ≡ 9
  pub bare : field s 27 12 ≡ 0
  pub moment : start_moment s ≤ last_moment job
  pub action : start_action s < actions job

pub right_of : {job : List ℕ} {s : ℕ} → is_start job s ≡ true → Right job s
right_of e =
    let a = both_true _ _ e in
    let b = both_true _ _ a.0 in
    let k = both_true _ _ b.0 in
    record {
      of_kind_lem = eqb-true _ 9 k.0;
      bare = eqb-true _ 0 k.1;
      moment = leb-true _ _ b.1;
      action = ltb-true _ _ a.1;
    }

-- a word that row 6 does not fit
module _ (job starts : List ℕ) (i : ℕ) (h : wrong_word job starts i ≡ false) where
  parts : (is_start job (get_or starts i 0) ≡ true) × (ascends starts i ≡ true)
  unfolding wrong_word
  parts = both_true _ _ (not-false _ h)

  pub is_start-at : is_start job (get_or starts i 0) ≡ true
  is_start-at = parts.0

  pub right_at : Right job (get_or starts i 0)
  right_at = right_of parts.0

  -- it is above the one before it
  above_at : 0 < i → get_or starts (i - 1) 0 < get_or starts i 0
  above_at p =
      let e : eqb i 0 ≡ false = ne_eqb i 0 (λ z. omega arith) in
      ltb-true _ _ (rw e at parts.1)

-- starts of the job that ascend: row 6 fits none
pub words_formed : {job starts : List ℕ} → Each (λ s. is_start job s ≡ true) starts → Pairs (λ s s'. s < s') starts → StartsFormed job starts
unfolding wrong_word
words_formed {job} {starts} words order = record { right = λ i l. rw (each_at words i l, climbs i l) }
  where
    climbs : (i : ℕ) → i < length starts → ascends starts i ≡ true
    climbs zero l = refl
    climbs (suc i) l =
        let same : suc i - 1 ≡ i = omega arith in
        rw (ne_eqb (suc i) 0 (λ z. omega arith), same) (lt-ltb _ _ (pairs-at order (suc i) i (omega arith) l))

-- once row 6 gives no number, alone (also as its function's result), before others, before rows 7 to 9, before all others
pub row-passed : {job starts : List ℕ} {r : Refusal} → r ≡ first_of (numbered 6 (wrong_word job starts)) (length starts) → r.number ≡ 0 → StartsFormed job starts
row-passed {job} {starts} is e = record { right = row-clear 6 (wrong_word job starts) (length starts) (omega arith) (rw is at e) }

pub timed : {job durations effects starts : List ℕ} → Tabled job durations effects → {x : ⊤} → Ok x ≡ ruled (first_of (numbered 6 (wrong_word job starts)) (length starts)) (tt {0})
    → Timed job durations starts
timed given e = record { formed = given.formed; lasts = given.lasts; words = row-passed refl (ok-passed _ (tt {0}) e).0 }

rows_passed : {job starts : List ℕ} (rest : List (ℕ × (ℕ → Bool))) → (rows_refusal ((6, wrong_word job starts) ∷ rest) (length starts)).number ≡ 0 → StartsFormed job starts
unfolding rows_refusal
rows_passed rest e = row-passed refl (or_none _ _ e).0

pub times_passed : {job starts : List ℕ} {r : Refusal} → r ≡ rows_refusal (time_rows job starts) (length starts) → r.number ≡ 0 → StartsFormed job starts
times_passed {job} {starts} is e = rows_passed (drop 1 (time_rows job starts)) (rw is at e)

pub starts_passed : (job starts : List ℕ) → (starts_refusal job starts).number ≡ 0 → StartsFormed job starts
unfolding starts_refusal
starts_passed job starts e = rows_passed (drop 1 (start_rows job starts)) e

pub right_word : {job starts : List ℕ} → StartsFormed job starts → (i : ℕ) → i < length starts → Right job (get_or starts i 0)
right_word h i l = right_at _ _ i (h.right i l)

pub named : {job starts : List ℕ} → StartsFormed job starts → Named job starts
named h = record { action = λ i l. (right_word h i l).action }

-- the words ascend
pub words_ascend : {job starts : List ℕ} → StartsFormed job starts → (i j : ℕ) → j < i → i < length starts → get_or starts j 0 < get_or starts i 0
words_ascend h zero j l m = absurd (omega arith)
words_ascend {job} {starts} h (suc i) j l m = cases (dec_lt j i) (λ k. words_ascend h i j k (omega arith))
  where
    last : get_or starts i 0 < get_or starts (suc i) 0
    last =
        let same : suc i - 1 ≡ i = omega arith in
        rw same at (above_at job starts (suc i) (h.right (suc i) m) (omega arith))

    cases : Dec (j < i) → (j < i → get_or starts j 0 < get_or starts i 0) → get_or starts j 0 < get_or starts (suc i) 0
    cases (yes k) ih = omega (arith, last, ih k)
    cases (no k) ih = let same : j ≡ i = omega arith in rw same last

-- a right start's finish, by the table of durations
pub finish-is : {job durations starts : List ℕ} → Durations job durations → StartsFormed job starts → (i : ℕ) → i < length starts
    → tabled_finish durations (get_or starts i 0) ≡ finish job (get_or starts i 0)
finish-is d h i l = finish-tabled d _ (right_word h i l).action

-- a right word is that of its action and its moment
low_bits : (s : ℕ) → 2415919104 ≤ s → s < 2415919104 + 4096 → s ≡ start_word (start_moment s) (start_action s)
low_bits s l h = omega arith

word_low : {job : List ℕ} {s : ℕ} → Right job s → s < 2 ^ 32 → (2415919104 ≤ s) × (s < 2415919104 + 4096)
word_low r w = let k = r.of_kind_lem in let b = r.bare in omega arith

pub word_is : {job : List ℕ} {s : ℕ} → Right job s → s < 2 ^ 32 → s ≡ start_word (start_moment s) (start_action s)
word_is r w = let b = word_low r w in low_bits _ b.0 b.1

-- and the word of a moment and an action has them in its fields
module _ (u a : ℕ) (hu : u < 64) (ha : a < 64) where
  pub word_moment : start_moment (start_word u a) ≡ u
  word_moment = omega arith

  pub word_action : start_action (start_word u a) ≡ a
  word_action = omega arith

-- of lists of 32-bit words
module _ (job starts : List ℕ) (words : (i : ℕ) → get_or starts i 0 < 2 ^ 32) where
  -- so the words that row 6 does not fit are 4,096 at most, however long the list
  rises : (n : ℕ) → ((i : ℕ) → i < n → wrong_word job starts i ≡ false) → (i : ℕ) → i < n → 2415919104 + i ≤ get_or starts i 0
  rises n h zero l = omega (arith, word_is (right_at job starts 0 (h 0 l)) (words 0))
  rises n h (suc i) l =
      let same : suc i - 1 ≡ i = omega arith in
      omega (arith, rises n h i (omega arith), rw same at (above_at job starts (suc i) (h (suc i) l) (omega arith)))

  pub few_words : (n : ℕ) → ((i : ℕ) → i < n → wrong_word job starts i ≡ false) → n ≤ 4096
  few_words n h = cases (dec_lt 4096 n)
    where
      cases : Dec (4096 < n) → n ≤ 4096
      cases (yes l) = absurd (omega (arith, rises n h 4096 l, word_is (right_at job starts 4096 (h 4096 l)) (words 4096)))
      cases (no l) = omega arith

-- words that ascend have moments that do, strictly where the action is the same
pub ordered : {s s' : ℕ} → s ≡ start_word (start_moment s) (start_action s) → s' ≡ start_word (start_moment s') (start_action s') → s < s'
    → (start_moment s ≤ start_moment s') × (start_action s ≡ start_action s' → start_moment s < start_moment s')
ordered e e' l = (omega arith, λ a. omega arith)

pub moments_ordered : {job starts : List ℕ} → StartsFormed job starts → ((i : ℕ) → get_or starts i 0 < 2 ^ 32) → {i j : ℕ} → j < i → i < length starts
    → (start_moment (get_or starts j 0) ≤ start_moment (get_or starts i 0))
    × (start_action (get_or starts j 0) ≡ start_action (get_or starts i 0) → start_moment (get_or starts j 0) < start_moment (get_or starts i 0))
moments_ordered h words {i} {j} l m =
    ordered (word_is (right_word h j (omega arith)) (words j)) (word_is (right_word h i m) (words i)) (words_ascend h i j l m)

pub ascending : {job starts : List ℕ} → StartsFormed job starts → ((i : ℕ) → get_or starts i 0 < 2 ^ 32) → Ascending starts
ascending {job} {starts} h words = pairs_of starts (λ i j l m. (moments_ordered h words l m).0)
