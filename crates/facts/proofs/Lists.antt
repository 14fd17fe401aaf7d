-- The lists of facts: moment by moment, how long they are, and how one is written after another. Assumes nothing.
use mathlib.Core.List.{List, [], ◌∷◌, ◌++◌}
use mathlib.Core.Path.{◌≡◌, refl, ap, ◌∙◌}
use Prim.Native.Nat.{ℕ, ◌+◌, ◌-◌, ◌*◌, ◌≤◌, ◌<◌}
use native.Mathlib.Nat.{zero-add, add-zero, add_assoc, mul-le-mul, le_trans}
use native.Mathlib.Omega.{arith}
use lib.Dec.{eqb}
use lib.ListN.{length, get_or, set, take, drop, length-append}
use lib.Seq.{length-sets, get_or-take, get_or-drop}
use Rattle.words.specs.Scan.{concat_below}
use Rattle.words.specs.Lists.{insert}
use Rattle.words.proofs.Choices.{cond-all}
use Rattle.words.proofs.Copies.{sets_append}
use Rattle.words.proofs.Concat.{concat-more, concat-cong, concat-most, concat-split}
use Rattle.words.specs.Fields.{unknown, fact_room, start_moment, start_action}
use Rattle.words.proofs.Wide.{room_exactly}
use Rattle.job.specs.Parts.{head_word, fluents, last_moment, duration}
use Rattle.job.specs.Code.WellFormed.{WellFormed}
use Rattle.history.specs.Values.{value_at}
use Rattle.history.specs.Code.Tables.{HistoryUpto}
use Rattle.history.proofs.Before.{value_before}
use Rattle.facts.specs.Facts.{fact_of, facts_at, facts_upto, facts_after, facts_of}
use Rattle.facts.specs.Code.Written.{facts_in, row_facts, rows_facts, Written, Filled}

module _ {old : List ℕ} {at : ℕ} where
  pub written_none : Written old at [] at old
  written_none = record { next = omega arith; held = refl }

  -- one word, or none
  pub written_one : {words : List ℕ} (w : ℕ) → words ≡ w ∷ [] → Written old at words (at + 1) (set old at w)
  written_one w e = rw e (record { next = omega arith; held = refl })

  pub written_no : {words : List ℕ} → words ≡ [] → Written old at words at old
  written_no e = rw e written_none

  pub written-more : {vs ws all mid new : List ℕ} {end end' : ℕ} → all ≡ vs ++ ws → Written old at vs end mid → Written mid end ws end' new → Written old at all end' new
  written-more {vs} {ws} a v w =
      record {
        next = rw (a, length-append) (omega (arith, v.next, w.next));
        held = w.held ∙ rw (v.held, v.next, a, sets_append);
      }

  pub written-size : {words new : List ℕ} {end : ℕ} → Written old at words end new → length new ≡ length old
  written-size {words} w = ap length w.held ∙ length-sets old at words

fact_most : (head t f value : ℕ) → length (fact_of head t f value) ≤ 1
fact_most head t f value = cond-all (λ l. length l ≤ 1) (eqb value unknown) (omega arith) (omega arith)

facts_most : (head t : ℕ) (value : ℕ → ℕ) (n : ℕ) → length (concat_below (λ f. fact_of head t f (value f)) n) ≤ n
facts_most head t value n = omega (arith, concat-most (λ (f : ℕ). fact_of head t f (value f)) 1 n (λ f. fact_most head t f (value f)))

-- by a row of values: one fluent more
module _ (head t : ℕ) (row : List ℕ) where
  -- before the first fluent nothing is written
  pub row-start : {old : List ℕ} {at : ℕ} → Written old at (facts_in head t row 0) at old
  unfolding facts_in concat_below
  row-start = written_none

  pub row_more : (n : ℕ) → facts_in head t row (n + 1) ≡ facts_in head t row n ++ fact_of head t n (get_or row n 0)
  unfolding facts_in
  row_more n = concat-more (λ (f : ℕ). fact_of head t f (get_or row f 0)) n

  pub in-most : (n : ℕ) → length (facts_in head t row n) ≤ n
  unfolding facts_in
  in-most n = facts_most head t (λ f. get_or row f 0) n

-- by a history, of which a row is read
module _ (history : List ℕ) (head t : ℕ) where
  -- The facts of the first 0 fluents are none.
  pub row-none : row_facts history head t 0 ≡ []
  unfolding row_facts concat_below
  row-none = refl

  pub row-most : (n : ℕ) → length (row_facts history head t n) ≤ n
  unfolding row_facts
  row-most n = facts_most head t (λ f. get_or history (t * 256 + f) 0) n

  pub row-read : (n : ℕ) → facts_in head t (take n (drop (t * 256) history)) n ≡ row_facts history head t n
  unfolding facts_in row_facts
  row-read n =
      concat-cong _ _ n (λ f l. ap (fact_of head t f) (get_or-take n (drop (t * 256) history) f 0 l ∙ get_or-drop (t * 256) history f 0))

  -- a row that is read is written as the history's
  pub row-written : {n : ℕ} {row old new : List ℕ} {at end : ℕ} → (row ≡ take n (drop (t * 256) history)) × (length row ≡ n)
      → Written old at (facts_in head t row (length row)) end new → Written old at (row_facts history head t n) end new
  row-written {n} read w = rw (read.1, read.0, row-read n) at w

-- by a history: k moments from t on, one moment more at either end
module _ (history : List ℕ) (head n : ℕ) where
  pub rows_none : (t : ℕ) → rows_facts history head n t 0 ≡ []
  unfolding rows_facts concat_below
  rows_none t = refl

  pub rows_more : (k : ℕ) → rows_facts history head n 0 (k + 1) ≡ rows_facts history head n 0 k ++ row_facts history head k n
  unfolding rows_facts
  rows_more k = rw (concat-more (λ (i : ℕ). row_facts history head (0 + i) n) k, zero-add k)

  pub rows_most : (t k : ℕ) → length (rows_facts history head n t k) ≤ k * n
  unfolding rows_facts
  rows_most t k = concat-most (λ (i : ℕ). row_facts history head (t + i) n) n k (λ i. row-most history head (t + i) n)

  pub rows_first : (t k : ℕ) → rows_facts history head n t (1 + k) ≡ row_facts history head t n ++ rows_facts history head n (t + 1) k
  unfolding rows_facts concat_below
  rows_first t k =
      rw (
        concat-split (λ (i : ℕ). row_facts history head (t + i) n) 1 k,
        add-zero t,
        concat-cong (λ (i : ℕ). row_facts history head (t + (1 + i)) n) (λ (i : ℕ). row_facts history head (t + 1 + i) n) k (λ i l. rw add_assoc),
      )

-- by the history of a plan they are its facts
pub rows_facts_lem : {job starts history : List ℕ} {t : ℕ} → HistoryUpto job starts t history
    → rows_facts history (head_word job) (fluents job) 0 (t + 1) ≡ facts_upto job starts t
unfolding rows_facts row_facts facts_upto facts_at
rows_facts_lem {job} {t = t} h =
    concat-cong _ _ (t + 1)
    (λ u m. rw zero-add (concat-cong _ _ (fluents job) (λ f k. ap (fact_of (head_word job) u f) (h.entry u f (omega arith) k))))

pub rows_filled : {job starts history old new : List ℕ} {last n t end : ℕ} → HistoryUpto job starts last history → n ≡ fluents job → t ≡ last + 1
    → Written old 0 (rows_facts history (head_word job) n 0 t) end new → Filled old (facts_upto job starts last) end new
rows_filled h e q w =
    let facts = rw (e, q, rows_facts_lem h) at w in
    record { count = omega (arith, facts.next); held = facts.held }

-- the facts of up to 64 moments fit the words that those of such a head may need
pub room_for : (job : List ℕ) → WellFormed job → (t : ℕ) → t ≤ 64 → t * fluents job ≤ fact_room (head_word job)
room_for job w t l = rw (room_exactly (head_word job)) (mul-le-mul l w.fluents-by_head)

module _ (job starts : List ℕ) where
  moment_most : (t : ℕ) → length (facts_at job starts t) ≤ fluents job
  unfolding facts_at
  moment_most t = facts_most (head_word job) t (value_at job starts t) (fluents job)

  -- at most as many facts a moment as there are fluents
  pub facts_few : (t : ℕ) → length (facts_upto job starts t) ≤ (t + 1) * fluents job
  unfolding facts_upto
  facts_few t = concat-most (facts_at job starts) (fluents job) (t + 1) moment_most

  -- those of the moments up to t fit the words that the facts of such a head may need, and so do all
  pub upto_fit : WellFormed job → (t : ℕ) → t < 64 → length (facts_upto job starts t) ≤ fact_room (head_word job)
  upto_fit w t l = le_trans (facts_few t) (room_for job w (t + 1) (omega arith))

  pub facts_fit : WellFormed job → length (facts_of job starts) ≤ fact_room (head_word job)
  unfolding facts_of
  facts_fit w = upto_fit w (last_moment job) (omega (arith, w.few_moments))

-- the facts up to a moment come first among all
pub facts_split : (job starts : List ℕ) (t : ℕ) → t ≤ last_moment job → facts_of job starts ≡ facts_upto job starts t ++ facts_after job starts t
unfolding facts_of facts_upto facts_after
facts_split job starts t l =
    let e : last_moment job + 1 ≡ t + 1 + (last_moment job - t) = omega arith in
    rw (e, concat-split (facts_at job starts) (t + 1) (last_moment job - t))

-- those of one moment more
pub facts_next : (job starts : List ℕ) (t : ℕ) → facts_upto job starts (t + 1) ≡ facts_upto job starts t ++ facts_at job starts (t + 1)
unfolding facts_upto
facts_next job starts t = concat-more (facts_at job starts) (t + 1)

-- a start that is put in changes no fact up to its own moment
pub facts_before : (job : List ℕ) (w : ℕ) → 0 < duration job (start_action w) → (starts : List ℕ) (t : ℕ) → t ≤ start_moment w
    → facts_upto job (insert w starts) t ≡ facts_upto job starts t
unfolding facts_upto facts_at
facts_before job w lasts starts t l =
    concat-cong _ _ (t + 1) (λ i m. concat-cong _ _ (fluents job) (λ f k. rw (value_before job w lasts starts i f (omega arith))))
