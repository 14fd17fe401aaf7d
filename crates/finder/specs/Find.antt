-- What find answers and leaves in the lent buffer, for any lists of words.
use Rattle.std.specs.Prelude.{List, ◌∷◌, ◌++◌, ◌≡◌, ℕ, ◌-◌, ◌≤◌, ◌<◌, length, drop}
use Rattle.answers.specs.declared.Refusal.{Refusal}
use Rattle.answers.specs.declared.Answer.{Answer}
use Rattle.answers.specs.declared.Answer.TheVariants.{Accepted, Refused}
use Rattle.answers.specs.Rows.{refusal, first_row}
use Rattle.job.specs.Parts.{last_moment, node_count}
use Rattle.job.specs.Refusal.{job_refusal}
use Rattle.theory.specs.Answers.{buffer_refusal, check_rows}
use Rattle.theory.specs.Trajectory.{plan_trajectory}
use Rattle.job.specs.Procedure.{procedure_of}
use Rattle.reading.specs.Reading.{whole, Reading}
use Rattle.reading.specs.Count.{Counted}

-- row 12, and those of check
abbrev pub find_rows : ℕ → List ℕ → List ℕ → List ℕ → List Refusal
find_rows room job starts facts = buffer_refusal room ∷ check_rows job starts facts

unfoldable pub find_refusal : ℕ → List ℕ → List ℕ → List ℕ → Refusal
find_refusal room job starts facts = first_row (find_rows room job starts facts)

-- the words are a reading of the root from 0 to n
abbrev pub RootReading : List ℕ → List ℕ → List ℕ → Type 0
RootReading job starts ws = Reading (procedure_of job) (plan_trajectory job starts) whole (node_count job - 1) 0 (last_moment job) ws

-- No reading exceeds 4,032 words: every list of words that is a reading of any node of a well-formed job, by any starts, up to any moment of the
-- job. `readings_bounded` (proofs/Job.antt) shows it.
abbrev pub ReadingsBounded : Type 0
ReadingsBounded =
    (job starts : List ℕ) (p b e : ℕ) (ws : List ℕ) → (job_refusal job).number ≡ 0 → p < node_count job → e ≤ last_moment job
    → Reading (procedure_of job) (plan_trajectory job starts) whole p b e ws → length ws ≤ 4032

-- c triples (node, begin, end) have a reading
abbrev pub Triples : List ℕ → List ℕ → ℕ → Type 0
Triples job starts c = Counted (procedure_of job) (plan_trajectory job starts) c

-- of a plan that passes: the answer, and the buffer afterwards
pub data Searched (job starts before : List ℕ) : Answer → List ℕ → Type 0 where
  -- 13: no list of words whatever is a reading of the root; the true count; the buffer as it was
  unread : {c : ℕ} → Triples job starts c → ((ws : List ℕ) → RootReading job starts ws → ⊥) → Searched job starts before (Refused 13 0 c) before
  -- a reading's words at the front, the rest as it was; their number and the true count
  read : {c : ℕ} {ws : List ℕ} → Triples job starts c → RootReading job starts ws
      → Searched job starts before (Accepted (length ws) c) (ws ++ drop (length ws) before)

-- of any lists: a row fits, and the answer is its refusal, the buffer as it was; or no row does, and a reading is sought
pub data Outcome (job starts facts before : List ℕ) : Answer → List ℕ → Type 0 where
  refused : {n p : ℕ} → find_refusal (length before) job starts facts ≡ refusal n p → (n ≡ 0 → ⊥)
      → Outcome job starts facts before (Refused n p 0) before
  sought : {a : Answer} {after : List ℕ} → (find_refusal (length before) job starts facts).number ≡ 0 → Searched job starts before a after
      → Outcome job starts facts before a after
