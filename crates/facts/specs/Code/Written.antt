-- Between functions: what the writers of facts ask, and what they leave in a buffer.
use Rattle.std.specs.Prelude.{List, ◌≡◌, ℕ, ◌+◌, ◌*◌, ◌≤◌, length, get_or}
use Rattle.std.proofs.lemmas.List.Edits.{sets}
use Rattle.words.specs.Fields.{fact_room}
use Rattle.words.specs.Scan.{concat_below}
use Rattle.job.specs.Parts.{head_word, last_moment}
use Rattle.job.specs.Code.WellFormed.{WellFormed}
use Rattle.facts.specs.Facts.{fact_of}

-- by a row of values, the facts at moment t of the first n fluents; the same by a history
unfoldable pub facts_in : ℕ → ℕ → List ℕ → ℕ → List ℕ
facts_in head t row n = concat_below (λ f. fact_of head t f (get_or row f 0)) n

unfoldable pub row_facts : List ℕ → ℕ → ℕ → ℕ → List ℕ
row_facts history head t n = concat_below (λ f. fact_of head t f (get_or history (t * 256 + f) 0)) n

-- the same of k moments from t on
unfoldable pub rows_facts : List ℕ → ℕ → ℕ → ℕ → ℕ → List ℕ
rows_facts history head n t k = concat_below (λ i. row_facts history head (t + i) n) k

-- words written to a buffer from position `at` on, and the position after them
pub record Written (old : List ℕ) (at : ℕ) (words : List ℕ) (end : ℕ) (buffer : List ℕ) : Type 0 where
  pub next : end ≡ at + length words
  pub held : buffer ≡ sets old at words

-- words written to the front of a buffer, and how many they are
pub record Filled (old words : List ℕ) (n : ℕ) (buffer : List ℕ) : Type 0 where
  pub count : n ≡ length words
  pub held : buffer ≡ sets old 0 words

-- a moment of the job, and a buffer with room for all facts
pub record Fillable (job : List ℕ) (last : ℕ) (buffer : List ℕ) : Type 0 where
  pub well : WellFormed job
  pub moment : last ≤ last_moment job
  pub room : fact_room (head_word job) ≤ length buffer
