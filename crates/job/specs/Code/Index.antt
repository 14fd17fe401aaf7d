-- Between functions: where the words of a kind stand, and what a check of a job gives.
use Rattle.std.specs.Prelude.{Result, cond, List, [], ◌∷◌, ◌++◌, ℕ, zero, suc, ◌≤◌, eqb, get_or, length, replicate}
use Rattle.std.proofs.lemmas.List.Edits.{sets}
use Rattle.words.specs.Fields.{kind}
use Rattle.job.specs.Before.{before, count_of_kind}
use Rattle.answers.specs.declared.Refusal.{Refusal}
use Rattle.job.specs.Refusal.{job_refusal}
use Rattle.job.specs.declared.Places.{Places}
use Rattle.job.specs.declared.Index.{Index}
use Rattle.answers.specs.Code.Ruled.{ruled}

-- the positions of the words of kind k among the first i words, ascending
unfoldable pub positions : ℕ → List ℕ → ℕ → List ℕ
positions k job zero = []
positions k job (suc i) = positions k job i ++ cond (eqb (kind (get_or job i 0)) k) (i ∷ []) []

-- how many these are, and they themselves in front of zeros
unfoldable pub places_upto : ℕ → List ℕ → ℕ → Places
places_upto k job i =
    record { total = length (positions k job i); position = sets (replicate 64 0) 0 (positions k job i) }

-- the first i words can be indexed: of each kind there are as many as its array has room for
pub record Indexable (job : List ℕ) (i : ℕ) : Type 0 where
  pub inside : i ≤ length job
  pub actions : count_of_kind 3 (before job i) ≤ 64
  pub formulas : count_of_kind 5 (before job i) ≤ 64
  pub nodes : count_of_kind 6 (before job i) ≤ 64

-- the index of all words: actions, formulas and nodes
abbrev pub index_of : List ℕ → Index
index_of job =
    record { actions = places_upto 3 job (length job); formulas = places_upto 5 job (length job); nodes = places_upto 6 job (length job) }

-- the index of a job's words, or the job's refusal
unfoldable pub checked_of : List ℕ → Result Index Refusal
checked_of job = ruled (job_refusal job) (index_of job)
