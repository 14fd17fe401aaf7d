-- The list of known facts, by moment and then by fluent, so that the words ascend.
use Rattle.std.specs.Prelude.{cond, List, [], ◌∷◌, ◌≡◌, ℕ, ◌+◌, ◌-◌, ◌<◌, eqb}
use Rattle.words.specs.Fields.{unknown, fact_word}
use Rattle.words.specs.Lists.{Pairs}
use Rattle.words.specs.Scan.{concat_below}
use Rattle.job.specs.Refusal.{job_refusal}
use Rattle.job.specs.Parts.{head_word, fluents, last_moment}
use Rattle.history.specs.Values.{value_at}

-- the fact word of a value, where it is not open
abbrev pub fact_of : ℕ → ℕ → ℕ → ℕ → List ℕ
fact_of head t f value = cond (eqb value unknown) [] (fact_word head t f value ∷ [])

-- the facts at moment t
unfoldable pub facts_at : List ℕ → List ℕ → ℕ → List ℕ
facts_at job starts t = concat_below (λ f. fact_of (head_word job) t f (value_at job starts t f)) (fluents job)

-- the facts of moments 0 to t; those of the moments after t; all facts
unfoldable pub facts_upto : List ℕ → List ℕ → ℕ → List ℕ
facts_upto job starts t = concat_below (facts_at job starts) (t + 1)

unfoldable pub facts_after : List ℕ → List ℕ → ℕ → List ℕ
facts_after job starts t = concat_below (λ i. facts_at job starts (t + 1 + i)) (last_moment job - t)

unfoldable pub facts_of : List ℕ → List ℕ → List ℕ
facts_of job starts = facts_upto job starts (last_moment job)

-- The list of facts ascends strictly, of any starts of a well-formed job: each word is below each that comes after it. `facts_ascend`
-- (proofs/Ascent.antt) shows it.
abbrev pub FactsAscend : Type 0
FactsAscend = (job starts : List ℕ) → (job_refusal job).number ≡ 0 → Pairs (λ w w'. w < w') (facts_of job starts)
