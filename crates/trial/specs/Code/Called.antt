-- Between functions: the rows of the four calls on a trial's words.
use Rattle.std.specs.Prelude.{cond, List, [], ◌∷◌, ℕ, ltb, length}
use Rattle.answers.specs.declared.Refusal.{Refusal}
use Rattle.answers.specs.Rows.{refusal, passed, first_row, first_refusal}
use Rattle.job.specs.Refusal.{job_refusal}
use Rattle.theory.specs.Answers.{buffer_refusal, fact_room_refusal}
use Rattle.moves.specs.Trials.{Move, move_refusal}
use Rattle.moves.specs.Calls.{trial_in, trial_room_refusal}

-- words too few for a trial: a row of the job, or 14
abbrev pub short_rows : List ℕ → List ℕ → Refusal
short_rows job words = cond (ltb (length words) 4098) (first_refusal (job_refusal job) (refusal 14 0)) passed

-- beginning, a move
abbrev pub begin_rows : ℕ → List ℕ → Refusal
begin_rows room job = first_row (job_refusal job ∷ trial_room_refusal room ∷ [])

abbrev pub move_rows : List ℕ → List ℕ → Move → Refusal
move_rows job words m = first_row (job_refusal job ∷ trial_room_refusal (length words) ∷ move_refusal job (trial_in words) m ∷ [])

-- showing words too few for a trial
abbrev pub few_rows : ℕ → List ℕ → Refusal
few_rows room job = first_row (buffer_refusal room ∷ job_refusal job ∷ fact_room_refusal room job ∷ refusal 14 0 ∷ [])
