-- Between functions: what seeking a reading asks: the job passes, the arrays represent it and the plan, and the buffer has room.
use Rattle.std.specs.Prelude.{List, ◌≡◌, ℕ, ◌≤◌, Result}
use Rattle.answers.specs.declared.Refusal.{Refusal}
use Rattle.job.specs.Refusal.{job_refusal}
use Rattle.job.specs.Procedure.{procedure_of}
use Rattle.theory.specs.Answers.{check_refusal}
use Rattle.theory.specs.Trajectory.{plan_trajectory}
use Rattle.model.specs.Code.Represents.{Represents}
use Rattle.model.specs.declared.Arrays.{Arrays}
use Rattle.answers.specs.Code.Ruled.{RuledBy}

pub record Seekable (job starts : List ℕ) (arrays : Arrays) (size : ℕ) : Type 0 where
  pub clear : (job_refusal job).number ≡ 0
  pub represented : Represents job arrays (procedure_of job) (plan_trajectory job starts)
  pub room : 4096 ≤ size

-- the row of check that fits; or arrays, of a plan that passes, with which a reading may be sought in any buffer that has room
abbrev pub Readied : List ℕ → List ℕ → List ℕ → Result Arrays Refusal → Type 0
Readied job starts facts result = RuledBy (check_refusal job starts facts) (λ arrays. (size : ℕ) → 4096 ≤ size → Seekable job starts arrays size) result
