-- The trajectory of a job and a plan's starts.
use Rattle.std.specs.Prelude.{ℕ, Bool, ◌&&◌, List, eqb}
use Rattle.words.specs.Fields.{start_moment, start_action}
use Rattle.words.specs.Scan.{any}
use Rattle.model.specs.Trajectory.{Trajectory}
use Rattle.job.specs.Parts.{last_moment, duration}
use Rattle.history.specs.Values.{value_at}
use Rattle.formulas.specs.Values.{and_table, or_table, formula_at}

-- a start word is of action a at moment t
abbrev pub is_start_of : ℕ → ℕ → ℕ → Bool
is_start_of a t s = eqb (start_action s) a && eqb (start_moment s) t

-- by tables of 'and' and 'or'
unfoldable pub trajectory_of : List ℕ → List ℕ → List ℕ → List ℕ → Trajectory
trajectory_of conj disj job starts = record {
  last = last_moment job;
  starts = λ a t. any (is_start_of a t) starts;
  duration = duration job;
  value = formula_at conj disj job (value_at job starts);
}

-- by the standard tables: 'and' is the lesser, 'or' the greater
abbrev pub plan_trajectory : List ℕ → List ℕ → Trajectory
plan_trajectory job starts = trajectory_of and_table or_table job starts
