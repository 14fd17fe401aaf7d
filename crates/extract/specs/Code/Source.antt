-- Between functions: the procedure and the trajectory that a reading is written from.
use Rattle.std.specs.Prelude.{ℕ, List}
use Rattle.model.specs.Trajectory.{Trajectory}
use Rattle.model.specs.Procedure.{Procedure}
use Rattle.model.specs.Code.Arrays.{procedure_at, trajectory_at}
use Rattle.extract.specs.declared.Source.{Source}

-- what the writers do not read: how many nodes there are, and each action's starts and duration. With any that make the table right, they write
-- a reading
pub record Unseen : Type 0 where
  pub count : ℕ
  pub starts : List ℕ
  pub durations : List ℕ

abbrev pub procedure_by : Source → Unseen → Procedure
procedure_by s u = procedure_at s.words.now s.arrays.now.places u.count

abbrev pub trajectory_by : Source → Unseen → Trajectory
trajectory_by s u = trajectory_at u.starts u.durations s.arrays.now.values s.arrays.now.last

-- `emit` reads how many nodes there are, and neither the starts nor the durations
abbrev pub unseen_of : Source → List ℕ → List ℕ → Unseen
unseen_of s starts durations = record { count = s.arrays.now.count; starts = starts; durations = durations }
