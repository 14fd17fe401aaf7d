-- The task set at a node.
use Rattle.std.specs.Prelude.{ℕ}
use Rattle.model.specs.Trajectory.{Trajectory}
use Rattle.model.specs.Procedure.{Procedure}
use Rattle.sets.specs.Set.{TaskSet}

-- the task set at node p
abbrev pub set_at : Procedure → Trajectory → ℕ → TaskSet
set_at P T p = record { members = P.members p; conditions = P.conditions p; value = T.value; last = T.last }
