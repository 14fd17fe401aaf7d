-- Between functions: the tables of row 15.
use Rattle.std.specs.Prelude.{not, ◌||◌, List, ◌≡◌, ℕ, ◌<◌, get_or}
use Rattle.bitset.specs.Code.Members.{has}
use Rattle.job.specs.Parts.{actions}
use Rattle.starts.specs.Rows.{may_start}
use Rattle.shifts.specs.declared.Shifts.{Shifts}

-- an action may start at u if it is not in the set of those that have windows, or u is in its own set of moments
pub record ShiftTable (job : List ℕ) (shifts : Shifts) : Type 0 where
  pub entry : (u a : ℕ) → a < actions job → (not (has shifts.windowed a) || has (get_or shifts.inside a 0) u) ≡ may_start job u a
