-- Between functions: the two records as the code has them, in arrays: node p's word stands at places p of the job's words, and after it
-- those of its members and conditions; starts a is the set of the moments at which action a starts; values has the value of formula k at
-- moment t at k * 64 + t.
use Rattle.std.specs.Prelude.{ℕ, ◌+◌, ◌*◌, List, [], map, get_or, drop}
use Rattle.words.specs.Fields.{of_kind, member_node}
use Rattle.words.specs.Scan.{take_while, drop_while}
use Rattle.bitset.specs.Code.Members.{has}
use Rattle.model.specs.Trajectory.{Trajectory}
use Rattle.model.specs.Procedure.{Procedure}
use Rattle.model.specs.declared.Arrays.{Arrays}

-- the words of the members and of the conditions of a task set whose node's word stands at `place`
abbrev pub members_at : List ℕ → ℕ → List ℕ
members_at words place = take_while (of_kind 7) (drop (place + 1) words)

abbrev pub conditions_at : List ℕ → ℕ → List ℕ
conditions_at words place = take_while (of_kind 8) (drop_while (of_kind 7) (drop (place + 1) words))

abbrev pub procedure_at : List ℕ → List ℕ → ℕ → Procedure
procedure_at words places count = record {
  count = count;
  node = λ p. get_or words (get_or places p 0) 0;
  members = λ p. map member_node (members_at words (get_or places p 0));
  conditions = λ p. conditions_at words (get_or places p 0);
}

-- the value of formula k at moment t
abbrev pub value_in : List ℕ → ℕ → ℕ → ℕ
value_in values k t = get_or values (k * 64 + t) 0

abbrev pub trajectory_at : List ℕ → List ℕ → List ℕ → ℕ → Trajectory
trajectory_at starts durations values last = record {
  last = last;
  starts = λ a t. has (get_or starts a 0) t;
  duration = λ a. get_or durations a 0;
  value = value_in values;
}

-- those of all arrays together
abbrev pub procedure_in : List ℕ → Arrays → Procedure
procedure_in words a = procedure_at words a.places a.count

abbrev pub trajectory_in : Arrays → Trajectory
trajectory_in a = trajectory_at a.starts a.durations a.values a.last

-- a procedure in which every node has this word, and no task set a member: what a node that is no task set is read by
abbrev pub alone : ℕ → Procedure
alone w = record { count = 0; node = λ p. w; members = λ p. []; conditions = λ p. [] }
