-- Between functions: what the rows of a task set and its placements ask and promise. The table has, for each node and begin, the set of
-- ends.
use Rattle.std.specs.Prelude.{ℕ, ◌+◌, ◌*◌, ◌≤◌, ◌<◌, ◌≡◌, ◌↔◌, ◌⊎◌, List, map, length, get_or}
use Rattle.words.specs.Fields.{member_node}
use Rattle.model.specs.Code.Arrays.{value_in}
use Rattle.model.specs.Code.Table.{InTable}
pub use Rattle.covering.specs.Code.Cover.{entry_at}
use Rattle.sets.specs.Set.{TaskSet, member_count, Placing}
use Rattle.sets.specs.Code.Set.{member, SetRule, Formed}

-- the task set of member words, condition words, the values of all formulas, and the last moment
abbrev pub task_set_of : List ℕ → List ℕ → List ℕ → ℕ → TaskSet
task_set_of ms cs vs n = record { members = map member_node ms; conditions = cs; value = value_in vs; last = n }

-- what the rows of a set need: its members have lower numbers than p, and the table has the rows of p
pub record SetReady (s : TaskSet) (p rows : ℕ) : Type 0 where
  pub formed : Formed s
  pub lower : (i : ℕ) → i < member_count s → member s i < p
  pub room : p * 64 + 64 ≤ rows

-- the rows of node p up to the last moment are those of the set s, by the table as it was, and the other rows are as they were
pub record SetRows (s : TaskSet) (p : ℕ) (before after : List ℕ) : Type 0 where
  pub rows : (b e : ℕ) → b ≤ s.last → InTable after p b e ↔ SetRule s (InTable before) b e
  pub others : (i : ℕ) → (i < p * 64) ⊎ (p * 64 + s.last < i) → get_or after i 0 ≡ get_or before i 0

-- what placing a set needs: its members' rows, and that it reads b to e
pub record Placeable (s : TaskSet) (table : List ℕ) (b e : ℕ) : Type 0 where
  pub formed : Formed s
  pub rows : (i : ℕ) → i < member_count s → member s i * 64 + 64 ≤ length table
  pub rule : SetRule s (InTable table) b e

-- begins and ends with which each member reads, and which are lawful from b to e
pub record Placed (s : TaskSet) (R : ℕ → ℕ → ℕ → Type 0) (b e : ℕ) (bs es : ℕ → ℕ) : Type 0 where
  pub reads : (i : ℕ) → i < member_count s → R (member s i) (bs i) (es i)
  pub placing : Placing s b e bs es
