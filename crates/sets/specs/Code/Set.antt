-- Between functions: the rule of a task set over any relation of what the members read, and when a set is formed.
use Rattle.std.specs.Prelude.{ℕ, ◌≤◌, ◌<◌, length, get_or}
use Rattle.words.specs.Fields.{condition_i, condition_j}
use Rattle.sets.specs.Set.{TaskSet, member_count, Placing}

-- the node of member i
abbrev pub member : TaskSet → ℕ → ℕ
member s i = get_or s.members i 0

-- the rule: there is a placing with which each member reads, by R
pub record SetRule (s : TaskSet) (R : ℕ → ℕ → ℕ → Type 0) (b e : ℕ) : Type 0 where
  pub begins : ℕ → ℕ
  pub ends : ℕ → ℕ
  pub reads : (i : ℕ) → i < member_count s → R (member s i) (begins i) (ends i)
  pub placing : Placing s b e begins ends

-- a set has 1 to 4 members, and at most 8 conditions, on members that it has
pub record Formed (s : TaskSet) : Type 0 where
  pub some : 0 < member_count s
  pub few : member_count s ≤ 4
  pub conditions : length s.conditions ≤ 8
  pub moments : s.last < 64
  pub named : (c : ℕ) → c < length s.conditions → (condition_i (get_or s.conditions c 0) < member_count s) × (condition_j (get_or s.conditions c 0) < member_count s)
