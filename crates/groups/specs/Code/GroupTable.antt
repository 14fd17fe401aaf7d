-- Between functions: the tables of row 16, and what its function asks.
use Rattle.std.specs.Prelude.{Bool, cond, ◌&&◌, ◌||◌, List, ◌≡◌, ℕ, ◌≤◌, ◌<◌, leb, get_or, length}
use Rattle.words.specs.Fields.{start_action, group_limit}
use Rattle.words.specs.Scan.{filter}
use Rattle.bitset.specs.Code.Members.{has, IsSetOf}
use Rattle.job.specs.Parts.{is_group, lists_in, limit_of, in_group}
use Rattle.history.specs.Held.{Ascending}
use Rattle.starts.specs.Code.Given.{Timed}
use Rattle.groups.specs.declared.Group.{Group}
use Rattle.groups.specs.declared.Groups.{Groups}

-- group g of a list, and one without limit and actions past its end
abbrev pub group_at : List Group → ℕ → Group
group_at all g = get_or all g (record { limit = 0; members = 0 })

-- each group's limit, and the set of its actions
pub record GroupTable (job : List ℕ) (groups : Groups) : Type 0 where
  pub size : length groups.all ≡ 8
  pub limit : (g : ℕ) → g < 8 → (group_at groups.all g).limit ≡ limit_of job g
  pub members : (g : ℕ) → g < 8 → IsSetOf (group_at groups.all g).members (in_group job g)

-- a word's limit, or its action, stored into such a table
pub record WordStored (w : ℕ) (old new : List Group) : Type 0 where
  pub size : length new ≡ length old
  pub limit : (g : ℕ) → (group_at new g).limit ≡ cond (is_group g w) (group_limit w) (group_at old g).limit
  pub members : (g a : ℕ) → has (group_at new g).members a ≡ (lists_in g a w || has (group_at old g).members a)

-- how many of the starts `held` have an action in a set; action a is in the set, and they are as many as the limit already
abbrev pub held_of : ℕ → List ℕ → ℕ
held_of members held = length (filter (λ s. has members (start_action s)) held)

abbrev pub is_full : List ℕ → ℕ → Group → Bool
is_full held a group = has group.members a && leb group.limit (held_of group.members held)

-- row 16: starts of a well-formed job, once row 6 fits none, at most 4,096 with moments that ascend, and the tables of its groups
pub record Grouped (job durations starts : List ℕ) (groups : Groups) : Type 0 where
  pub timed : Timed job durations starts
  pub table : GroupTable job groups
  pub ascends : Ascending starts
  pub few : length starts ≤ 4096
