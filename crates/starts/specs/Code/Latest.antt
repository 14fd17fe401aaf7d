-- Between functions: the tables of rows 8 and 9: until when each action is in hand, and which two clash.
use Rattle.std.specs.Prelude.{Bool, ◌&&◌, List, ◌≡◌, ℕ, ◌+◌, ◌*◌, ◌<◌, ◌≤◌, ltb, length, get_or}
use Rattle.words.specs.Tests.{indicator}
use Rattle.words.specs.Fields.{start_action}
use Rattle.job.specs.Parts.{actions}
use Rattle.history.specs.Actions.{finish}
use Rattle.starts.specs.Rows.{clash}

-- some start of action a that stands before position i finishes after moment u
pub record Unfinished (job starts : List ℕ) (i a u : ℕ) : Type 0 where
  pub place : ℕ
  pub before : place < i
  pub action : start_action (get_or starts place 0) ≡ a
  pub later : u < finish job (get_or starts place 0)

-- entry a is the latest moment at which a start of action a before position i finishes: 0 where there is none
pub record Latest (job starts : List ℕ) (i : ℕ) (table : List ℕ) : Type 0 where
  pub size : length table ≡ 64
  pub covers : (j : ℕ) → j < i → finish job (get_or starts j 0) ≤ get_or table (start_action (get_or starts j 0)) 0
  pub comes : (a u : ℕ) → u < get_or table a 0 → Unfinished job starts i a u

-- entry a * 64 + b of the table tells whether actions a and b clash: 1 if they do, and else 0
abbrev pub Told : List ℕ → List ℕ → ℕ → ℕ → Type 0
Told job table a b = get_or table (a * 64 + b) 0 ≡ indicator (clash job a b)

-- the pair a, b is stored at both places, and the table tells what it told before
pub record PairStored (job : List ℕ) (a b : ℕ) (old new : List ℕ) : Type 0 where
  pub size : length new ≡ length old
  pub forth : Told job new a b
  pub back : Told job new b a
  pub kept : (x y : ℕ) → x < actions job → y < actions job → Told job old x y → Told job new x y

-- the table tells of each two actions that have a latest finish, and of each action with itself
pub record Clashes (job latest table : List ℕ) : Type 0 where
  pub size : length table ≡ 4096
  pub pair : (a b : ℕ) → a < actions job → b < actions job → 0 < get_or latest a 0 → 0 < get_or latest b 0 → Told job table a b
  pub self : (a : ℕ) → a < actions job → Told job table a a

-- and of action a with each of them, in either order
pub record ClashesWith (job latest : List ℕ) (a : ℕ) (table : List ℕ) : Type 0 where
  pub others : Clashes job latest table
  pub forth : (b : ℕ) → b < actions job → 0 < get_or latest b 0 → Told job table a b
  pub back : (b : ℕ) → b < actions job → 0 < get_or latest b 0 → Told job table b a

-- action a, with its latest finish in the table, is in hand after moment u and clashes with action b
abbrev pub clashes_after : List ℕ → List ℕ → ℕ → ℕ → ℕ → Bool
clashes_after job table b u a = ltb u (get_or table a 0) && clash job a b
