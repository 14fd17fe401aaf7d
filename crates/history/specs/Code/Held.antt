-- Between functions: a walk of the states, which carries the list of starts in hand along with the state.
use Rattle.std.specs.Prelude.{Bool, List, ◌≡◌, ℕ, ◌+◌, ◌<◌, ◌≤◌, ltb, length, take}
use Rattle.words.specs.Scan.{filter}
use Rattle.history.specs.Held.{starting_at, Ascending, HeldList}
use Rattle.history.specs.Code.Tables.{tabled_finish, Walkable, StateAt}

-- `unfinished`, by a table of durations
abbrev pub unfinished_by : List ℕ → ℕ → ℕ → Bool
unfinished_by durations t s = ltb t (tabled_finish durations s)

-- the first n words of a list are those of its first `count` words that pass
pub record Filtered (test : ℕ → Bool) (count : ℕ) (old : List ℕ) (n : ℕ) (new : List ℕ) : Type 0 where
  pub few : n ≤ count
  pub words : take n new ≡ filter test (take count old)

-- a walk at moment t: its state and its held list are those of that moment
pub record Carried (job starts : List ℕ) (t : ℕ) (held : List ℕ) (count : ℕ) (bytes : List ℕ) : Type 0 where
  pub state : StateAt job starts t bytes
  pub list : HeldList job starts t held count

-- what a step is made from: a walk of some plan at moment t, and the starts of the plan that begin at the next moment
pub record Steppable (job durations effects starting : List ℕ) (t : ℕ) (held : List ℕ) (count : ℕ) (bytes : List ℕ) : Type 0 where
  pub plan : List ℕ
  pub walk : Walkable job durations effects plan
  pub ascends : Ascending plan
  pub begin : starting ≡ starting_at plan (t + 1)
  pub carried : Carried job plan t held count bytes
  pub soon : t < 64
  pub room : length plan ≤ length held
