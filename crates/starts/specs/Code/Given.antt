-- Between functions: the rows of a call, and what the functions of `starts`, `shifts` and `groups` ask.
use Rattle.std.specs.Prelude.{Bool, false, List, ◌≡◌, ℕ, ◌≤◌, ◌<◌, length, get_or, take}
use Rattle.words.specs.Fields.{start_moment}
use Rattle.job.specs.Parts.{actions}
use Rattle.job.specs.Code.WellFormed.{WellFormed}
use Rattle.history.specs.Code.Tables.{Durations, Ruled, Effects, HistoryUpto}
use Rattle.starts.specs.Rows.{wrong_word, start_rows}
use Rattle.starts.specs.Code.Latest.{Told, Clashes}

-- the rows on times: 6 to 9
abbrev pub time_rows : List ℕ → List ℕ → List (ℕ × (ℕ → Bool))
time_rows job starts = take 4 (start_rows job starts)

-- row 6 fits no word
pub record StartsFormed (job starts : List ℕ) : Type 0 where
  pub right : (i : ℕ) → i < length starts → wrong_word job starts i ≡ false

-- rows 6 to 9: a well-formed job with the tables of its actions
pub record Tabled (job durations effects : List ℕ) : Type 0 where
  pub formed : WellFormed job
  pub lasts : Durations job durations
  pub makes : Effects job effects

-- rows 7 to 9 and 16: the starts of such a job, once row 6 fits none
pub record Timed (job durations starts : List ℕ) : Type 0 where
  pub formed : WellFormed job
  pub lasts : Durations job durations
  pub words : StartsFormed job starts

-- row 9: two actions of the job, with the table of effects
pub record Paired (job effects : List ℕ) (a b : ℕ) : Type 0 where
  pub formed : WellFormed job
  pub makes : Effects job effects
  pub first : a < actions job
  pub second : b < actions job

-- two such actions, and a table of clashes to store them in
pub record PairStorable (job effects : List ℕ) (a b : ℕ) (table : List ℕ) : Type 0 where
  pub two : Paired job effects a b
  pub size : length table ≡ 4096

-- an action, and the table of clashes of the actions that have a latest finish
pub record Comparable (job effects latest : List ℕ) (a : ℕ) (table : List ℕ) : Type 0 where
  pub formed : WellFormed job
  pub makes : Effects job effects
  pub action : a < actions job
  pub told : Clashes job latest table

-- action b, and a table that tells of it with each action that has a latest finish
pub record Compared (job latest table : List ℕ) (b : ℕ) : Type 0 where
  pub formed : WellFormed job
  pub action : b < actions job
  pub told : (a : ℕ) → a < actions job → 0 < get_or latest a 0 → Told job table b a

-- row 10: once row 6 fits no start, the positions of the job's actions and of the ends of their laws, and the history of the plan, up to a
-- moment that no start is after
pub record Recorded (job places ends history starts : List ℕ) : Type 0 where
  pub rules : Ruled job places ends
  pub words : StartsFormed job starts
  pub last : ℕ
  pub past : (i : ℕ) → i < length starts → start_moment (get_or starts i 0) ≤ last
  pub values : HistoryUpto job starts last history
