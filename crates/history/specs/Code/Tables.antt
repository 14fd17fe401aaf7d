-- Between functions: what the tables of the actions, a state's bytes and the history are, and that starts name actions of the job.
use Rattle.std.specs.Prelude.{List, ◌≡◌, ℕ, ◌+◌, ◌*◌, ◌<◌, ◌≤◌, length, get_or}
use Rattle.words.specs.Fields.{start_moment, start_action}
use Rattle.job.specs.Parts.{fluents, actions, last_moment, duration, laws_of}
use Rattle.job.specs.Code.WellFormed.{WellFormed, Indexed}
use Rattle.history.specs.Actions.{effect}
use Rattle.history.specs.Values.{value_at}

-- entry a has the duration of action a
pub record Durations (job table : List ℕ) : Type 0 where
  pub entry : (a : ℕ) → a < actions job → get_or table a 0 ≡ duration job a
  pub small : (a : ℕ) → get_or table a 0 < 64

-- the moment at which a start finishes, by such a table
abbrev pub tabled_finish : List ℕ → ℕ → ℕ
tabled_finish table s = start_moment s + get_or table (start_action s) 0

-- entry a has the position at which the laws of action a end: they follow its own word, whose position is entry a of `places`
pub record LawEnds (job places ends : List ℕ) : Type 0 where
  pub entry : (a : ℕ) → a < actions job → get_or ends a 0 ≡ get_or places a 0 + 1 + length (laws_of job a)

-- a well-formed job with the positions of its actions and of the ends of their laws
pub record Ruled (job places ends : List ℕ) : Type 0 where
  pub formed : WellFormed job
  pub indexed : Indexed job 3 places
  pub laws : LawEnds job places ends

-- entry a * 256 + f has the value that action a makes of fluent f
pub record Effects (job table : List ℕ) : Type 0 where
  pub size : length table ≡ 16384
  pub entry : (a f : ℕ) → a < actions job → f < fluents job → get_or table (a * 256 + f) 0 ≡ effect job a f

-- the two tables of a job's actions
pub record ActionTables (job lasts makes : List ℕ) : Type 0 where
  pub durations : Durations job lasts
  pub effects : Effects job makes

-- the starts name actions of the job
pub record Named (job starts : List ℕ) : Type 0 where
  pub action : (i : ℕ) → i < length starts → start_action (get_or starts i 0) < actions job

-- what a walk of the states is made from
pub record Walkable (job durations effects starts : List ℕ) : Type 0 where
  pub well : WellFormed job
  pub tables : ActionTables job durations effects
  pub named : Named job starts

-- the bytes of state are the values of the fluents at moment t
pub record StateAt (job starts : List ℕ) (t : ℕ) (state : List ℕ) : Type 0 where
  pub room : fluents job ≤ length state
  pub value : (f : ℕ) → f < fluents job → get_or state f 0 ≡ value_at job starts t f

-- the history of a plan up to moment k: entry t * 256 + f has the value of fluent f at moment t; the whole history
pub record HistoryUpto (job starts : List ℕ) (k : ℕ) (table : List ℕ) : Type 0 where
  pub size : length table ≡ 16384
  pub entry : (t f : ℕ) → t ≤ k → f < fluents job → get_or table (t * 256 + f) 0 ≡ value_at job starts t f

abbrev pub History : List ℕ → List ℕ → List ℕ → Type 0
History job starts table = HistoryUpto job starts (last_moment job) table
