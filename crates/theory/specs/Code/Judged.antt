-- Between functions: what the rows on a job and its starts show: their refusal, and of a plan that they pass what the later steps use.
use Rattle.std.specs.Prelude.{Result, Ok, Err, MatchResult, List, [], ◌∷◌, ◌≡◌, ℕ, ◌≤◌, ◌<◌, length, get_or}
use Rattle.words.specs.Fields.{start_moment}
use Rattle.answers.specs.declared.Refusal.{Refusal}
use Rattle.answers.specs.Rows.{passed, first_row}
use Rattle.job.specs.declared.Index.{Index}
use Rattle.job.specs.Parts.{last_moment}
use Rattle.job.specs.Refusal.{job_refusal}
use Rattle.job.specs.Code.Index.{index_of}
use Rattle.history.specs.Code.Tables.{Durations, LawEnds, Effects, HistoryUpto}
use Rattle.shifts.specs.Code.ShiftSets.{ShiftTable}
use Rattle.groups.specs.Code.GroupTable.{GroupTable}
use Rattle.theory.specs.Answers.{fact_room_refusal, plan_refusal}
use Rattle.theory.specs.declared.Plan.{Plan}
use Rattle.answers.specs.Code.Ruled.{RuledBy, ruled}

-- the rows of a job with row 12 after them: the first that fits; the index of its words, or that row
abbrev pub room_rows : ℕ → List ℕ → Refusal
room_rows room job = first_row (job_refusal job ∷ fact_room_refusal room job ∷ [])

abbrev pub room_checked_of : ℕ → List ℕ → Result Index Refusal
room_checked_of room job = ruled (room_rows room job) (index_of job)

-- a job that no row refuses, with the index of its words
pub record JobChecked (job : List ℕ) (words : Index) : Type 0 where
  pub good : (job_refusal job).number ≡ 0
  pub index : words ≡ index_of job

-- what rows of a job, and perhaps others after them, gave: the index of the words of a job that no row refuses, or a refusal; the refusal
abbrev pub JobRuled : List ℕ → Result Index Refusal → Type 0
JobRuled job checked = MatchResult checked (JobChecked job) (λ e. e.number ≡ 0 → ⊥)

abbrev pub refusal_in : Result Index Refusal → Refusal
refusal_in (Ok words) = passed
refusal_in (Err e) = e

-- of a plan that passes the rows of its job and its starts: the index of its job's words, the durations of its actions, where their laws end,
-- their effects and shift windows, its groups, its history up to moment k; the same with the whole history
pub record PassedUpto (job starts : List ℕ) (k : ℕ) (plan : Plan) : Type 0 where
  pub clear : (plan_refusal job starts).number ≡ 0
  pub index : plan.index ≡ index_of job
  pub durations : Durations job plan.durations
  pub laws : LawEnds job plan.index.actions.position plan.ends
  pub effects : Effects job plan.effects
  pub shifts : ShiftTable job plan.shifts
  pub groups : GroupTable job plan.groups
  pub history : HistoryUpto job starts k plan.history

abbrev pub Passed : List ℕ → List ℕ → Plan → Type 0
Passed job starts plan = PassedUpto job starts (last_moment job) plan

-- what the rows that were run leave: their refusal, or what a plan has that passes them
abbrev pub JudgedUpto : Refusal → List ℕ → List ℕ → ℕ → Result Plan Refusal → Type 0
JudgedUpto rows job starts k result = RuledBy rows (PassedUpto job starts k) result

abbrev pub Judged : Refusal → List ℕ → List ℕ → Result Plan Refusal → Type 0
Judged rows job starts result = JudgedUpto rows job starts (last_moment job) result

-- a job that passes rows 1 to 5 with its index, and a moment below 64 that no start of the job is after
pub record Judgeable (job starts : List ℕ) (words : Index) (k : ℕ) : Type 0 where
  pub good : (job_refusal job).number ≡ 0
  pub index : words ≡ index_of job
  pub soon : k < 64
  pub past : (i : ℕ) → i < length starts → start_moment (get_or starts i 0) ≤ last_moment job → start_moment (get_or starts i 0) ≤ k
