-- Between functions: what the tests of a new start ask and give.
use Rattle.std.specs.Prelude.{Result, ⊤, List, ℕ, ◌≤◌, ◌<◌, length, take, drop}
use Rattle.words.specs.Fields.{start_moment, start_action}
use Rattle.words.specs.Lists.{Each}
use Rattle.job.specs.Parts.{actions, last_moment}
use Rattle.answers.specs.declared.Refusal.{Refusal}
use Rattle.answers.specs.Rows.{first_row}
use Rattle.starts.specs.Code.Given.{Tabled}
use Rattle.theory.specs.declared.Plan.{Plan}
use Rattle.theory.specs.Code.Judged.{PassedUpto}
use Rattle.moves.specs.Trials.{new_start_rows, start_refusal}
use Rattle.answers.specs.Code.Ruled.{RuledBy}

-- a start of the job, not later than moment u, and an action of the job
pub record Facing (job durations effects : List ℕ) (s u a : ℕ) : Type 0 where
  pub tables : Tabled job durations effects
  pub action : start_action s < actions job
  pub past : start_moment s ≤ u
  pub present : u ≤ last_moment job
  pub new : a < actions job

-- the same of all starts of a plan
pub record FacingAll (job durations effects starts : List ℕ) (u a : ℕ) : Type 0 where
  pub tables : Tabled job durations effects
  pub action : Each (λ s. start_action s < actions job) starts
  pub past : Each (λ s. start_moment s ≤ u) starts
  pub present : u ≤ last_moment job
  pub new : a < actions job

-- a plan that passes the rows of its job and its starts, with its history up to its present moment u
pub record Present (job starts : List ℕ) (u : ℕ) (plan : Plan) : Type 0 where
  pub passed : PassedUpto job starts u plan
  pub present : u ≤ last_moment job
  pub past : Each (λ s. start_moment s ≤ u) starts

-- rows 8, 9, 15 and 16 of action a started at moment u, which look at no start but those in hand
abbrev pub held_refusal : List ℕ → List ℕ → ℕ → ℕ → Refusal
held_refusal job starts u a =
    first_row (take 4 (drop 2 (new_start_rows job (record { moment = u; starts = starts }) a)))

-- its refusal by rows 6 to 10, 15 and 16; or none, and room for it
abbrev pub StartTested : List ℕ → List ℕ → ℕ → ℕ → Result ⊤ Refusal → Type 0
StartTested job starts u a result = RuledBy (start_refusal job (record { moment = u; starts = starts }) a) (λ x. length starts < 4096) result
