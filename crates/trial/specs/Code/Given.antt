-- Between functions: a trial that was judged, that has a start more, and what the rows of a move give.
use Rattle.std.specs.Prelude.{Bool, List, [], ◌∷◌, ◌≡◌, ℕ, ◌+◌, ◌<◌, length, take, Result}
use Rattle.words.specs.Fields.{start_word}
use Rattle.words.specs.Lists.{Pairs, insert}
use Rattle.answers.specs.declared.Refusal.{Refusal}
use Rattle.answers.specs.Rows.{first_row}
use Rattle.job.specs.Refusal.{job_refusal}
use Rattle.theory.specs.declared.Plan.{Plan}
use Rattle.theory.specs.Answers.{buffer_refusal, fact_room_refusal}
use Rattle.moves.specs.Trials as trials
use Rattle.moves.specs.Trials.{Start, On, outside, trial_refusal, move_refusal}
use Rattle.applicable.specs.Code.Given.{Present}
use Rattle.trial.specs.declared.Trial.{Trial}
use Rattle.trial.specs.Stepped.{trial_of, Sized}
use Rattle.answers.specs.Code.Ruled.{RuledBy}

-- whether a trial is outside its bounds; the array has its length in any case
pub record Measured (job : List ℕ) (t : Trial) (r : Bool) : Type 0 where
  pub bounds : r ≡ outside job (trial_of t)
  pub size : length t.starts ≡ 4096

-- the row of the trial that fits; or of a trial that they pass its plan
abbrev pub TrialJudged : List ℕ → Trial → Result Plan Refusal → Type 0
TrialJudged job t result =
    RuledBy (trial_refusal job (trial_of t)) (λ plan. Present job (take t.length t.starts) t.moment plan × Sized t) result

-- a trial with room for a start more
pub record Extendable (t : Trial) : Type 0 where
  pub sized : Sized t
  pub room : t.length < 4096
  pub order : Pairs (λ s s'. s < s') (take t.length t.starts)

-- with the word w put in
pub record WithWord (t : Trial) (w : ℕ) (r : Trial) : Type 0 where
  pub trial : trial_of r ≡ record { moment = t.moment; starts = insert w (take t.length t.starts) }
  pub sized : Sized r

-- the row on a move that fits; or the word of the new start, and the next moment
abbrev pub NewStart : List ℕ → Trial → ℕ → Result ℕ Refusal → Type 0
NewStart job t a result = RuledBy (move_refusal job (trial_of t) (Start a)) (λ w. (w ≡ start_word t.moment a) × Extendable t) result

pub record Next (t : Trial) (u : ℕ) : Type 0 where
  pub moment : u ≡ t.moment + 1
  pub soon : u < 64
  pub sized : Sized t

abbrev pub NextMoment : List ℕ → Trial → Result ℕ Refusal → Type 0
NextMoment job t result = RuledBy (move_refusal job (trial_of t) On) (Next t) result

-- the rows on showing, less the one on the number of words
abbrev pub shown_refusal : ℕ → List ℕ → trials.Trial → Refusal
shown_refusal room job T = first_row (buffer_refusal room ∷ job_refusal job ∷ fact_room_refusal room job ∷ trial_refusal job T ∷ [])
