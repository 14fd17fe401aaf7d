-- What the methods of the struct Trial hand back.
use Rattle.std.specs.Prelude.{List, [], ◌∷◌, ◌≡◌, ℕ, ◌≤◌, ◌<◌, length}
use Rattle.words.specs.Lists.{first_words}
use Rattle.answers.specs.declared.Answer.{Answer}
use Rattle.moves.specs.Trials as trials
use Rattle.moves.specs.Trials.{Move, trial_refusal, move_refusal, after}
use Rattle.moves.specs.Calls.{showing}
use Rattle.trial.specs.declared.Trial.{Trial}
use Rattle.trial.specs.declared.Moved.{Moved}

-- the trial that the struct stands for: its first `length` words, and zeros where the array has fewer; the words after them say nothing
abbrev pub trial_of : Trial → trials.Trial
trial_of t = record { moment = t.moment; starts = first_words t.length t.starts }

-- a move: its refusal; the trial after it; of a refused move the struct as it was
pub record Stepped (job : List ℕ) (before : Trial) (m : Move) (r : Moved) : Type 0 where
  pub refusal : r.refusal ≡ move_refusal job (trial_of before) m
  pub trial : trial_of r.trial ≡ after job (trial_of before) m
  pub same : (r.refusal.number ≡ 0 → ⊥) → r.trial ≡ before

-- a struct whose starts stand in its array, at a moment that a job can have; an accepted move, and beginning a well-formed job, hand back one
pub record Sized (t : Trial) : Type 0 where
  pub size : length t.starts ≡ 4096
  pub few : t.length ≤ 4096
  pub soon : t.moment < 64

abbrev pub Storable : Moved → Type 0
Storable r = r.refusal.number ≡ 0 → Sized r.trial

-- showing: as the call does, less its row on the number of words
unfoldable pub show_answer_of : ℕ → List ℕ → trials.Trial → Answer
show_answer_of room job T = showing room job T (trial_refusal job T ∷ [])
