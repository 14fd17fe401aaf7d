-- What every list of moves from a fresh trial gives, as statements: with one job throughout. Lists have the latest move first.
use Rattle.std.specs.Prelude.{List, ◌++◌, ◌↔◌, ◌≡◌, ℕ, ◌^◌, ◌≤◌, ◌<◌, length}
use Rattle.words.specs.Fields.{fact_room, start_word}
use Rattle.words.specs.Lists.{Each, insert, sorted}
use Rattle.answers.specs.declared.Answer.TheVariants.{Accepted}
use Rattle.job.specs.Parts.{head_word}
use Rattle.job.specs.Refusal.{job_refusal}
use Rattle.facts.specs.Facts.{facts_after, facts_of}
use Rattle.theory.specs.Answers.{plan_refusal, fill_answer}
use Rattle.moves.specs.Trials.{Trial, Move, Start, trial_refusal, move_refusal, after, played, accepted}
use Rattle.moves.specs.Calls.{trial_in, shown_facts, show_answer, called_words}

-- each trial so reached passes the tests
abbrev pub PlayedPasses : Type 0
PlayedPasses = (job : List ℕ) → (job_refusal job).number ≡ 0 → (ms : List Move) → (trial_refusal job (played job ms)).number ≡ 0

-- its starts are the accepted ones, sorted; fill accepts them
abbrev pub PlayedStarts : Type 0
PlayedStarts = (job : List ℕ) (ms : List Move) → (played job ms).starts ≡ sorted (accepted job ms)

abbrev pub FillAccepts : Type 0
FillAccepts =
    (job : List ℕ) → (job_refusal job).number ≡ 0 → (ms : List Move) (room : ℕ) → fact_room (head_word job) ≤ room
    → fill_answer room job (sorted (accepted job ms)) ≡ Accepted (length (facts_of job (sorted (accepted job ms)))) 0

-- the facts shown are those of the filler's list for the accepted starts up to the present moment: what follows them there is of later
-- moments
abbrev pub ShownAreFilled : Type 0
ShownAreFilled =
    (job : List ℕ) → (job_refusal job).number ≡ 0 → (ms : List Move)
    → facts_of job (sorted (accepted job ms)) ≡ shown_facts job (played job ms) ++ facts_after job (sorted (accepted job ms)) (played job ms).moment

-- a refused move changes nothing
abbrev pub RefusedKeeps : Type 0
RefusedKeeps = (job : List ℕ) (T : Trial) (m : Move) → ((move_refusal job T m).number ≡ 0 → ⊥) → after job T m ≡ T

-- later moves take no shown fact back
pub record Extended (first whole : List ℕ) : Type 0 where
  pub rest : List ℕ
  pub same : whole ≡ first ++ rest

abbrev pub ShownStay : Type 0
ShownStay =
    (job : List ℕ) → (job_refusal job).number ≡ 0 → (ms later : List Move)
    → Extended (shown_facts job (played job ms)) (shown_facts job (played job (later ++ ms)))

-- a trial of 32-bit words passes the tests exactly when some list of moves gives it
pub record GivenBy (job : List ℕ) (T : Trial) : Type 0 where
  pub moves : List Move
  pub gives : played job moves ≡ T

abbrev pub GivenExactly : Type 0
GivenExactly =
    (job : List ℕ) → (job_refusal job).number ≡ 0 → (T : Trial) → Each (λ s. s < 2 ^ 32) T.starts
    → (trial_refusal job T).number ≡ 0 ↔ GivenBy job T

-- starting an action, of a number that a start word can have, has the number that check gives the trial's starts with its word put in. A start
-- of this moment again is left out: it is 8 in a trial but 6 in a check, where the word stands twice.
abbrev pub MoveAgrees : Type 0
MoveAgrees =
    (job : List ℕ) → (job_refusal job).number ≡ 0 → (T : Trial) → Each (λ s. s < 2 ^ 32) T.starts → (trial_refusal job T).number ≡ 0
    → (a : ℕ) → a < 64 → Each (λ s. s ≡ start_word T.moment a → ⊥) T.starts
    → (move_refusal job T (Start a)).number ≡ (plan_refusal job (insert (start_word T.moment a) T.starts)).number

-- the calls do the same: after trial_begin and a list of moves, the lent words say the trial that these moves give, and trial_show accepts it
abbrev pub CalledSay : Type 0
CalledSay =
    (job : List ℕ) → (job_refusal job).number ≡ 0 → (words : List ℕ) → 4098 ≤ length words → (ms : List Move)
    → trial_in (called_words job words ms) ≡ played job ms

abbrev pub ShowAccepts : Type 0
ShowAccepts =
    (job : List ℕ) → (job_refusal job).number ≡ 0 → (words : List ℕ) → 4098 ≤ length words → (ms : List Move) (room : ℕ) → fact_room (head_word job) ≤ room
    → show_answer room job (called_words job words ms) ≡ Accepted (length (shown_facts job (played job ms))) 0
