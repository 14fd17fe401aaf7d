-- The answers of the four calls on the words of a trial, and what each leaves in the lent words and in the lent buffer.
use Rattle.std.specs.Prelude.{List, [], ◌∷◌, ◌++◌, ℕ, ltb, length, get_or, take, drop}
use Rattle.words.specs.Lists.{first_words}
use Rattle.answers.specs.declared.Refusal.{Refusal}
use Rattle.answers.specs.declared.Answer.{Answer}
use Rattle.answers.specs.declared.Answer.TheVariants.{Accepted, Refused}
use Rattle.answers.specs.Rows.{row, first_row}
use Rattle.answers.specs.Packed.{answer_of}
use Rattle.job.specs.Refusal.{job_refusal}
use Rattle.facts.specs.Facts.{facts_upto}
use Rattle.theory.specs.Answers.{buffer_refusal, fact_room_refusal}
use Rattle.moves.specs.Trials.{Trial, Move, fresh, trial_refusal, move_refusal, after}

-- a trial's words: its moment, the number of its starts, the starts; the trial that the first 4,098 words say, where those that are not
-- there count as 0
abbrev pub trial_words : Trial → List ℕ
trial_words T = T.moment ∷ length T.starts ∷ T.starts

abbrev pub trial_in : List ℕ → Trial
trial_in words = record { moment = get_or words 0 0; starts = first_words (get_or words 1 0) (take 4096 (drop 2 words)) }

-- fewer than 4,098 words are a trial that no moves could give
abbrev pub trial_room_refusal : ℕ → Refusal
trial_room_refusal room = row (ltb room 4098) 14 0

-- beginning, a move, showing: each call's rows from the top. Beginning and moves answer as check does, showing as fill does.
unfoldable pub begin_answer : ℕ → List ℕ → Answer
begin_answer room job = answer_of (first_row (job_refusal job ∷ trial_room_refusal room ∷ [])) 0 0

unfoldable pub move_answer : List ℕ → List ℕ → Move → Answer
move_answer job words m = answer_of (first_row (job_refusal job ∷ trial_room_refusal (length words) ∷ move_refusal job (trial_in words) m ∷ [])) 0 0

-- the facts that a trial shows: those of moments 0 to the present one
abbrev pub shown_facts : List ℕ → Trial → List ℕ
shown_facts job T = facts_upto job T.starts T.moment

-- the answer of showing T: the rows on the buffer and the job, then those given, on the trial; and how many facts it shows
abbrev pub showing : ℕ → List ℕ → Trial → List Refusal → Answer
showing room job T rows =
    answer_of (first_row (buffer_refusal room ∷ job_refusal job ∷ fact_room_refusal room job ∷ rows)) (length (shown_facts job T)) 0

-- showing the trial that the words say
unfoldable pub show_answer : ℕ → List ℕ → List ℕ → Answer
show_answer room job words = showing room job (trial_in words) (trial_room_refusal (length words) ∷ trial_refusal job (trial_in words) ∷ [])

-- the words after a call with that answer that hands back T: its words in front, the rest as it was; a refusal changes no word
abbrev pub handed_back : Answer → Trial → List ℕ → List ℕ
handed_back (Accepted l c) T words = trial_words T ++ drop (length (trial_words T)) words
handed_back (Refused n p c) T words = words

-- the lent words after trial_begin and then a list of moves, the latest first, by what the calls hand back
unfoldable pub called_words : List ℕ → List ℕ → List Move → List ℕ
called_words job words [] = handed_back (begin_answer (length words) job) fresh words
called_words job words (m ∷ ms) =
    let before = called_words job words ms in handed_back (move_answer job before m) (after job (trial_in before) m) before
