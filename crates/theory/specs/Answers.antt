-- The answers of check and fill for any lists of words, row by row, and what fill leaves in the lent buffer.
use Rattle.std.specs.Prelude.{cond, List, [], ◌∷◌, ◌++◌, ◌≡◌, ℕ, suc, eqb, ltb, length, take, drop}
use Rattle.answers.specs.declared.Refusal.{Refusal}
use Rattle.answers.specs.declared.Answer.{Answer}
use Rattle.answers.specs.declared.Answer.TheVariants.{Accepted, Refused}
use Rattle.answers.specs.Rows.{refusal, passed, row, first_row}
use Rattle.answers.specs.Packed.{answer_of}
use Rattle.words.specs.Fields.{fact_room}
use Rattle.job.specs.Parts.{head_word}
use Rattle.job.specs.Refusal.{job_refusal}
use Rattle.facts.specs.Facts.{facts_of}
use Rattle.starts.specs.Rows.{starts_refusal}

-- row 12: the lent buffer is shorter than 4,096 words; again, after the job's rows and where facts are written: it is shorter than the facts
-- of the job's plans may be
abbrev pub buffer_refusal : ℕ → Refusal
buffer_refusal room = row (ltb room 4096) 12 0

abbrev pub fact_room_refusal : ℕ → List ℕ → Refusal
fact_room_refusal room job = row (ltb room (fact_room (head_word job))) 12 0

-- row 11, on what is left of the two lists at position i: there they differ, or one of them ends
unfoldable pub facts_refusal : List ℕ → List ℕ → ℕ → Refusal
facts_refusal [] [] i = passed
facts_refusal [] (b ∷ ys) i = refusal 11 i
facts_refusal (a ∷ xs) [] i = refusal 11 i
facts_refusal (a ∷ xs) (b ∷ ys) i = cond (eqb a b) (facts_refusal xs ys (suc i)) (refusal 11 i)

-- the rows of a plan: those of its job, then those of its starts; check adds row 11, and fill has row 12 before each of the two
abbrev pub plan_rows : List ℕ → List ℕ → List Refusal
plan_rows job starts = job_refusal job ∷ starts_refusal job starts ∷ []

abbrev pub check_rows : List ℕ → List ℕ → List ℕ → List Refusal
check_rows job starts facts = plan_rows job starts ++ (facts_refusal facts (facts_of job starts) 0 ∷ [])

abbrev pub fill_rows : ℕ → List ℕ → List ℕ → List Refusal
fill_rows room job starts = buffer_refusal room ∷ job_refusal job ∷ fact_room_refusal room job ∷ starts_refusal job starts ∷ []

unfoldable pub plan_refusal : List ℕ → List ℕ → Refusal
plan_refusal job starts = first_row (plan_rows job starts)

unfoldable pub check_refusal : List ℕ → List ℕ → List ℕ → Refusal
check_refusal job starts facts = first_row (check_rows job starts facts)

unfoldable pub fill_refusal : ℕ → List ℕ → List ℕ → Refusal
fill_refusal room job starts = first_row (fill_rows room job starts)

-- a plan passes where no row of check fits
abbrev pub Passes : List ℕ → List ℕ → List ℕ → Type 0
Passes job starts facts = (check_refusal job starts facts).number ≡ 0

-- a success of check has length 0, one of fill the number of facts
unfoldable pub check_answer : List ℕ → List ℕ → List ℕ → Answer
check_answer job starts facts = answer_of (check_refusal job starts facts) 0 0

unfoldable pub fill_answer : ℕ → List ℕ → List ℕ → Answer
fill_answer room job starts = answer_of (fill_refusal room job starts) (length (facts_of job starts)) 0

-- the buffer after a call with that answer: its first words written, the rest as it was; a refusal changes no word
abbrev pub written : Answer → List ℕ → List ℕ → List ℕ
written (Accepted l c) words buffer = take l words ++ drop l buffer
written (Refused n p c) words buffer = buffer
