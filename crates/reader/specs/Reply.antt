-- What planread prints for the bytes of its two files.
use Rattle.std.specs.Prelude.{Bool, true, false, ◌&&◌, List, [], ◌∷◌, ◌≡◌, ℕ, length, replicate}
use Rattle.answers.specs.declared.Answer.{Answer}
use Rattle.finder.specs.Find.{Outcome}
use Rattle.text.specs.Files.{sized, starts_of, given_facts, words_of}
use Rattle.text.specs.Report.{report_of}

-- "bad file" and a line end
abbrev pub bad_file : List ℕ
bad_file = 98 ∷ 97 ∷ 100 ∷ 32 ∷ 102 ∷ 105 ∷ 108 ∷ 101 ∷ 10 ∷ []

abbrev pub good_files : List ℕ → List ℕ → Bool
good_files job plan = sized (length job) && sized (length plan)

-- the most bytes that are printed: a line of at most 100, and a line of nine for each of 4,096 words
abbrev pub text_room : ℕ
text_room = 36964

-- the buffer that find is lent: 4,096 words
unfoldable pub lent : List ℕ
lent = replicate 4096 0

-- the text is that of an outcome of find, with the words of a job and of a plan
pub record Answered (job plan text : List ℕ) : Type 0 where
  pub answer : Answer
  pub after : List ℕ
  pub outcome : Outcome job (starts_of plan) (given_facts plan) lent answer after
  pub reported : text ≡ report_of answer after

-- the text for the bytes of the two files
pub record Reply (job plan text : List ℕ) : Type 0 where
  pub bad : good_files job plan ≡ false → text ≡ bad_file
  pub good : good_files job plan ≡ true → Answered (words_of job) (words_of plan) text
