-- Files of words: which sizes are good, the words of their bytes, and the starts and facts of a plan.
use Rattle.std.specs.Prelude.{ℕ, ◌+◌, ◌*◌, ◌%◌, Bool, ◌&&◌, List, [], ◌∷◌, eqb, leb}
use Rattle.words.specs.Fields.{of_kind}
use Rattle.words.specs.Scan.{take_while, drop_while}

-- at most 32 KiB, and whole words
abbrev pub sized : ℕ → Bool
sized n = leb n 32768 && eqb (n % 4) 0

abbrev pub is_start_word : ℕ → Bool
is_start_word = of_kind 9

-- the leading kind 9 words of a plan are its starts, the rest its facts
abbrev pub starts_of : List ℕ → List ℕ
starts_of plan = take_while is_start_word plan

abbrev pub given_facts : List ℕ → List ℕ
given_facts plan = drop_while is_start_word plan

-- the word of four bytes, the lowest first
abbrev pub word_of : ℕ → ℕ → ℕ → ℕ → ℕ
word_of a b c d = a + b * 256 + c * 65536 + d * 16777216

-- the words of a list of bytes; up to three bytes at the end that make no word are left out
unfoldable pub words_of : List ℕ → List ℕ
words_of [] = []
words_of (a ∷ []) = []
words_of (a ∷ b ∷ []) = []
words_of (a ∷ b ∷ c ∷ []) = []
words_of (a ∷ b ∷ c ∷ d ∷ rest) = word_of a b c d ∷ words_of rest
