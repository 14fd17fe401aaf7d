-- The text that planread prints for an answer, as ASCII codes; every line ends with one newline.
use Rattle.std.specs.Prelude.{cond, ℕ, zero, suc, ◌/◌, ◌%◌, List, [], ◌∷◌, ◌++◌, ltb, take}
use Rattle.answers.specs.declared.Answer.{Answer}
use Rattle.answers.specs.declared.Answer.TheVariants.{Accepted, Refused}
use Rattle.io.specs.Digits.{hex_digit_ascii, last_digits}

-- the decimal digits of n, where it has at most f
unfoldable pub decimal_in : ℕ → ℕ → List ℕ
decimal_in zero n = []
decimal_in (suc f) n = cond (ltb n 10) (hex_digit_ascii n ∷ []) (decimal_in f (n / 10) ++ (hex_digit_ascii (n % 10) ∷ []))

-- a 64-bit number in decimal
unfoldable pub decimal_of : ℕ → List ℕ
decimal_of n = decimal_in 20 n

-- a word as eight lower-case hexadecimal digits, and a line end
unfoldable pub hex_line : ℕ → List ℕ
hex_line w = last_digits 16 8 w ++ (10 ∷ [])

unfoldable pub hex_lines : List ℕ → List ℕ
hex_lines [] = []
hex_lines (w ∷ ws) = hex_line w ++ hex_lines ws

-- "read ", "refused ", " at ", " triples ", a line end
abbrev pub read : List ℕ
read = 114 ∷ 101 ∷ 97 ∷ 100 ∷ 32 ∷ []

abbrev pub refused : List ℕ
refused = 114 ∷ 101 ∷ 102 ∷ 117 ∷ 115 ∷ 101 ∷ 100 ∷ 32 ∷ []

abbrev pub at : List ℕ
at = 32 ∷ 97 ∷ 116 ∷ 32 ∷ []

abbrev pub triples : List ℕ
triples = 32 ∷ 116 ∷ 114 ∷ 105 ∷ 112 ∷ 108 ∷ 101 ∷ 115 ∷ 32 ∷ []

abbrev pub newline : List ℕ
newline = 10 ∷ []

-- a name and a number
abbrev pub field_text : List ℕ → ℕ → List ℕ
field_text name n = name ++ decimal_of n

-- the reading is the first l words
unfoldable pub accepted_text : ℕ → ℕ → List ℕ → List ℕ
accepted_text l c words = field_text read l ++ (field_text triples c ++ (newline ++ hex_lines (take l words)))

unfoldable pub refused_text : ℕ → ℕ → ℕ → List ℕ
refused_text n p c = field_text refused n ++ (field_text at p ++ (field_text triples c ++ newline))

abbrev pub report_of : Answer → List ℕ → List ℕ
report_of (Accepted l c) words = accepted_text l c words
report_of (Refused n p c) words = refused_text n p c
