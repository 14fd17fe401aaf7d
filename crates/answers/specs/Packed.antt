-- What the 64-bit number of an answer is.
use Rattle.std.specs.Prelude.{cond, ℕ, ◌+◌, ◌*◌, ◌/◌, ◌%◌, ◌^◌, ◌<◌, ◌≡◌, eqb}
use Rattle.answers.specs.declared.Refusal.{Refusal}
use Rattle.answers.specs.declared.Answer.{Answer}
use Rattle.answers.specs.declared.Answer.TheVariants.{Accepted, Refused}

-- the answer of a call whose rows give r: r, with a count of 0; or, where no row fits, success with a length and a count
abbrev pub answer_of : Refusal → ℕ → ℕ → Answer
answer_of r length count = cond (eqb r.number 0) (Accepted length count) (Refused r.number r.position 0)

-- the four fields of an answer: 0 where its case has none
abbrev pub number_of : Answer → ℕ
number_of (Accepted l c) = 0
number_of (Refused n p c) = n

abbrev pub position_of : Answer → ℕ
position_of (Accepted l c) = 0
position_of (Refused n p c) = p

abbrev pub length_of : Answer → ℕ
length_of (Accepted l c) = l
length_of (Refused n p c) = 0

abbrev pub count_of : Answer → ℕ
count_of (Accepted l c) = c
count_of (Refused n p c) = c

-- the number in bits 63..56, the position in 55..40, the length in 39..24, the count in 23..0
abbrev pub fields : ℕ → ℕ → ℕ → ℕ → ℕ
fields n p l c = n * 2 ^ 56 + p * 2 ^ 40 + l * 2 ^ 24 + c

abbrev pub packed : Answer → ℕ
packed a = fields (number_of a) (position_of a) (length_of a) (count_of a)

-- the number r has the four fields of a, as the C header reads them, and nothing else
pub record Unpacked (r : ℕ) (a : Answer) : Type 0 where
  pub number : r / 2 ^ 56 ≡ number_of a
  pub position : r / 2 ^ 40 % 2 ^ 16 ≡ position_of a
  pub length : r / 2 ^ 24 % 2 ^ 16 ≡ length_of a
  pub count : r % 2 ^ 24 ≡ count_of a
  pub fits : r < 2 ^ 64
