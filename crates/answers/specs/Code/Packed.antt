-- Between functions: the range of an answer: its fields fit their bits.
use Rattle.std.specs.Prelude.{ℕ, ◌^◌, ◌<◌}
use Rattle.answers.specs.declared.Answer.{Answer}
use Rattle.answers.specs.Packed.{number_of, position_of, length_of, count_of}

-- each field fits its bits: the range of an answer, said here once
pub record Fits (n p l c : ℕ) : Type 0 where
  pub number : n < 2 ^ 8
  pub position : p < 2 ^ 16
  pub length : l < 2 ^ 16
  pub count : c < 2 ^ 24

abbrev pub InRange : Answer → Type 0
InRange a = Fits (number_of a) (position_of a) (length_of a) (count_of a)
