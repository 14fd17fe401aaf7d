-- What find hands back and leaves in the lent buffer: the packed number of an answer that is an outcome of the lists, with that buffer. The
-- answer's fields read back from the number, and no reading has more than 4,032 words.
use Rattle.std.specs.Prelude.{List, ◌≡◌, ℕ, ◌≤◌}
use Rattle.answers.specs.declared.Answer.{Answer}
use Rattle.answers.specs.Packed.{length_of, packed, Unpacked}
use Rattle.finder.specs.Find.{Outcome}

pub record Promised (job starts facts before : List ℕ) (r : ℕ) (after : List ℕ) : Type 0 where
  pub answer : Answer
  pub number : r ≡ packed answer
  pub fields : Unpacked r answer
  pub outcome : Outcome job starts facts before answer after
  pub few : length_of answer ≤ 4032
