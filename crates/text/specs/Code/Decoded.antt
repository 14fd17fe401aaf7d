-- Between functions: the words of bytes, at the front of a buffer.
use Rattle.std.specs.Prelude.{ℕ, ◌≡◌, List, take, drop}
use Rattle.io.specs.Counts.{IsPrefixLen}
use Rattle.text.specs.Files.{words_of}

-- out is old with the words of bytes over its first r words
pub record Decoded (bytes old out : List ℕ) (r : ℕ) : Type 0 where
  pub counts : IsPrefixLen r out
  pub words : take r out ≡ words_of bytes
  pub rest : drop r out ≡ drop r old
