-- What a good size gives. Assumes nothing.
use Prim.Native.Nat.{ℕ, ◌%◌, ◌≤◌}
use mathlib.Core.Path.{◌≡◌}
use mathlib.Core.Bool.{true}
use borrow.Author.Tests.{leb-true}
use lib.Dec.{eqb, leb}
use Rattle.words.proofs.Choices.{both_true}
use Rattle.text.specs.Files.{sized}

pub sized-most : (n : ℕ) → sized n ≡ true → n ≤ 32768
sized-most n h = leb-true n 32768 (both_true (leb n 32768) (eqb (n % 4) 0) h).0
