-- Between functions: how the bounds of begins by ends are filled. Row p is that of a pair of members: the later ends stand at p * 64, the sooner
-- ones 1024 further.
use Rattle.std.specs.Prelude.{ℕ, ◌+◌, ◌*◌, ◌≤◌, ◌<◌, ◌≡◌, List, get_or}
use Rattle.bitset.specs.Code.Members.{In}

-- each entry keeps its members, and the entries from 2048 on are as they were
pub record Grows (old new : List ℕ) : Type 0 where
  pub kept : (q y : ℕ) → In (get_or old q 0) y → In (get_or new q 0) y
  pub words : (q : ℕ) → 2048 ≤ q → get_or new q 0 ≡ get_or old q 0

-- begin y stands in row p at some end that is not before e, and at some end that is not after e
pub record EndMarked (bounds : List ℕ) (p y e : ℕ) : Type 0 where
  pub high : ℕ
  pub low : ℕ
  pub above : e ≤ high
  pub moment : high < 64
  pub below : low ≤ e
  pub late : In (get_or bounds (p * 64 + high) 0) y
  pub soon : In (get_or bounds (1024 + p * 64 + low) 0) y
