-- Tests put together, and the number of a test.
use Rattle.std.specs.Prelude.{Bool, true, false, not, ◌&&◌, ◌||◌, ℕ, leb}

abbrev pub implies : Bool → Bool → Bool
implies a b = not a || b

-- 1 for a test that holds, and else 0
abbrev pub indicator : Bool → ℕ
indicator true = 1
indicator false = 0

-- low ≤ n ≤ high
abbrev pub within : ℕ → ℕ → ℕ → Bool
within low high n = leb low n && leb n high
