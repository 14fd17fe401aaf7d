-- What it is to cover: members that begin at bs i and end at es i.
use Rattle.std.specs.Prelude.{ℕ, ◌≤◌, ◌<◌}

-- each moment of b..e lies in some member, ends included
abbrev pub Covers : ℕ → (ℕ → ℕ) → (ℕ → ℕ) → ℕ → ℕ → Type 0
Covers count bs es b e = (t : ℕ) → b ≤ t → t ≤ e → (i : ℕ) × (i < count) × (bs i ≤ t) × (t ≤ es i)
