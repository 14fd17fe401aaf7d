-- Between functions: tables by pairs of members, at (i * 4 + j) * 64 + x for the members i and j; what one member keeps where another begins.
use Rattle.std.specs.Prelude.{ℕ, ◌+◌, ◌*◌, ◌≤◌, List, get_or}
use Rattle.bitset.specs.Code.Members.{In}
use Rattle.keeping.specs.declared.Choice.{Choice}
use Rattle.keeping.specs.declared.Tables.{Tables}

abbrev pub pair_at : List ℕ → ℕ → ℕ → ℕ → ℕ
pair_at t i j x = get_or t ((i * 4 + j) * 64 + x) 0

-- what member j keeps where member i begins at x, within a window: each begin y with an end e that the tables have, and no begin more
pub record Narrows (t : Tables) (i x j window : ℕ) (old new : Choice) : Type 0 where
  pub kept : (y e : ℕ) → In old.begins y → In (pair_at t.goes i j x) y → In window y → In old.ends e → In (pair_at t.ends j i x) e → In window e
      → ((z : ℕ) → In window z → z ≤ y → In (get_or t.later (j * 64 + z) 0) e) → In new.begins y × In new.ends e
  pub fewer : (y : ℕ) → In new.begins y → In old.begins y
