-- What a reading may use of a plan that passed: document 004's trajectory.
use Rattle.std.specs.Prelude.{ℕ, Bool}

pub record Trajectory : Type 0 where
  -- the last moment n
  pub last : ℕ
  -- action a starts at moment t
  pub starts : ℕ → ℕ → Bool
  -- how long action a lasts
  pub duration : ℕ → ℕ
  -- the value of formula k at moment t: fails, unknown or holds
  pub value : ℕ → ℕ → ℕ
