-- A procedure (004's program): its nodes, and the members and conditions of its task sets.
use Rattle.std.specs.Prelude.{ℕ, List}

pub record Procedure : Type 0 where
  -- how many nodes there are; the last is the root
  pub count : ℕ
  -- the word of node p, whose fields are form, X, Y, M, N
  pub node : ℕ → ℕ
  -- of the task set at node p: the nodes of its members, and its condition words
  pub members : ℕ → List ℕ
  pub conditions : ℕ → List ℕ
