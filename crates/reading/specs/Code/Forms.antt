-- Between functions: what the code asks of a procedure and a trajectory; no part of the rules of reading.
use Rattle.std.specs.Prelude.{ℕ, ◌<◌, ◌≤◌, ◌≡◌, List, get_or}
use Rattle.model.specs.Trajectory.{Trajectory}
use Rattle.model.specs.Procedure.{Procedure}
use Rattle.model.specs.Forms.{Set, form_at}
use Rattle.model.specs.Code.Forms.{children, Below}
use Rattle.sets.specs.Code.Set.{Formed}
use Rattle.reading.specs.Forms.{set_at}

-- node p's children have lower numbers, and its task set is one
pub record NodeReadable (P : Procedure) (T : Trajectory) (p : ℕ) : Type 0 where
  pub lower : Below p (children P p)
  pub set : form_at P p ≡ Set → Formed (set_at P T p)

-- the reader may run: at most 64 nodes, each formed, whose words stand at these places of a list of that size, and moments below 64
pub record Readable (P : Procedure) (T : Trajectory) (size : ℕ) (places : List ℕ) : Type 0 where
  pub few : P.count ≤ 64
  pub moments : T.last < 64
  pub inside : (p : ℕ) → p < P.count → get_or places p 0 < size
  pub formed : (p : ℕ) → p < P.count → NodeReadable P T p
