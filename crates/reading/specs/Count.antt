-- How many triples of a node, a begin and an end have a reading: the length of a list of distinct triples, which are exactly these.
use Rattle.std.specs.Prelude.{ℕ, ◌≤◌, ◌<◌, ◌≡◌, ◌↔◌, length}
use mathlib.Core.List.{List, [], ◌∷◌, Memᴰ}
use Rattle.model.specs.Trajectory.{Trajectory}
use Rattle.model.specs.Procedure.{Procedure}
use Rattle.model.specs.declared.Triple.{Triple}
use Rattle.reading.specs.Reading.{HasReading}

-- no element of the list stands in it twice
pub data Distinct {A : Type 0} : List A → Type 0 where
  none : Distinct []
  more : {x : A} {xs : List A} → (Memᴰ x xs → ⊥) → Distinct xs → Distinct (x ∷ xs)

-- the triple is one of a node of the procedure and moments b ≤ e ≤ n, and has a reading
abbrev pub Read : Procedure → Trajectory → Triple → Type 0
Read P T s = (s.node < P.count) × (s.begin ≤ s.end) × HasReading P T s.node s.begin s.end

-- r triples have a reading
pub record Counted (P : Procedure) (T : Trajectory) (r : ℕ) : Type 0 where
  pub triples : List Triple
  pub distinct : Distinct triples
  pub exact : (s : Triple) → Memᴰ s triples ↔ Read P T s
  pub many : length triples ≡ r

-- The count is one number: two counts for the same procedure and trajectory are equal. `counted_once` (proofs/Counts.antt) shows it.
abbrev pub CountedOnce : Type 0
CountedOnce = (P : Procedure) (T : Trajectory) (a b : ℕ) → Counted P T a → Counted P T b → a ≡ b
