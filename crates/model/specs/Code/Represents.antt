-- Between functions: when two procedures and trajectories agree wherever a reading looks, and when the arrays represent a procedure and a
-- trajectory.
use Rattle.std.specs.Prelude.{ℕ, ◌<◌, ◌≤◌, true, ◌≡◌, List, length, get_or}
use Rattle.words.specs.Fields.{condition_formula}
use Rattle.model.specs.Trajectory.{Trajectory}
use Rattle.model.specs.Procedure.{Procedure}
use Rattle.model.specs.Forms.{Form, Act, Test, Sequence, Choice, If, While, StartWindow, EndWindow, Set, Reserved, form_at, field_x, condition_form}
use Rattle.model.specs.Code.Forms.{asks_formula}
use Rattle.model.specs.Code.Arrays.{procedure_in, trajectory_in}
use Rattle.model.specs.declared.Arrays.{Arrays}

-- node p asks for formula k, by its own X or by a condition
abbrev pub Asks : Procedure → Form → ℕ → ℕ → Type 0
Asks P Act p k = ⊥
Asks P Test p k = k ≡ field_x P p
Asks P Sequence p k = ⊥
Asks P Choice p k = ⊥
Asks P If p k = k ≡ field_x P p
Asks P While p k = k ≡ field_x P p
Asks P StartWindow p k = ⊥
Asks P EndWindow p k = ⊥
Asks P Set p k =
    (c : ℕ) × (c < length (P.conditions p))
    × (asks_formula (condition_form (get_or (P.conditions p) c 0)) ≡ true) × (k ≡ condition_formula (get_or (P.conditions p) c 0))
Asks P Reserved p k = ⊥

-- they agree on each node, on all starts, and on the durations and values that the nodes ask for, up to the last moment
pub record Agrees (P : Procedure) (T : Trajectory) (P' : Procedure) (T' : Trajectory) : Type 0 where
  pub count : P'.count ≡ P.count
  pub last : T'.last ≡ T.last
  pub node : (p : ℕ) → p < P.count → P'.node p ≡ P.node p
  pub members : (p : ℕ) → p < P.count → P'.members p ≡ P.members p
  pub conditions : (p : ℕ) → p < P.count → P'.conditions p ≡ P.conditions p
  pub starts : (a t : ℕ) → T'.starts a t ≡ T.starts a t
  pub durations : (p : ℕ) → p < P.count → form_at P p ≡ Act → T'.duration (field_x P p) ≡ T.duration (field_x P p)
  pub values : (p k t : ℕ) → p < P.count → Asks P (form_at P p) p k → t ≤ T.last → T'.value k t ≡ T.value k t

-- the arrays, over the words of a job, represent P and T
pub record Represents (words : List ℕ) (arrays : Arrays) (P : Procedure) (T : Trajectory) : Type 0 where
  pub inside : (p : ℕ) → p < arrays.count → get_or arrays.places p 0 < length words
  pub agrees : Agrees (procedure_in words arrays) (trajectory_in arrays) P T
