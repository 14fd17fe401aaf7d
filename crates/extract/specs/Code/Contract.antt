-- Between functions: what the writers of a reading ask and promise.
use Rattle.std.specs.Prelude.{ℕ, ◌+◌, ◌-◌, ◌<◌, ◌≤◌, ◌≡◌, List, ◌∷◌, ◌++◌, length, drop}
use lib.Seq.{sets}
use Rattle.words.specs.Fields.{reading_word}
use Rattle.model.specs.Trajectory.{Trajectory}
use Rattle.model.specs.Procedure.{Procedure}
use Rattle.model.specs.Code.Table.{InTable}
use Rattle.model.specs.declared.Triple.{Triple}
use Rattle.reading.specs.Reading.{whole, Reading}
use Rattle.model.specs.Code.Forms.{NamedOnce}
use Rattle.lengths.specs.Code.Bound.{length_bound}
use Rattle.extract.specs.declared.Source.{Source}
use Rattle.extract.specs.Code.Source.{Unseen, procedure_by, trajectory_by}
use Rattle.extract.specs.Code.Parts.{Prepared}

-- there is room from `at` on for every list of words that R allows
abbrev pub Room : (List ℕ → Type 0) → ℕ → ℕ → Type 0
Room R at size = (ws : List ℕ) → R ws → at + length ws ≤ size

-- the words of a reading of the triple
abbrev pub Full : Procedure → Trajectory → Triple → List ℕ → Type 0
Full P T t ws = Reading P T whole t.node t.begin t.end ws

-- the words after the node's own word, which with it are a reading of the triple
abbrev pub Rest : Procedure → Trajectory → Triple → List ℕ → Type 0
Rest P T t ws = Full P T t (reading_word t.node t.begin t.end ∷ ws)

-- what a writer of a triple asks: the table says that it can be read, and from `at` on there is room for whatever R allows, Full or Rest
pub record Writable (R : Procedure → Trajectory → Triple → List ℕ → Type 0)
    (P : Procedure) (T : Trajectory) (started job : ℕ) (places table : List ℕ) (t : Triple) (at size : ℕ) : Type 0 where
  pub prepared : Prepared P T started job places table
  pub known : t.node < P.count
  pub within : t.begin ≤ T.last
  pub found : InTable table t.node t.begin t.end
  pub room : Room (R P T t) at size

-- the same of the arrays, with what the writer does not see
abbrev pub WritableBy : (Procedure → Trajectory → Triple → List ℕ → Type 0) → Source → Triple → ℕ → ℕ → Unseen → Type 0
WritableBy R s t at size u = Writable R (procedure_by s u) (trajectory_by s u) s.started (length s.words.now) s.arrays.now.places s.table.now t at size

-- words that R allows stand in the buffer from `at` up to `end`, and all else is as it was
-- (`sets` stores a list's elements one after the other; `lib.Seq.sets-eq` gives it as take at .. ++ words ++ drop end ..)
pub record ReadingWritten (R : List ℕ → Type 0) (before : List ℕ) (at : ℕ) (after : List ℕ) (end : ℕ) : Type 0 where
  pub words : List ℕ
  pub allowed : R words
  pub ended : end ≡ at + length words
  pub buffer : after ≡ sets before at words

-- what `emit` asks: the root, the last node, can be read from moment 0 to the last, and the buffer holds any reading of it
pub record Emittable (P : Procedure) (T : Trajectory) (started job : ℕ) (places table : List ℕ) (size : ℕ) : Type 0 where
  pub prepared : Prepared P T started job places table
  pub once : NamedOnce P
  pub some : 0 < P.count
  pub found : InTable table (P.count - 1) 0 T.last
  pub room : length_bound P T.last ≤ size

-- the same of the arrays, with what the writer does not see
abbrev pub EmittableBy : Source → ℕ → Unseen → Type 0
EmittableBy s size u = Emittable (procedure_by s u) (trajectory_by s u) s.started (length s.words.now) s.arrays.now.places s.table.now size

-- what it promises: a reading's words at the buffer's front, as many as it returns, and the rest of the buffer as it was
pub record Emitted (P : Procedure) (T : Trajectory) (before after : List ℕ) (count : ℕ) : Type 0 where
  pub words : List ℕ
  pub reading : Reading P T whole (P.count - 1) 0 T.last words
  pub counted : count ≡ length words
  pub bounded : count ≤ length_bound P T.last
  pub few : count ≤ 4032
  pub buffer : after ≡ words ++ drop count before

-- the same of the arrays
abbrev pub EmittedBy : Source → List ℕ → List ℕ → ℕ → Unseen → Type 0
EmittedBy s before after count u = Emitted (procedure_by s u) (trajectory_by s u) before after count
