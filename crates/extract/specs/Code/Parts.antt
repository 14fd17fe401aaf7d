-- Between functions: a choice of parts: how many there are, and the triple of each.
use Rattle.std.specs.Prelude.{ℕ, ◌-◌, ◌≤◌, ◌<◌, ◌≡◌, List, ◌∷◌, ◌++◌, length, get_or, take, replicate, slice_index_or}
use Rattle.words.specs.Scan.{concat_below}
use Rattle.words.specs.Fields.{member_node, reading_word}
use Rattle.model.specs.Trajectory.{Trajectory}
use Rattle.model.specs.Procedure.{Procedure}
use Rattle.model.specs.Forms.{While, form_at}
use Rattle.model.specs.Code.Table.{InTable}
use Rattle.model.specs.declared.Triple.{Triple}
use Rattle.sets.specs.Set.{TaskSet, member_count}
use Rattle.sets.specs.Code.Set.{member}
use Rattle.sets.specs.Code.Rows.{Placed}
use Rattle.sets.specs.declared.placing.Placement.{Placement}
use Rattle.reading.specs.Code.Forms.{Readable}
use Rattle.reading.specs.Reading.{whole, Reading}
use Rattle.reading.specs.Code.Table.{Found}
use Rattle.reading.specs.Code.Quiet.{AllStarts}
use Rattle.extract.specs.declared.Source.{Source}
use Rattle.extract.specs.declared.parts.Parts.{Parts}
use Rattle.extract.specs.Code.Source.{Unseen, procedure_by, trajectory_by}

abbrev pub triple_of : ℕ → ℕ → ℕ → Triple
triple_of p b e = record { node = p; begin = b; end = e }

-- the triples of the list, and no more
abbrev pub parts_from : List Triple → Parts
parts_from ts = record { count = length ts; triples = ts ++ replicate (4 - length ts) (triple_of 0 0 0) }

-- the parts, and part i of a list
abbrev pub parts_in : Parts → List Triple
parts_in r = take r.count r.triples

abbrev pub part_of : List Triple → ℕ → Triple
part_of ts i = slice_index_or ts i (triple_of 0 0 0)

-- the parts are the nodes of these members, with the begins and ends of the placement
abbrev pub IsPlaced : List ℕ → Placement → Parts → Type 0
IsPlaced members placed r =
    (r.count ≡ length members)
    × ((i : ℕ) → i < length members → part_of r.triples i ≡ triple_of (member_node (get_or members i 0)) (get_or placed.begins i 0) (get_or placed.ends i 0))

-- the parts are the members of the set s, with begins and ends that are lawful from b to e
pub record PlacedParts (s : TaskSet) (table : List ℕ) (b e : ℕ) (r : Parts) : Type 0 where
  pub begins : ℕ → ℕ
  pub ends : ℕ → ℕ
  pub count : r.count ≡ member_count s
  pub parts : (i : ℕ) → i < member_count s → part_of r.triples i ≡ triple_of (member s i) (begins i) (ends i)
  pub placed : Placed s (InTable table) b e begins ends

-- what choosing parts, and writing them, needs: the procedure and the trajectory are there, and the table and the start moments are theirs
pub record Prepared (P : Procedure) (T : Trajectory) (started size : ℕ) (places table : List ℕ) : Type 0 where
  pub ready : Readable P T size places
  pub found : Found P T table
  pub mask : AllStarts T.starts started

-- the table says that the triple can be read, and its node is no loop
pub record Choosable (P : Procedure) (T : Trajectory) (started size : ℕ) (places table : List ℕ) (t : Triple) : Type 0 where
  pub prepared : Prepared P T started size places table
  pub known : t.node < P.count
  pub within : t.begin ≤ T.last
  pub found : InTable table t.node t.begin t.end
  pub other : form_at P t.node ≡ While → ⊥

-- the parts are lower nodes that the table says can be read so, and readings of them, in order, make a reading of p from b to e
pub record Chosen (P : Procedure) (T : Trajectory) (table : List ℕ) (p b e : ℕ) (ts : List Triple) : Type 0 where
  pub lower : (i : ℕ) → i < length ts → (part_of ts i).node < p
  pub begin : (i : ℕ) → i < length ts → (part_of ts i).begin ≤ T.last
  pub found : (i : ℕ) → i < length ts → InTable table (part_of ts i).node (part_of ts i).begin (part_of ts i).end
  pub reads : (us : ℕ → List ℕ) → ((i : ℕ) → i < length ts → Reading P T whole (part_of ts i).node (part_of ts i).begin (part_of ts i).end (us i))
      → Reading P T whole p b e (reading_word p b e ∷ concat_below us (length ts))

-- a triple whose parts can be chosen, and a choice of them, of the arrays, with what the writer does not see
abbrev pub ChoosableBy : Source → Triple → Unseen → Type 0
ChoosableBy s t u = Choosable (procedure_by s u) (trajectory_by s u) s.started (length s.words.now) s.arrays.now.places s.table.now t

abbrev pub ChosenBy : Source → Triple → Parts → Unseen → Type 0
ChosenBy s t r u = (r.count ≤ 4) × Chosen (procedure_by s u) (trajectory_by s u) s.table.now t.node t.begin t.end (parts_in r)
