-- Between functions: what filling the table of ends asks and leaves: the set at p * 64 + b has the ends that node p reads to from b.
use Rattle.std.specs.Prelude.{ℕ, ◌+◌, ◌*◌, ◌^◌, ◌<◌, ◌≤◌, ◌≡◌, ◌↔◌, ◌⊎◌, List, length, get_or}
use Rattle.bitset.specs.Code.Members.{In}
use Rattle.model.specs.Trajectory.{Trajectory}
use Rattle.model.specs.Procedure.{Procedure}
use Rattle.model.specs.Forms.{Set, form_at}
use Rattle.model.specs.Code.Forms.{children, Below}
use Rattle.model.specs.Code.Table.{row_at, InTable}
use Rattle.reading.specs.Code.Forms.{NodeReadable}
use Rattle.reading.specs.Reading.{HasReading}
use Rattle.reading.specs.Code.Rule.{Rule}
use Rattle.reading.specs.Code.Quiet.{AllStarts, QuietIn}
use Rattle.reading.specs.Count.{Counted}
use Rattle.reading.specs.declared.pauses.Pause.{Pause}

-- the ends of row b of node q lie from b to n
abbrev pub Inside : List ℕ → ℕ → ℕ → ℕ → Type 0
Inside t q b n = (e : ℕ) → InTable t q b e → (b ≤ e) × (e ≤ n)

-- the table has the rows of nodes x and y
pub record TwoRows (t : List ℕ) (x y b : ℕ) : Type 0 where
  pub begin : b < 64
  pub first : x * 64 + 64 ≤ length t
  pub second : y * 64 + 64 ≤ length t

-- and x's row b ends within the moments, up to n
pub record RowsThrough (t : List ℕ) (x y b n : ℕ) : Type 0 where
  pub rows : TwoRows t x y b
  pub inside : Inside t x b n

-- moments up to n, and a window from least to most
pub record WindowReady (n least most : ℕ) : Type 0 where
  pub moments : n < 64
  pub from : least < 64
  pub upto : most < 64

-- m lies a pause after some member of `ends`, and not after n
pub record After (ends : ℕ) (pause : Pause) (n m : ℕ) : Type 0 where
  pub end : ℕ
  pub member : In ends end
  pub early : end + pause.least ≤ m
  pub late : m ≤ end + pause.most
  pub upto : m ≤ n
  pub quiet : QuietIn pause.started end m

-- what the row of node p at b needs, p being no task set and `started` the moments at which some action starts, and what it is: its members
-- are the ends that the rule of p's form allows, by the table
pub record RowReady (P : Procedure) (T : Trajectory) (started : ℕ) (t : List ℕ) (p b : ℕ) : Type 0 where
  pub lower : Below p (children P p)
  pub single : form_at P p ≡ Set → ⊥
  pub begin : b ≤ T.last
  pub moments : T.last < 64
  pub mask : AllStarts T.starts started
  pub room : p * 64 + 64 ≤ length t
  pub inside : (q : ℕ) → q < p → Inside t q b T.last

abbrev pub RowOf : Procedure → Trajectory → List ℕ → ℕ → ℕ → ℕ → Type 0
RowOf P T t p b r = (e : ℕ) → In r e ↔ Rule P T (InTable t) (form_at P p) p b e

-- what filling the rows of node p needs: the moments at which some action starts, and that the rows of the lower nodes have ends within the
-- moments alone
pub record NodeReady (P : Procedure) (T : Trajectory) (started p : ℕ) (t : List ℕ) : Type 0 where
  pub formed : NodeReadable P T p
  pub moments : T.last < 64
  pub mask : AllStarts T.starts started
  pub room : p * 64 + 64 ≤ length t
  pub inside : (q b : ℕ) → q < p → b ≤ T.last → Inside t q b T.last

-- and what it leaves: the rows of p are what the rule of its form allows, and every other row is as it was
pub record NodeRows (P : Procedure) (T : Trajectory) (p : ℕ) (before after : List ℕ) : Type 0 where
  pub rows : (b : ℕ) → b ≤ T.last → RowOf P T after p b (row_at after p b)
  pub others : (i : ℕ) → (i < p * 64) ⊎ (p * 64 + T.last < i) → get_or after i 0 ≡ get_or before i 0

-- an empty table
pub record Blank (t : List ℕ) : Type 0 where
  pub size : length t ≡ 4096
  pub empty : (i : ℕ) → get_or t i 0 ≡ 0

-- bit e of (p, b) is set exactly when (p, b, e) has a reading, and no other bit is set
pub record Found (P : Procedure) (T : Trajectory) (t : List ℕ) : Type 0 where
  pub size : length t ≡ 4096
  pub right : (p b e : ℕ) → p < P.count → b ≤ T.last → InTable t p b e ↔ HasReading P T p b e
  pub beyond : (p b e : ℕ) → b < 64 → InTable t p b e → (p < P.count) × (b ≤ T.last)

-- the table has all readings, and r, which fits 24 bits, is how many there are
pub record Tabulated (P : Procedure) (T : Trajectory) (t : List ℕ) (r : ℕ) : Type 0 where
  pub table : Found P T t
  pub count : Counted P T r
  pub small : r < 2 ^ 24

-- (p, b, e) is an entry of the table
pub record Entry (t : List ℕ) (p b e : ℕ) : Type 0 where
  pub node : p < 64
  pub begin : b < 64
  pub end : e < 64
  pub size : length t ≡ 4096
