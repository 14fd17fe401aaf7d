-- Between functions: what the searches for the moments of two parts ask and promise, by the table of ends.
use Rattle.std.specs.Prelude.{ℕ, ◌+◌, ◌≤◌, ◌<◌, max, ◌≡◌, List, length, Option, Some, None}
use Rattle.model.specs.Code.Table.{InTable, row_at}
use Rattle.bitset.specs.Code.Members.{In, Max}
use Rattle.reading.specs.Code.Quiet.{QuietIn}
use Rattle.reading.specs.declared.pauses.Pause.{Pause}

-- nodes and moments are below 64, and the table is whole
pub record Within (table : List ℕ) (x y b e : ℕ) : Type 0 where
  pub left : x < 64
  pub right : y < 64
  pub begin : b < 64
  pub finish : e < 64
  pub size : length table ≡ 4096

-- m is a begin of node y, from first to end, from which y has an end that with one of the ends xs has the greatest e
pub record Meets (xs : ℕ) (table : List ℕ) (y first end e m : ℕ) : Type 0 where
  pub from : first ≤ m
  pub upto : m ≤ end
  pub moment : m < 64
  pub max : Max xs (row_at table y m) e

-- what the search for such a begin asks
pub record MeetReady (table : List ℕ) (y end e : ℕ) : Type 0 where
  pub node : y < 64
  pub finish : e < 64
  pub upto : end < 128
  pub size : length table ≡ 4096

-- r is such a begin, or there is none
abbrev pub FirstMeets : ℕ → List ℕ → ℕ → ℕ → ℕ → ℕ → Option ℕ → Type 0
FirstMeets xs table y first end e None = (m : ℕ) → Meets xs table y first end e m → ⊥
FirstMeets xs table y first end e (Some m) = Meets xs table y first end e m

-- x ends at k, which is `from` or later, and y, begun at m, a pause after k, ends at e
pub record CutAt (table : List ℕ) (x y b e : ℕ) (pause : Pause) (from k m : ℕ) : Type 0 where
  pub after : from ≤ k
  pub end : k < 64
  pub early : k + pause.least ≤ m
  pub late : m ≤ k + pause.most
  pub quiet : QuietIn pause.started k m
  pub begin : m < 64
  pub ends : InTable table x b k
  pub begins : InTable table y m e

-- what a search for a cut asks: there is one
pub record CutReady (table : List ℕ) (x y b e : ℕ) (pause : Pause) (from : ℕ) : Type 0 where
  pub within : Within table x y b e
  pub early : pause.least < 64
  pub late : pause.most < 64
  pub some : (k : ℕ) × (m : ℕ) × CutAt table x y b e pause from k m

-- k is one of xs, l one of ys, and e the greater
pub record EndPair (xs ys e k l : ℕ) : Type 0 where
  pub first : In xs k
  pub second : In ys l
  pub greater : e ≡ max k l

-- x, begun at b, ends at k, and y, begun at m, least to most after b, ends at l; e is the greater of k and l
pub record StartAt (table : List ℕ) (x y b e least most k m l : ℕ) : Type 0 where
  pub early : b + least ≤ m
  pub late : m ≤ b + most
  pub begin : m < 64
  pub ends : EndPair (row_at table x b) (row_at table y m) e k l

-- what a search for it asks: there is one
pub record StartReady (table : List ℕ) (x y b e least most : ℕ) : Type 0 where
  pub within : Within table x y b e
  pub early : least < 64
  pub late : most < 64
  pub some : (k : ℕ) × (m : ℕ) × (l : ℕ) × StartAt table x y b e least most k m l
