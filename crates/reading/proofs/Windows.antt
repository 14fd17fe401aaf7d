-- The moments that lie a pause after the members of a set. Assumes nothing.
use Prim.Native.Nat.{ℕ, ◌+◌, ◌≤◌}
use mathlib.Core.Logic.{◌↔◌}
use Rattle.bitset.specs.Code.Members.{In}
use Rattle.bitset.proofs.Joins.{Brought}
use Rattle.reading.specs.Code.Quiet.{QuietIn}
use Rattle.reading.specs.Code.Table.{After}
use Rattle.reading.specs.declared.pauses.Pause.{Pause}

-- m lies a pause after k, and not after n
abbrev pub Paused : Pause → ℕ → ℕ → ℕ → Type 0
Paused pause n k m = (k + pause.least ≤ m) × (m ≤ k + pause.most) × (m ≤ n) × QuietIn pause.started k m

pub after-some : {found ends n : ℕ} {pause : Pause} → ((m : ℕ) → In found m ↔ Brought (Paused pause n) ends m) → (m : ℕ) → In found m ↔ After ends pause n m
after-some h m = (
  λ t. let b = (h m).0 t in record { end = b.m; member = b.member; early = b.brings.0; late = b.brings.1; upto = b.brings.2; quiet = b.brings.3 },
  λ a. (h m).1 (record { m = a.end; member = a.member; brings = (a.early, a.late, a.upto, a.quiet) }),
)
