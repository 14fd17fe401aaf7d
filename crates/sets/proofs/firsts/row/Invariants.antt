-- `sets::firsts::row` meets its contract. The invariant: the placements are found in which a member before `first` begins first. Assumes nothing.
use Prim.Native.Nat.{ℕ, ◌≤◌, ◌<◌}
use mathlib.Core.Path.{◌≡◌}
use Rattle.bitset.specs.Code.Members.{In}
use Rattle.ending.specs.Code.Search.{Masked, Grown}
use Rattle.narrowing.specs.Code.Tables.{InTables, BoundsHave}
use Rattle.sets.proofs.firsts.row.Given as goal

abbrev pub invariant-loop-first : goal.invariant-loop-first
invariant-loop-first l =
    Grown l.tables l.a l.initial.found l.found
    × ((f : ℕ) → f < l.first → (e : ℕ) (bs es : ℕ → ℕ) → Masked l.tables l.a e bs es → InTables l.tables l.a bs es
    → BoundsHave l.tables.count l.tables.bounds bs es → e ≤ l.found.upto → bs f ≡ l.a → In l.goal e → In l.found.ends e)
