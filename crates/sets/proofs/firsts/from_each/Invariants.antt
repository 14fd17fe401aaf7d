-- `sets::firsts::from_each` meets its contract. The invariant: the placements are found in which a member before `last` ends last. Assumes nothing.
use Prim.Native.Nat.{ℕ, ◌≤◌, ◌<◌}
use mathlib.Core.Path.{◌≡◌}
use Rattle.bitset.specs.Code.Members.{In}
use Rattle.narrowing.specs.Code.Tables.{InTables, BoundsHave}
use Rattle.ending.specs.Code.Search.{Masked, Grown}
use Rattle.sets.proofs.firsts.from_each.Given as goal

abbrev pub invariant-loop-last : goal.invariant-loop-last
invariant-loop-last l =
    Grown l.tables l.a l.initial.r l.r
    × ((m : ℕ) → m < l.last → (e : ℕ) (bs es : ℕ → ℕ) → Masked l.tables l.a e bs es → InTables l.tables l.a bs es
    → BoundsHave l.tables.count l.tables.bounds bs es → e ≤ l.r.upto → bs l.first ≡ l.a → es m ≡ e → In l.goal e → In l.r.ends e)
