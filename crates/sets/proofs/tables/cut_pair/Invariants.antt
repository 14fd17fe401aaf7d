-- `sets::tables::cut_pair` meets its contract. The invariant: the tables have what they had of each placement, and no end more. Assumes nothing.
use Prim.Native.Nat.{ℕ, ◌≤◌, ◌<◌}
use Rattle.sets.specs.Code.Tables.{LeftOut, SameElse}
use Rattle.sets.proofs.tables.cut_pair.Given as goal

-- the tables have what they had of each placement, and no end more
abbrev pub invariant-loop-x : goal.invariant-loop-x
invariant-loop-x l =
    SameElse l.initial.tables l.tables × ((count : ℕ) → l.i < count → l.j < count → count ≤ 4 → LeftOut count l.fn.span.a l.fn.span.z l.initial.tables.ends l.initial.tables.goes l.tables.ends l.tables.goes)
