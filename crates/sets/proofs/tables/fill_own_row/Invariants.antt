-- `sets::tables::fill_own_row` meets its contract. The invariant: the row is right before x. Assumes nothing.
use mathlib.Core.Path.{◌≡◌}
use Rattle.model.specs.Code.Table.{InTable}
use Rattle.sets.specs.Code.Tables.{OwnRow, SameElse}
use Rattle.sets.proofs.tables.fill_own_row.Given as goal

abbrev pub invariant-loop-x : goal.invariant-loop-x
invariant-loop-x l =
    OwnRow (InTable l.table l.m) l.initial.tables.goes l.i l.span.a l.span.z l.initial.tables.ends l.tables.ends l.x
    × SameElse l.initial.tables l.tables × (l.tables.goes ≡ l.initial.tables.goes)
