-- `sets::tables::fill_own` meets its contract. The invariant: the rows of the members before i are right. Assumes nothing.
use mathlib.Core.Path.{◌≡◌}
use Rattle.sets.specs.Code.Tables.{OwnRows, SameElse}
use Rattle.sets.proofs.tables.fill_own.Given as goal

abbrev pub invariant-loop-i : goal.invariant-loop-i
invariant-loop-i l =
    OwnRows l.members l.table l.initial.tables.goes l.span.a l.span.z l.initial.tables.ends l.tables.ends l.i
    × SameElse l.initial.tables l.tables × (l.tables.goes ≡ l.initial.tables.goes)
