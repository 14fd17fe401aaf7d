-- `sets::tables::cut_pairs` meets its contract. The invariant: the tables have what they had of each placement, and no end more. Assumes
-- nothing.
use Rattle.sets.specs.Code.Tables.{LeftOut, SameElse}
use Rattle.sets.proofs.tables.cut_pairs.Given as goal

abbrev pub invariant-loop-p : goal.invariant-loop-p
invariant-loop-p l =
    SameElse l.initial.tables l.tables × LeftOut l.initial.tables.count l.span.a l.span.z l.initial.tables.ends l.initial.tables.goes l.tables.ends l.tables.goes
