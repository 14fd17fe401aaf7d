-- `sets::tables::partners` meets its contract. The invariant: a begin with which both may end is one of r's, or one that is left. Assumes
-- nothing.
use Prim.Native.Nat.{ℕ}
use mathlib.Core.Logic.{◌⊎◌}
use Rattle.bitset.specs.Code.Members.{In}
use Rattle.keeping.specs.Code.Tables.{pair_at}
use Rattle.sets.proofs.tables.partners.Given as goal

abbrev pub invariant-loop-y : goal.invariant-loop-y
invariant-loop-y l =
    (y d e : ℕ) → In (pair_at l.tables.goes l.i l.j l.x) y → In (pair_at l.tables.ends l.i l.i l.x) d → In (pair_at l.tables.ends l.i l.j y) d → In (pair_at l.tables.ends l.j l.j y) e
    → In (pair_at l.tables.ends l.j l.i l.x) e → In (pair_at l.tables.goes l.j l.i y) l.x → In l.r y ⊎ In l.y-iterator.left y
