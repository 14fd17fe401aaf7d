-- `sets::tables::fill_own_row` meets its contract. The invariant: the row is right before x. Assumes nothing.
use Prim.Native.Nat.{◌+◌}
use mathlib.Core.Path.{refl, sym}
use native.Mathlib.Omega.{arith}
use lib.ListN.{set}
use Rattle.model.specs.Code.Table.{InTable}
use Rattle.sets.specs.Code.Tables.{OwnRow}
use Rattle.sets.proofs.Pairs.{own_more, same_more, same_parts}
use Rattle.sets.proofs.tables.fill_own_row.Goals as goal
use Rattle.sets.proofs.tables.fill_own_row.Goals.{After-pair_index}

-- the row is right at x too
stepped : (c : After-pair_index) → let a = c.args in
    OwnRow (InTable a.table.now a.m) c.loop-x.tables.goes a.i a.span.a a.span.z a.tables.now.ends (set c.loop-x.tables.ends c.pair_index.result c.own_row.result) (c.loop-x.x + 1)
stepped c =
    let a = c.args in
    let x = c.loop-x.x in
    let h = c.loop-x.invariant in
    rw c.pair_index.ensures.0
    (own_more a.i x a.span.a a.span.z c.own_row.result c.requires.1 (omega arith) (omega arith) (omega (arith, a.span.within, a.span.moments)) c.own_row.ensures (rw (sym h.2) at h.0))

pub loop-x-preserved : goal.loop-x-preserved
loop-x-preserved c =
    let h = c.loop-x.invariant in
    (rw h.2 at (stepped (goal.at.loop-x-preserved c).After-pair_index), same_more h.1 (same_parts (refl, refl, refl, refl, refl)), h.2)

pub returns-2 : goal.returns-2
returns-2 c =
    let h = c.loop-x.invariant in
    let r = rw h.2 at (stepped (goal.at.returns-2 c).After-pair_index) in
    (record { own = λ y e g h. r.own y e g (omega arith); others = r.others; kept = r.kept }, same_more h.1 (same_parts (refl, refl, refl, refl, refl)), h.2)
