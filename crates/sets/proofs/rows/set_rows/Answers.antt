-- `sets::rows::set_rows` meets its contract. The invariant: the rows before b are right. Assumes nothing.
use Prim.Native.Nat.{ℕ, ◌+◌, ◌*◌, ◌≤◌, ◌<◌}
use mathlib.Core.Path.{refl}
use mathlib.Core.Logic.{◌↔◌}
use native.Mathlib.Omega.{arith}
use lib.ListN.{length, set}
use Rattle.bitset.specs.Code.Members.{In}
use Rattle.bitset.proofs.In.{in_between}
use Rattle.model.specs.Code.Table.{InTable}
use Rattle.sets.specs.Code.Set.{SetRule}
use Rattle.sets.specs.Code.Rows.{task_set_of}
use Rattle.sets.proofs.Stored.{RowsTo, no_rows_yet, rows_more, rows_done, ready_from, row-found, unpruned_of, filled_of}
use Rattle.sets.proofs.rows.set_rows.Goals as goal
use Rattle.sets.proofs.rows.set_rows.Goals.{After-row-found}

-- what is found is what the set reads to
found : (c : After-row-found) (e : ℕ) → let a = c.args in
    In c.row-found.result.ends e ↔ SetRule (task_set_of a.set.members.now a.set.conditions.now a.arrays.now.values a.arrays.now.last) (InTable a.table.now) c.loop-b.b e
found c e =
    let r = row-found _ c.row-found.result _ (filled_of c.args.set.members.now c.args.arrays.now.values c.args.table.now c.unpruned-tables.ensures c.fill.ensures) (omega arith) refl refl c.row-found.ensures.0 c.row-found.ensures.1 in
    (r.reads e, λ h. let p = h.placing in r.finds e p.within ((in_between c.between-goal.ensures e).1 (p.onward, p.within)) h)

-- the place of the row in the table
room : (c : After-row-found) → let a = c.args in a.p * 64 + c.loop-b.b < length c.loop-b.table
room c =
    let g = c.requires in
    let up : c.loop-b.b < 64 = omega (arith, g.formed.moments, c.loop-b-test.true) in
    omega (arith, g.room, c.loop-b.invariant.long)

pub fill-requires : goal.fill-requires
fill-requires c =
    let g = c.requires in
    unpruned_of c.args.set.members.now c.args.arrays.now.values c.args.table.now c.unpruned-tables.ensures g.formed (λ i l. omega (arith, g.lower i l, g.room))

pub loop-b-init : goal.loop-b-init
loop-b-init c = no_rows_yet

pub between-goal-requires : goal.between-goal-requires
between-goal-requires c = let m = c.requires.formed.moments in (omega (arith, m, c.loop-b-test.true), m)

pub row-found-requires : goal.row-found-requires
row-found-requires c = ready_from (omega arith) (omega (arith, c.loop-b-test.true)) c.fill.ensures.ready

pub bounds-table-p : goal.bounds-table-p
bounds-table-p c = room (goal.at.bounds-table-p c).After-row-found

-- one row more
more : (c : After-row-found) → let a = c.args in
    RowsTo (task_set_of a.set.members.now a.set.conditions.now a.arrays.now.values a.arrays.now.last) a.p a.table.now (set c.loop-b.table (a.p * 64 + c.loop-b.b) c.row-found.result.ends) (c.loop-b.b + 1)
more c =
    let g = c.requires in
    let v = c.loop-b.invariant in
    let up : c.loop-b.b ≤ c.args.arrays.now.last = omega (arith, c.loop-b-test.true) in
    rows_more c.loop-b.b c.row-found.result.ends v (omega (arith, g.room, v.long)) up g.formed.moments (found c)

pub loop-b-preserved : goal.loop-b-preserved
loop-b-preserved c = more (goal.at.loop-b-preserved c).After-row-found

pub shape_of-table : goal.shape_of-table
shape_of-table c = c.loop-b.invariant.long

pub returns : goal.returns
returns c = rows_done (omega (arith, c.loop-b-test.false)) c.loop-b.invariant

pub returns-2 : goal.returns-2
returns-2 c = rows_done (omega arith) (more (goal.at.returns-2 c).After-row-found)
