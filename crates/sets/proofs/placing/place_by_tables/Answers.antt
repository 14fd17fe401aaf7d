-- `sets::placing::place_by_tables` meets its contract: the search of the end e has kept begins for it, and the greatest ends for them will do. Assumes
-- nothing.
use Prim.Native.Nat.{ℕ, ◌≤◌, ◌<◌}
use mathlib.Core.Path.{refl, sym, subst}
use native.Mathlib.Nat.{le_refl}
use native.Mathlib.Omega.{arith}
use Rattle.bitset.specs.Code.Members.{In}
use Rattle.bitset.proofs.In.{in_single, in_zero}
use Rattle.covering.specs.Code.Cover.{entry_at}
use Rattle.ending.specs.Code.Search.{ReadsWith}
use Rattle.ending.proofs.Leaves.{top_ends}
use Rattle.sets.proofs.Stored.{row-found, unpruned_of, filled_of, no_begins}
use Rattle.sets.proofs.placing.place_by_tables.Goals as goal
use Rattle.sets.proofs.placing.place_by_tables.Goals.{After-row, Start}

moments : (s : Start) → (s.args.b ≤ s.args.e) × (s.args.e ≤ s.args.arrays.now.last) × (s.args.arrays.now.last < 64)
moments s = let p = s.requires.rule.placing in (p.onward, p.within, s.requires.formed.moments)

-- begins with which the set reads b to e
begins : (c : After-row) → let a = c.args in ReadsWith c.fill.new.tables a.b a.e (entry_at c.row.result.begins)
begins c =
    let a = c.args in
    let g = c.row.ensures.0 in
    let f = row-found _ c.row.result _ (filled_of c.args.set.members.now c.args.arrays.now.values c.args.table.now c.unpruned-tables.ensures c.fill.ensures) (le_refl a.b) refl refl g c.row.ensures.1 in
    let found = f.finds a.e (le_refl a.e) ((in_single c.single.ensures a.e).1 refl) c.requires.rule in
    subst (λ (x : ℕ). ReadsWith c.fill.new.tables a.b x (entry_at c.row.result.begins))
    g.upto (g.begins (λ z. in_zero refl z) (subst (λ (x : ℕ). In c.row.result.ends x) (sym g.upto) found))

pub fill-requires : goal.fill-requires
fill-requires c =
    let g = c.requires in
    unpruned_of c.args.set.members.now c.args.arrays.now.values c.args.table.now c.unpruned-tables.ensures g.formed g.rows

pub single-requires : goal.single-requires
single-requires c = omega (arith, moments (goal.at.single-requires c).Start)

pub row-requires : goal.row-requires
row-requires c = c.fill.ensures.ready

pub ends_at-masks-requires : goal.ends_at-masks-requires
ends_at-masks-requires c = c.row.ensures.0.moments no_begins

pub greatest_ends-ends-requires : goal.greatest_ends-ends-requires
greatest_ends-ends-requires c =
    let h = begins (goal.at.greatest_ends-ends-requires c).After-row in
    (omega (arith, moments (goal.at.greatest_ends-ends-requires c).Start), λ i l. (h.es i, (c.ends_at-masks.ensures i (h.es i) l).1 (h.masked.lawful i l), (h.masked.inside i l).2))

pub returns : goal.returns
returns c =
    let a = c.args in
    let t = filled_of c.args.set.members.now c.args.arrays.now.values c.args.table.now c.unpruned-tables.ensures c.fill.ensures in
    t.reads a.b a.e _ _ (le_refl a.b) (le_refl a.e)
    (top_ends t.ready c.ends_at-masks.ensures (begins (goal.at.returns c).After-row).masked c.greatest_ends-ends.ensures)
