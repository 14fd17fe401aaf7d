-- `sets::tables::fill` meets its contract. Assumes nothing.
use Prim.Native.Nat.{◌≤◌}
use mathlib.Core.Path.{◌≡◌, ◌∙◌, ap, subst}
use denote.Bor.{Bor}
use mathlib.Core.List.{List}
use Prim.Native.Nat.{ℕ}
use native.Mathlib.Omega.{arith}
use lib.ListN.{length, length-map}
use Rattle.words.specs.Fields.{member_node}
use Rattle.model.specs.Code.Table.{InTable}
use Rattle.sets.specs.Code.Rows.{task_set_of}
use Rattle.sets.specs.Code.Tables.{TablesOf}
use Rattle.sets.proofs.Pairs.{node_rows, filled}
use Rattle.sets.proofs.tables.fill.Goals as goal
use Rattle.sets.proofs.tables.fill.Goals.{Start}

-- the sizes of the set
few : (s : Start) → length s.args.members.now ≤ 4
few s = omega (arith, s.requires.formed.few, length-map s.args.members.now member_node)

pub fill_own-requires : goal.fill_own-requires
fill_own-requires c = (few (goal.at.fill_own-requires c).Start, node_rows c.args.members.now c.requires.rows)

pub fill-requires : goal.fill-requires
fill-requires c q = rw (c.fill_later.ensures.bounds, c.cut_constrained.ensures.0.bounds, c.fill_own.ensures.1.bounds, c.cut_all.ensures.0.bounds) (c.requires.unpruned.bounds q)

pub returns : goal.returns
returns c =
    let a = c.args in
    let p = c.requires in
    let t = c.fill.new.tables in
    let bounds = c.fill.ensures in
    let later = c.fill_later.ensures in
    let pairs = c.cut_constrained.ensures in
    let own = c.fill_own.ensures in
    let cut = c.cut_all.ensures in
    let conditions : t.conditions.now ≡ a.tables.now.conditions.now
    = ap (λ (w : Bor (List ℕ)). w.now) (bounds.masks.conditions ∙ later.masks.conditions ∙ pairs.0.masks.conditions ∙ own.1.masks.conditions ∙ cut.0.masks.conditions) in
    let allow : t.allow ≡ c.fill_allowed.new.allow = bounds.masks.allow ∙ later.masks.allow ∙ pairs.0.masks.allow ∙ own.1.masks.allow ∙ cut.0.masks.allow in
    let ends : t.ends ≡ c.cut_constrained.new.tables.ends = bounds.ends ∙ later.ends in
    let goes : t.goes ≡ c.cut_constrained.new.tables.goes = bounds.goes ∙ later.goes in
    let owned = own.1.masks.count ∙ cut.0.masks.count ∙ p.unpruned.count ∙ length-map a.members.now member_node in
    let cut_count = pairs.0.masks.count ∙ owned in
    let count = bounds.masks.count ∙ later.masks.count ∙ cut_count in
    subst (λ (cs : List ℕ). TablesOf (task_set_of a.members.now cs a.values.now a.span.last) (InTable a.table.now) a.span.a a.span.z t) conditions
    (filled a.members.now a.values.now a.table.now a.span.last a.span.a a.span.z t (rw conditions p.formed) a.span.forward a.span.within p.unpruned.ends p.unpruned.goes
    (rw (conditions, allow) c.fill_allowed.ensures) (rw (conditions, allow) cut.1) own.0 (rw (ends, goes) (rw (owned, own.2) at pairs.1)) count
    (rw (ends, bounds.later) (rw cut_count at later.after)) (rw ends (rw (later.masks.count ∙ cut_count, later.ends) at bounds.bounded)))
