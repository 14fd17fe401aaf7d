-- `sets::tables::cut_pair` meets its contract. The invariant: the tables have what they had of each placement, and no end more. Assumes nothing.
use Prim.Native.Nat.{ℕ, ◌+◌, ◌*◌, ◌≤◌, ◌<◌}
use mathlib.Core.Path.{refl, subst}
use mathlib.Core.Logic.{◌↔◌}
use native.Mathlib.Omega.{arith}
use lib.ListN.{get_or, set}
use Rattle.bitset.specs.Code.Members.{In}
use Rattle.bitset.proofs.In.{in_both}
use Rattle.sets.specs.Code.Tables.{LeftOut}
use Rattle.sets.proofs.Pairs.{pair_more, fewer_more, same_more, same_parts}
use Rattle.sets.proofs.tables.cut_pair.Goals as goal
use Rattle.sets.proofs.tables.cut_pair.Goals.{After-inter}

-- begin x leaves out no more
stepped : (c : After-inter) → (count : ℕ) → c.args.i < count → c.args.j < count → count ≤ 4
    → LeftOut count c.args.span.a c.args.span.z c.args.tables.now.ends c.args.tables.now.goes (set c.loop-x.tables.ends c.pair_index-p.result c.inter.result) (set c.loop-x.tables.goes c.pair_index.result c.partners-begins.result)
stepped c count first second few =
    let l = c.loop-x in
    let i = c.args.i in
    let j = c.args.j in
    let r = c.partners-begins in
    let k = (i * 4 + i) * 64 + l.x in
    let Goes-at = c.pair_index.ensures.0 in
    let ends_at = c.pair_index-p.ensures.0 in
    let both : (e : ℕ) → In c.inter.result e ↔ (In (get_or l.tables.ends k 0) e × In c.some_ends.result e)
    = λ e. subst (λ (q : ℕ). In c.inter.result e ↔ (In (get_or l.tables.ends q 0) e × In c.some_ends.result e)) ends_at (in_both c.inter.ensures e) in
    let h = l.invariant.1 count first second few in
    record {
      fewer = rw ends_at (fewer_more c.args.tables.now.ends l.tables.ends k c.inter.result both h.fewer);
      kept = λ bs es within have. rw (Goes-at, ends_at) (pair_more i j l.x c.args.span.a c.args.span.z r.result
          c.some_ends.result c.inter.result few (omega (arith, c.args.span.within, c.args.span.moments))
          (omega arith) first second within r.ensures c.some_ends.ensures both (h.kept bs es within have));
    }

pub loop-x-preserved : goal.loop-x-preserved
loop-x-preserved c = (same_more c.loop-x.invariant.0 (same_parts (refl, refl, refl, refl, refl)), stepped (goal.at.loop-x-preserved c).After-inter)

pub returns-2 : goal.returns-2
returns-2 c = (same_more c.loop-x.invariant.0 (same_parts (refl, refl, refl, refl, refl)), stepped (goal.at.returns-2 c).After-inter)
