-- `sets::bounds::join` meets its contract. The invariant: the entries of the first k turns are joined. Assumes nothing.
use Rattle.std.proofs.Common.{◌≡◌, ap, ℕ, ◌+◌, ◌<◌}
use native.Mathlib.Omega.{arith}
use Rattle.bitset.proofs.In.{in_union}
use Rattle.sets.proofs.Late.{joined_more}
use Rattle.sets.proofs.bounds.join.Given.{Over}
use Rattle.sets.proofs.bounds.join.Goals as goal
use Rattle.sets.proofs.bounds.join.Goals.{After-order}

-- the entry of turn k is one of the 64
turned : (g : Over) (c : After-order g) → (c.order.result ≡ g.turn c.loop-k.k) × (c.order.result < 64)
turned g c = (c.requires.1.1 c.loop-k.k c.loop-k-test.true).1 c.order.result c.order.ensures

pub overflow_add-q : goal.overflow_add-q
overflow_add-q g c = omega (arith, c.requires.1.0, turned g (goal.at.overflow_add-q g c).After-order)

pub offset_bounds-bounds-q : goal.offset_bounds-bounds-q
offset_bounds-bounds-q g c = omega (arith, c.requires.1.0, turned g (goal.at.offset_bounds-bounds-q g c).After-order)

pub bounds-bounds-q : goal.bounds-bounds-q
bounds-bounds-q g c = omega (arith, c.requires.1.0, turned g (goal.at.bounds-bounds-q g c).After-order)

pub offset_bounds-bounds-q-in-loop-k : goal.offset_bounds-bounds-q-in-loop-k
offset_bounds-bounds-q-in-loop-k g c = omega (arith, c.requires.1.0, turned g (goal.at.offset_bounds-bounds-q-in-loop-k g c).After-order)

pub bounds-bounds-q-in-loop-k : goal.bounds-bounds-q-in-loop-k
bounds-bounds-q-in-loop-k g c = omega (arith, c.requires.1.0, turned g (goal.at.bounds-bounds-q-in-loop-k g c).After-order)

pub loop-k-preserved : goal.loop-k-preserved
loop-k-preserved g c =
    let t = turned g (goal.at.loop-k-preserved g c).After-order in
    joined_more c.loop-k.k (c.args.base + c.order.result) c.union-all.result (ap (λ (e : ℕ). c.args.base + e) t.0) (omega (arith, c.requires.1.0))
    (in_union c.union-all.ensures) c.loop-k.invariant
