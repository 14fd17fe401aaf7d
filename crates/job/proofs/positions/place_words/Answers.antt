-- `job::positions::place_words` meets its contract. Assumes nothing.
use mathlib.Core.Path.{◌≡◌, sym, ◌∙◌}
use native.Mathlib.Omega.{arith}
use lib.ListN.{length}
use Rattle.job.specs.Code.Index.{places_upto}
use Rattle.job.proofs.WordPositions.{marked_none, room, hit, miss}
use Rattle.job.proofs.positions.place_words.Goals as goal
use Rattle.job.proofs.positions.place_words.Goals.{then-kind_of-k, else-kind_of-k}

pub offset_bounds-position-total : goal.offset_bounds-position-total
offset_bounds-position-total c = omega (arith, room c.loop-i.invariant _ c.loop-i-test.true (sym c.kind_of.ensures.0 ∙ c.if-kind_of-k.true) c.requires)

pub bounds-position-total : goal.bounds-position-total
bounds-position-total c = room c.loop-i.invariant _ c.loop-i-test.true (sym c.kind_of.ensures.0 ∙ c.if-kind_of-k.true) c.requires

pub overflow_add-total : goal.overflow_add-total
overflow_add-total c = omega (arith, room c.loop-i.invariant _ c.loop-i-test.true (sym c.kind_of.ensures.0 ∙ c.if-kind_of-k.true) c.requires)

pub loop-i-preserved : goal.loop-i-preserved
loop-i-preserved c =
    elim c.if-kind_of-k.branch [
      | then-kind_of-k w ↦ rw (w.position-is, w.total-is) (hit c.loop-i.invariant (sym c.kind_of.ensures.0 ∙ w.if-kind_of-k.true))
      | else-kind_of-k w ↦ rw (w.position-is, w.total-is) (miss c.loop-i.invariant (λ e. w.if-kind_of-k.false (c.kind_of.ensures.0 ∙ e)))
    ]

pub returns : goal.returns
unfolding places_upto
returns c =
    let m = c.loop-i.invariant in
    let e : c.loop-i.i ≡ length c.args.job.now = omega arith in
    rw (m.total, m.entries, e)

pub loop-i-init : goal.loop-i-init
loop-i-init c = marked_none _ _
