-- `write_reading`, `write_parts` and `write_passes` meet their contracts. A node's parts and passes are written under its own number, and
-- each of them has a lower one. Assumes nothing.
use mathlib.Core.Path.{sym, ap, ◌∙◌}
use Prim.Native.Nat.{◌+◌}
use native.Mathlib.Omega.{arith}
use lib.ListN.{length-set}
use Rattle.model.specs.Forms.{form_number}
use Rattle.model.proofs.Forms.{form-number}
use Rattle.extract.specs.Code.Search.{CutAt}
use Rattle.reading.specs.Code.Quiet.{at_once}
use Rattle.extract.proofs.Written.{written_none, written-under, written-length}
use Rattle.extract.proofs.Steps.{done_none, resize, has_room, choosable, headed, part_child, part_more, part_end, body_lower, pass_start, pass_ready, pass_child, pass_more, pass_end}
use Rattle.extract.proofs.write.+write_parts_write_passes_write_reading.Goals as goal

-- ---- the node's own word

pub write_reading-bounds-buffer-at : goal.write_reading-bounds-buffer-at
write_reading-bounds-buffer-at t c = omega (arith, has_room c.requires.1)

pub write_reading-returns-then-form_of-eq-WHILE : goal.write_reading-returns-then-form_of-eq-WHILE
write_reading-returns-then-form_of-eq-WHILE t c = λ u s.
    written-under c.reading_word.ensures
    (c.write_passes.ensures u (resize (length-set c.args.buffer.now c.args.at c.reading_word.result) (headed s)) (ap form_number (sym c.form_of.ensures.0 ∙ c.if-form_of-eq-WHILE.true)))

pub write_reading-returns : goal.write_reading-returns
write_reading-returns t c = λ u s.
    written-under c.reading_word.ensures
    (c.write_parts.ensures u (resize (length-set c.args.buffer.now c.args.at c.reading_word.result) (headed s)) (λ g. c.if-form_of-eq-WHILE.false (c.form_of.ensures.0 ∙ form-number _ g (omega arith))))

-- ---- parts

pub write_parts-choose_parts-parts-requires : goal.write_parts-choose_parts-parts-requires
write_parts-choose_parts-parts-requires t c = let (u, s, other) = c.requires in (u, choosable s other)

pub write_parts-loop-part-init : goal.write_parts-loop-part-init
write_parts-loop-part-init t c = λ u s other. written_none _ _ done_none

pub write_parts-write_reading-end-requires : goal.write_parts-write_reading-end-requires
write_parts-write_reading-end-requires t c =
    let (u, s, other) = c.requires in
    let (few, g) = c.choose_parts-parts.ensures u (choosable s other) in
    let so_far = c.loop-part.invariant u s other in
    let taken = c.loop-part-test.true in
    (omega (arith, g.lower c.loop-part.part-index taken), (u, resize (written-length so_far) (part_child s g taken so_far)))

pub write_parts-loop-part-preserved : goal.write_parts-loop-part-preserved
write_parts-loop-part-preserved t c = λ u s other.
    let (few, g) = c.choose_parts-parts.ensures u (choosable s other) in
    let so_far = c.loop-part.invariant u s other in
    let taken = c.loop-part-test.true in
    part_more s g taken so_far (c.write_reading-end.ensures u (resize (written-length so_far) (part_child s g taken so_far)))

pub write_parts-returns : goal.write_parts-returns
write_parts-returns t c = λ u s other.
    let (few, g) = c.choose_parts-parts.ensures u (choosable s other) in
    part_end s g (omega (arith, c.loop-part-test.false, c.loop-part.auto.part-index-end)) (c.loop-part.invariant u s other)

-- ---- passes

pub write_passes-loop-m-init : goal.write_passes-loop-m-init
write_passes-loop-m-init t c = λ u s f. pass_start s f _

pub write_passes-cut-k-requires : goal.write_passes-cut-k-requires
write_passes-cut-k-requires t c =
    let (u, s, f) = c.requires in
    rw c.at_once.ensures (pass_ready s f (c.loop-m.invariant u s f) c.node_y-y.ensures.0 c.loop-m-test.true)

pub write_passes-write_reading-end-requires : goal.write_passes-write_reading-end-requires
write_passes-write_reading-end-requires t c =
    let (u, s, f) = c.requires in
    let same = c.node_y-y.ensures.0 in
    let inv = c.loop-m.invariant u s f in
    let found : CutAt c.args.source.now.table.now c.node_y-y.result c.args.triple.node c.loop-m.m c.args.triple.end at_once (c.loop-m.m + 1) c.cut-k.result.0 c.cut-k.result.1
    = rw c.at_once.ensures at c.cut-k.ensures in
    (omega (arith, body_lower s f, same), (u, resize (written-length inv.written) (pass_child s f inv same c.loop-m-test.true found)))

pub write_passes-loop-m-preserved : goal.write_passes-loop-m-preserved
write_passes-loop-m-preserved t c = λ u s f.
    let same = c.node_y-y.ensures.0 in
    let inv = c.loop-m.invariant u s f in
    let taken = c.loop-m-test.true in
    let found : CutAt c.args.source.now.table.now c.node_y-y.result c.args.triple.node c.loop-m.m c.args.triple.end at_once (c.loop-m.m + 1) c.cut-k.result.0 c.cut-k.result.1
    = rw c.at_once.ensures at c.cut-k.ensures in
    pass_more s f inv same taken found (c.write_reading-end.ensures u (resize (written-length inv.written) (pass_child s f inv same taken found)))

pub write_passes-returns : goal.write_passes-returns
write_passes-returns t c = λ u s f. pass_end s f (c.loop-m.invariant u s f) c.loop-m-test.false
