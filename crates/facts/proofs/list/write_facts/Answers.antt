-- `facts::list::write_facts` meets its contract. The invariant: the facts of the fluents below `f` are written. Assumes nothing.
use mathlib.Core.Path.{◌≡◌}
use Prim.Native.Nat.{◌<◌}
use native.Mathlib.Omega.{arith}
use lib.ListN.{length}
use Rattle.facts.proofs.Lists.{row-start, row_more, in-most, written_one, written_no, written-more, written-size}
use Rattle.facts.proofs.list.write_facts.Goals as goal
use Rattle.facts.proofs.list.write_facts.Goals.{After-fact_word, then-value-ne-OPEN, else-value-ne-OPEN}
use borrow.Author.Tests.{eq-eqb, ne_eqb}

-- there is room for the fact of one fluent more
inside : (c : After-fact_word) → c.loop-f.end < length c.loop-f.buffer
inside c =
    let a = c.args in
    omega (arith, c.requires.2, c.loop-f-test.true, c.loop-f.invariant.next, written-size c.loop-f.invariant, in-most a.head a.t a.row.now c.loop-f.f)

pub loop-f-init : goal.loop-f-init
loop-f-init c = let a = c.args in row-start a.head a.t a.row.now

pub offset_bounds-buffer-end : goal.offset_bounds-buffer-end
offset_bounds-buffer-end c = omega (arith, inside c, c.well_formed)

pub bounds-buffer-end : goal.bounds-buffer-end
bounds-buffer-end c = inside c

pub overflow_add-end : goal.overflow_add-end
overflow_add-end c = omega (arith, inside c, c.well_formed)

pub loop-f-preserved : goal.loop-f-preserved
loop-f-preserved c =
    let a = c.args in
    let turn = c.loop-f in
    let more = row_more a.head a.t a.row.now turn.f in
    elim c.if-value-ne-OPEN.branch [
      | then-value-ne-OPEN w ↦ rw (w.buffer-is, w.end-is)
          (written-more more turn.invariant (written_one _ (rw (ne_eqb _ 1 w.if-value-ne-OPEN.true, w.fact_word.ensures))))
      | else-value-ne-OPEN w ↦ rw (w.buffer-is, w.end-is) (written-more more turn.invariant (written_no (rw (eq-eqb _ 1 w.if-value-ne-OPEN.false))))
    ]

pub returns : goal.returns
returns c =
    let all : length c.args.row.now ≡ c.loop-f.f = omega arith in
    rw all c.loop-f.invariant
