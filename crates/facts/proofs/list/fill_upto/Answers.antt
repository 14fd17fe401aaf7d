-- `facts::list::fill_upto` meets its contract. The invariant: the facts of the moments before `t` are written. Assumes nothing.
use Prim.Native.Nat.{suc, ◌*◌, ◌≤◌}
use native.Mathlib.Nat.{le_trans, mul-le-mul_right, suc-mul}
use lib.ListN.{length, get_or}
use Rattle.facts.proofs.Lists.{room_for, rows_none, rows_more, rows_most, rows_filled, row-written, written_none, written-more, written-size}
use native.Mathlib.Omega.{arith}
use Rattle.facts.proofs.list.fill_upto.Goals as goal

pub loop-t-init : goal.loop-t-init
loop-t-init c = simp rows_none written_none

pub write_facts-at-requires : goal.write_facts-at-requires
write_facts-at-requires c =
    let a = c.args in
    let p = c.requires in
    let turn = c.loop-t in
    let n = c.fluents_of-n.result in
    let few = c.fluents_of-n.ensures.0 in
    let room : suc a.last * n ≤ length a.buffer.now = rw few (le_trans (room_for _ p.well _ (omega (arith, p.moment, p.well.few_moments))) p.room) in
    let most = rows_most a.history.now (get_or a.job.now 0 0) n 0 turn.t in
    let size = c.values_at.ensures.1 in
    let step : suc turn.t ≤ suc a.last = omega arith in (
      omega (arith, p.moment, p.well.few_moments),
      omega (arith, size, few, p.well.few_fluents),
      omega (arith, size, room, turn.invariant.next, written-size turn.invariant, most, mul-le-mul_right n step, suc-mul turn.t n),
    )

pub loop-t-preserved : goal.loop-t-preserved
loop-t-preserved c =
    let turn = c.loop-t in
    written-more (rows_more c.args.history.now _ _ turn.t) turn.invariant (row-written c.args.history.now _ turn.t c.values_at.ensures c.write_facts-at.ensures)

pub returns-2 : goal.returns-2
returns-2 c starts h =
    let turn = c.loop-t in
    rows_filled h c.fluents_of-n.ensures.0 (omega arith)
    (written-more (rows_more c.args.history.now _ _ turn.t) turn.invariant (row-written c.args.history.now _ turn.t c.values_at.ensures c.write_facts-at.ensures))
