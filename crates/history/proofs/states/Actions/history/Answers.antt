-- `history::states::Actions::history` meets its contract. The invariant: the state and the held list are those of moment `t`, the first `next` starts
-- are those up to `t`, and the rows of the moments up to `t` are stored. Assumes nothing.
use mathlib.Core.Path.{◌∙◌}
use Rattle.history.specs.Held.{HeldList}
use Rattle.history.proofs.Held.{held_start}
use Rattle.history.proofs.HeldList.{Begun, begun_none, begun_more, begun_starting, begun_first}
use Rattle.history.proofs.Stores.{rows_none, rows_more}
use Rattle.history.proofs.Moments.{state_start}
use Rattle.history.proofs.Carried.{each_lasts, list_count}
use native.Mathlib.Omega.{arith}
use Rattle.history.proofs.states.Actions.history.Goals as goal

pub loop-t-init : goal.loop-t-init
loop-t-init c =
    let first : HeldList c.args.self.now.job.now c.args.starts.now 0 c.hold_first.new.self.words c.hold_first.new.self.count = let p = c.requires in c.hold_first.ensures c.args.self.now.job.now (each_lasts p.0.well p.0.named) in
    let first-begun : Begun c.args.starts.now 1 c.hold_first.new.self.count = let p = c.requires in
    let same = held_start c.args.self.now.job.now c.args.starts.now (each_lasts p.0.well p.0.named) in
    rw (list_count first, same, ← begun_starting p.1 begun_none) (begun_first p.1) in
    let state = c.initial_state-state.ensures in
    record {
      carried = record { state = state_start state; list = first };
      begun = first-begun;
      stored = rows_more c.requires.0.well.few_fluents rows_none c.store_row.ensures (state_start state).value;
    }

pub step-requires : goal.step-requires
step-requires c =
    let inv = c.loop-t.invariant in
    record {
      plan = c.args.starts.now;
      walk = c.requires.0;
      ascends = c.requires.1;
      begin = c.starting_at-starting.ensures ∙ begun_starting c.requires.1 inv.begun;
      carried = inv.carried;
      soon = omega (arith, c.requires.3);
      room = rw c.loop-t.held.size c.requires.2;
    }

pub loop-t-preserved : goal.loop-t-preserved
loop-t-preserved c =
    let inv = c.loop-t.invariant in
    let ascends = c.requires.1 in
    let new = c.step.ensures c.args.starts.now c.requires.0.named ascends (c.starting_at-starting.ensures ∙ begun_starting ascends inv.begun) inv.carried in
    record {
      carried = new;
      begun = rw c.starting_at-starting.ensures (begun_more ascends inv.begun);
      stored = rows_more c.requires.0.well.few_fluents inv.stored c.store_row-in-loop-t.ensures new.state.value;
    }
