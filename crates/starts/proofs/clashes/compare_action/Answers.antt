-- `starts::clashes::compare_action` meets its contract. The invariant: the actions below `b` that have a latest finish are stored with `a`.
-- Assumes nothing.
use Prim.Native.Nat.{◌<◌}
use native.Mathlib.Omega.{arith}
use Rattle.job.specs.Parts.{actions}
use Rattle.starts.proofs.ClashTable.{comparing_start, comparing_stored, comparing_skipped, comparing_all, compared_before}
use Rattle.starts.proofs.clashes.compare_action.Goals as goal
use Rattle.starts.proofs.clashes.compare_action.Goals.{then-latest-b-gt0, else-latest-b-gt0}

pub offset_bounds-latest-a : goal.offset_bounds-latest-a
offset_bounds-latest-a c =
    let low : c.args.a < 64 = omega (arith, c.requires.action, c.requires.formed.few_actions) in
    omega (arith, low)

pub bounds-latest-a : goal.bounds-latest-a
bounds-latest-a c =
    let low : c.args.a < 64 = omega (arith, c.requires.action, c.requires.formed.few_actions) in
    low

pub returns-then-latest-a-gt0 : goal.returns-then-latest-a-gt0
returns-then-latest-a-gt0 c = let pre = c.requires in compared_before pre.action c.if-latest-a-gt0.true pre.told

pub loop-b-init : goal.loop-b-init
loop-b-init c = let pre = c.requires in comparing_start pre.action pre.told

pub offset_bounds-latest-b : goal.offset_bounds-latest-b
offset_bounds-latest-b c =
    let below : (c.loop-b.b < actions c.args.tables.now.job.now) × (c.loop-b.b < 64) = omega (arith, c.actions_of-n.ensures.0, c.requires.formed.few_actions) in
    omega (arith, below.1)

pub bounds-latest-b : goal.bounds-latest-b
bounds-latest-b c =
    let below : (c.loop-b.b < actions c.args.tables.now.job.now) × (c.loop-b.b < 64) = omega (arith, c.actions_of-n.ensures.0, c.requires.formed.few_actions) in
    below.1

pub store_pair-requires : goal.store_pair-requires
store_pair-requires c =
    let below : (c.loop-b.b < actions c.args.tables.now.job.now) × (c.loop-b.b < 64) = omega (arith, c.actions_of-n.ensures.0, c.requires.formed.few_actions) in
    let pre = c.requires in
    record {
      two = record { formed = pre.formed; makes = pre.makes; first = pre.action; second = below.0 };
      size = c.loop-b.invariant.others.size;
    }

pub loop-b-preserved : goal.loop-b-preserved
loop-b-preserved c =
    let below : (c.loop-b.b < actions c.args.tables.now.job.now) × (c.loop-b.b < 64) = omega (arith, c.actions_of-n.ensures.0, c.requires.formed.few_actions) in
    let pre = c.requires in
    let so = c.loop-b.invariant in
    elim c.if-latest-b-gt0.branch [
      | then-latest-b-gt0 w ↦ rw w.table-is (comparing_stored pre.action so w.store_pair.ensures)
      | else-latest-b-gt0 w ↦ rw w.table-is (comparing_skipped pre.action so (omega (arith, w.if-latest-b-gt0.false)))
    ]

pub returns : goal.returns
returns c = comparing_all c.requires.action (omega (arith, c.actions_of-n.ensures.0)) c.loop-b.invariant
