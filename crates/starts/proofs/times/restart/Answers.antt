-- `starts::times::restart` meets its contract. The invariant: the row fits no word before `i`, and the table has the latest finishes of the
-- starts before `i`. Assumes nothing.
use mathlib.Core.Path.{◌≡◌, ◌∙◌}
use Prim.Native.Nat.{ℕ, ◌<◌, ◌^◌}
use lib.ListN.{get_or}
use lib.Dec.{ltb}
use borrow.Author.Tests.{lt-ltb, le-ltb}
use Rattle.starts.specs.Rows.{in_hand_already}
use Rattle.starts.proofs.Rows.{tried_start, tried_more, tried_found, tried_end}
use Rattle.starts.proofs.LatestFinish.{latest-start, latest-more, latest-restart}
use native.Mathlib.Omega.{arith}
use Rattle.starts.proofs.times.restart.Goals as goal

pub loop-i-init : goal.loop-i-init
loop-i-init c = (tried_start, latest-start _ _)

pub offset_bounds-latest-a : goal.offset_bounds-latest-a
offset_bounds-latest-a c = omega arith

pub bounds-latest-a : goal.bounds-latest-a
bounds-latest-a c = omega arith

pub returns-then-start_moment-latest : goal.returns-then-start_moment-latest
returns-then-start_moment-latest c =
    let words : (j : ℕ) → get_or c.args.starts.now j 0 < 2 ^ 32 = λ j. omega (arith, c.type_inv.starts j) in
    let value : in_hand_already c.args.tables.now.job.now c.args.starts.now c.loop-i.i ≡ ltb c.start_moment.result (get_or c.loop-i.latest c.start_action-a.result 0) = latest-restart c.requires words c.loop-i-test.true c.loop-i.invariant.1
    c.start_action-a.ensures.0 c.start_moment.ensures.0 in
    rw c.refuse.ensures (tried_found c.loop-i.invariant.0 (omega arith) c.loop-i-test.true (value ∙ lt-ltb _ _ c.if-start_moment-latest.true))

pub finish_of-requires : goal.finish_of-requires
finish_of-requires c = c.requires.lasts.small _

pub offset_bounds-latest-a-in-loop-i : goal.offset_bounds-latest-a-in-loop-i
offset_bounds-latest-a-in-loop-i c = omega arith

pub bounds-latest-a-in-loop-i : goal.bounds-latest-a-in-loop-i
bounds-latest-a-in-loop-i c = omega arith

pub loop-i-preserved : goal.loop-i-preserved
loop-i-preserved c =
    let words : (j : ℕ) → get_or c.args.starts.now j 0 < 2 ^ 32 = λ j. omega (arith, c.type_inv.starts j) in
    let value : in_hand_already c.args.tables.now.job.now c.args.starts.now c.loop-i.i ≡ ltb c.start_moment.result (get_or c.loop-i.latest c.start_action-a.result 0) = latest-restart c.requires words c.loop-i-test.true c.loop-i.invariant.1
    c.start_action-a.ensures.0 c.start_moment.ensures.0 in
    let inside = c.loop-i-test.true in (
      tried_more c.loop-i.invariant.0 inside (value ∙ le-ltb _ _ c.if-start_moment-latest.false),
      latest-more c.requires words inside c.loop-i.invariant.1 c.start_action-a.ensures.0 c.finish_of.ensures,
    )

pub returns : goal.returns
returns c = tried_end c.loop-i.invariant.0 (omega arith)
